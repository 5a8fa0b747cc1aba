-- Which bytes do not stand in the words of a line, and in a line.
use Rattle.std.proofs.Common.{◌≡◌, ℕ, ◌<◌, ◌^◌, Bool, true, List, [], ◌∷◌, ◌++◌, map, refl, ap, ◌∙◌, arith}
use Rattle.std.specs.Prelude.{◌==◌, codes, decimal}
use Rattle.std.specs.List.{list_all, slice_split, join_with_byte}
use Rattle.std.proofs.lemmas.Bool.{and_parts, and_from, ltb-true}
use Rattle.std.proofs.lemmas.List.Splits.{slice_split_none, slice_split_at}
use Rattle.l4_model.specs.Words.{GlobalId, is_global}
use Rattle.l4_model.specs.Machine.{OrderKind, CancelSend, CancelReceive, CancelBoth, Delete}
use Rattle.l4_model.specs.World.{Name}
use Rattle.l4_model.specs.Steps.{Step, Local, Begin, Queue, Deliver, Wait, SendTimeout, ReceiveTimeout, SendNobody, ReceiveNobody, SendCancel, ReceiveCancel, Drop, Order, Obey, Tick, Retarget}
use Rattle.l4_words.proofs.Above.{is_above, above_parts, above_lower, lacks, decimal_is_above, hexadecimal_is_above}
use Rattle.l4_words.proofs.Spelled.{thread_is_above}
use Rattle.l4_trace.specs.Lines.{hexadecimal, thread_word, name_word, order_kind_word, words_of, is_word, is_name, has_line}

-- Words

abbrev pub parts_at : ℕ → List ℕ → List (List ℕ)
parts_at b w = slice_split (λ x. x == b) w

-- What a delivery that has a line is made of.
pub record IsDelivery (s : Name) (r shown actual : GlobalId) (tag : ℕ) (words : List ℕ) : Type 0 where
  pub has_name : is_name s ≡ true
  pub has_receiver : is_global r ≡ true
  pub has_shown : is_global shown ≡ true
  pub has_actual : is_global actual ≡ true
  pub has_tag : tag < 2 ^ 64
  pub has_words : list_all is_word words ≡ true

pub delivery : (s : Name) (receiver shown actual : GlobalId) (tag : ℕ) (words : List ℕ) → has_line (Deliver s receiver shown actual tag words) ≡ true → IsDelivery s receiver shown actual tag words
delivery s receiver shown actual tag words h =
    let front = and_parts _ _ h in
    let front_1 = and_parts _ _ front.0 in
    let front_2 = and_parts _ _ front_1.0 in
    let front_3 = and_parts _ _ front_2.0 in
    let front_4 = and_parts _ _ front_3.0 in
    let tag_1 = and_parts _ _ front_1.1 in
    let tag_2 = and_parts _ _ tag_1.0 in
    let tag_3 = and_parts _ _ tag_2.0 in
    let tag_4 = and_parts _ _ tag_3.0 in
    record { has_name = front_4.0; has_receiver = front_4.1; has_shown = front_3.1; has_actual = front_2.1; has_tag = ltb-true tag (2 ^ 64) tag_4.0; has_words = front.1 }

-- Lines

-- The words of a line have no space, nor any byte below it.
abbrev pub are_plain : List (List ℕ) → Bool
are_plain words = list_all (is_above 32) words

pub line_is_split : (word : List ℕ) (words : List (List ℕ)) → are_plain (word ∷ words) ≡ true → parts_at 32 (join_with_byte 32 (word ∷ words)) ≡ word ∷ words
line_is_split word [] h = slice_split_none (λ x. x == 32) word (lacks 32 word (and_parts _ _ h).0)
line_is_split word (next ∷ words) h =
    let parts = and_parts (is_above 32 word) (are_plain (next ∷ words)) h in
    slice_split_at (λ x. x == 32) word 32 (join_with_byte 32 (next ∷ words)) (lacks 32 word parts.0) refl
    ∙ ap (λ rest. word ∷ rest) (line_is_split next words parts.1)

pub line_is_above : (words : List (List ℕ)) → are_plain words ≡ true → is_above 10 (join_with_byte 32 words) ≡ true
line_is_above [] h = refl
line_is_above (word ∷ []) h = above_lower 10 32 (omega arith) word (and_parts _ _ h).0
line_is_above (word ∷ next ∷ words) h =
    let parts = and_parts (is_above 32 word) (are_plain (next ∷ words)) h in
    above_parts 10 word (32 ∷ join_with_byte 32 (next ∷ words)) (above_lower 10 32 (omega arith) word parts.0) (line_is_above (next ∷ words) parts.1)

thread_is_plain : (t : GlobalId) → is_global t ≡ true → is_above 32 (thread_word t) ≡ true
thread_is_plain t h = above_lower 32 35 (omega arith) (thread_word t) (thread_is_above t h)

name_is_plain : (s : Name) → is_name s ≡ true → is_above 32 (name_word s) ≡ true
name_is_plain s h =
    let front = and_parts _ _ h in
    let thread = thread_is_plain s.thread (and_parts _ _ front.0).0 in
    let k = above_lower 32 46 (omega arith) (decimal s.k) (decimal_is_above s.k (ltb-true s.k (2 ^ 64) front.1)) in
    above_parts 32 (thread_word s.thread ++ codes "#") (decimal s.k) (above_parts 32 (thread_word s.thread) (codes "#") thread refl) k

decimal_is_plain : (n : ℕ) → n < 2 ^ 64 → is_above 32 (decimal n) ≡ true
decimal_is_plain n h = above_lower 32 46 (omega arith) (decimal n) (decimal_is_above n h)

hexadecimal_is_plain : (n : ℕ) → n < 2 ^ 64 → is_above 32 (hexadecimal n) ≡ true
hexadecimal_is_plain n h = above_lower 32 46 (omega arith) (hexadecimal n) (hexadecimal_is_above n h)

what_is_plain : (what : OrderKind) → is_above 32 (order_kind_word what) ≡ true
what_is_plain CancelSend = refl
what_is_plain CancelReceive = refl
what_is_plain CancelBoth = refl
what_is_plain Delete = refl

words_are_plain : (words : List ℕ) → list_all is_word words ≡ true → are_plain (map hexadecimal words) ≡ true
words_are_plain [] h = refl
words_are_plain (n ∷ words) h =
    let parts = and_parts (is_word n) (list_all is_word words) h in
    and_from _ _ (hexadecimal_is_plain n (ltb-true n (2 ^ 64) parts.0)) (words_are_plain words parts.1)

-- A word and no other.
alone : (word : List ℕ) → is_above 32 word ≡ true → are_plain (word ∷ []) ≡ true
alone word h = and_from (is_above 32 word) true h refl

pub step_is_plain : (step : Step) → has_line step ≡ true → are_plain (words_of step) ≡ true
step_is_plain (Local t) h = alone (thread_word t) (thread_is_plain t h)
step_is_plain (Begin s) h = alone (name_word s) (name_is_plain s h)
step_is_plain (Queue s) h = alone (name_word s) (name_is_plain s h)
step_is_plain (Deliver s receiver shown actual tag words) h =
    let d = delivery s receiver shown actual tag words h in
    and_from _ _ (name_is_plain s d.has_name) (and_from _ _ (thread_is_plain receiver d.has_receiver) (and_from _ _ (thread_is_plain shown d.has_shown)
    (and_from _ _ (thread_is_plain actual d.has_actual) (and_from _ _ (hexadecimal_is_plain tag d.has_tag) (words_are_plain words d.has_words)))))
step_is_plain (Wait t) h = alone (thread_word t) (thread_is_plain t h)
step_is_plain (SendTimeout s) h = alone (name_word s) (name_is_plain s h)
step_is_plain (ReceiveTimeout t) h = alone (thread_word t) (thread_is_plain t h)
step_is_plain (SendNobody s) h = alone (name_word s) (name_is_plain s h)
step_is_plain (ReceiveNobody t) h = alone (thread_word t) (thread_is_plain t h)
step_is_plain (SendCancel s) h = alone (name_word s) (name_is_plain s h)
step_is_plain (ReceiveCancel t) h = alone (thread_word t) (thread_is_plain t h)
step_is_plain (Drop s) h = alone (name_word s) (name_is_plain s h)
step_is_plain (Order caller target what) h =
    let ids = and_parts (is_global caller) (is_global target) h in
    and_from _ _ (thread_is_plain caller ids.0) (and_from _ _ (thread_is_plain target ids.1) (alone (order_kind_word what) (what_is_plain what)))
step_is_plain (Obey caller) h = alone (thread_word caller) (thread_is_plain caller h)
step_is_plain (Tick cpu clock) h =
    let both = and_parts _ _ h in
    let small_cpu = ltb-true cpu 16 (and_parts _ _ both.0).0 in
    let small_clock = ltb-true clock (2 ^ 62) both.1 in
    and_from _ _ (decimal_is_plain cpu (omega arith)) (alone (decimal clock) (decimal_is_plain clock (omega arith)))
step_is_plain (Retarget s) h = alone (name_word s) (name_is_plain s h)
