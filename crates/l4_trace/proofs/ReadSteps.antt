-- Steps are read as they are written, and are written as they are read.
use Rattle.std.proofs.Common.{◌≡◌, ℕ, ◌+◌, ◌<◌, ◌^◌, ◌/◌, ◌%◌, Bool, true, false, cond, List, [], ◌∷◌, ◌++◌, map, length, Some, refl, sym, ap, ◌∙◌, append-nil, append_assoc, arith}
use Rattle.std.specs.Prelude.{◌==◌, ◌&&◌, nat_lt, codes, decimal}
use Rattle.std.specs.List.{list_all, join_with_byte}
use Rattle.std.specs.Option.{option_map}
use Rattle.std.specs.Str.{bytes_eq}
use Rattle.std.proofs.lemmas.Bool.{and_parts, and_from, ltb-true, lt-ltb, eqb-true}
use Rattle.std.proofs.lemmas.List.{length-append}
use Rattle.std.proofs.lemmas.List.Splits.{join_with_byte-slice_split}
use Rattle.std.proofs.lemmas.Slice.Eq.{bytes_eq-Decides}
use Rattle.l4_model.specs.Words.{GlobalId, is_global}
use Rattle.l4_model.specs.Machine.{OrderKind, CancelSend, CancelReceive, CancelBoth, Delete}
use Rattle.l4_model.specs.World.{Name}
use Rattle.l4_model.specs.Steps.{Step, Local, Begin, Queue, Deliver, Wait, SendTimeout, ReceiveTimeout, SendNobody, ReceiveNobody, SendCancel, ReceiveCancel, Drop, Order, Obey, Tick, Retarget}
use Rattle.l4_model.specs.Conditions.{◌>>=◌}
use Rattle.l4_trace.specs.Lines.{hexadecimal, thread_word, name_word, order_kind_word, words_of, is_word, is_name, is_tag_of, has_line}
use Rattle.l4_words.specs.Numbers.{number_of}
use Rattle.l4_words.specs.Threads.{thread_of}
use Rattle.l4_words.specs.Words.{words_in, one, two, three, first_five}
use Rattle.l4_words.specs.Names.{name_of}
use Rattle.l4_trace.specs.Reading.{message_words, delivery_of, order_kind_of_word, order_of, tick_of, of_thread, of_name, step_behind, step_of_words, step_of_line}
use Rattle.l4_words.proofs.Numerals.{decimal_is_read, decimal_is_written, hexadecimal_is_read, hexadecimal_is_written}
use Rattle.l4_trace.proofs.Plain.{are_plain, delivery, line_is_split, step_is_plain}
use Rattle.l4_words.proofs.Found.{some_same, some_bind, some_then, mapped}
use Rattle.l4_words.proofs.Spelled.{thread_is_read, thread_is_written}
use Rattle.l4_words.proofs.ReadNames.{name_is_read, name_is_written}

-- What is written is read

message_is_read : (read words : List ℕ) → list_all is_word words ≡ true → length read + length words < 64 → message_words read (map hexadecimal words) ≡ Some (read ++ words)
message_is_read read [] h few = ap (λ (ws : List ℕ). Some ws) (sym (append-nil read))
message_is_read read (word ∷ words) h few =
    let parts = and_parts (is_word word) (list_all is_word words) h in
    let room : nat_lt (length read) 63 ≡ true = lt-ltb (length read) 63 (omega (arith, few)) in
    let others = message_is_read (read ++ word ∷ []) words parts.1 (omega (arith, few, length-append read (word ∷ []))) in
    rw (hexadecimal_is_read word (ltb-true word (2 ^ 64) parts.0), room, others) (ap (λ (ws : List ℕ). Some ws) (append_assoc read (word ∷ []) words))

what_is_read : (what : OrderKind) → order_kind_of_word (order_kind_word what) ≡ Some what
what_is_read CancelSend = refl
what_is_read CancelReceive = refl
what_is_read CancelBoth = refl
what_is_read Delete = refl

counted : (tag : ℕ) (words : List ℕ) → is_tag_of tag words ≡ true → length words < 64
counted tag words h =
    let count : tag % 64 ≡ length words = eqb-true (tag % 64) (length words) (and_parts (is_word tag && (tag / 2 ^ 6) % 64 == 0 && (tag / 2 ^ 13) % 2 == 0 && (tag / 2 ^ 15) % 2 == 0) (tag % 64 == length words) h).1 in
    omega (arith, count)

delivery_is_read : (s : Name) (receiver shown actual : GlobalId) (tag : ℕ) (words : List ℕ) → has_line (Deliver s receiver shown actual tag words) ≡ true →
    delivery_of (name_word s ∷ thread_word receiver ∷ thread_word shown ∷ thread_word actual ∷ hexadecimal tag ∷ map hexadecimal words) ≡ Some (Deliver s receiver shown actual tag words)
unfolding delivery_of
delivery_is_read s receiver shown actual tag words h =
    let d = delivery s receiver shown actual tag words h in
    let right = (and_parts (is_name s && is_global receiver && is_global shown && is_global actual) (is_tag_of tag words) (and_parts _ _ h).0).1 in
    let few : length {A = ℕ} [] + length words < 64 = omega (arith, counted tag words right) in
    rw (
      name_is_read s d.has_name,
      thread_is_read receiver d.has_receiver,
      thread_is_read shown d.has_shown,
      thread_is_read actual d.has_actual,
      hexadecimal_is_read tag d.has_tag,
      message_is_read [] words d.has_words few,
      right,
    ) refl

order_is_read : (caller target : GlobalId) (what : OrderKind) → is_global caller ≡ true → is_global target ≡ true →
    order_of (thread_word caller ∷ thread_word target ∷ order_kind_word what ∷ []) ≡ Some (Order caller target what)
unfolding order_of
order_is_read caller target what c t = rw (thread_is_read caller c, thread_is_read target t, what_is_read what) refl

tick_is_read : (cpu clock : ℕ) → has_line (Tick cpu clock) ≡ true → tick_of (decimal cpu ∷ decimal clock ∷ []) ≡ Some (Tick cpu clock)
unfolding tick_of
tick_is_read cpu clock h =
    let both = and_parts _ _ h in
    let small_cpu = ltb-true cpu 16 (and_parts _ _ both.0).0 in
    let small_clock = ltb-true clock (2 ^ 62) both.1 in
    rw (decimal_is_read cpu (omega (arith, small_cpu)), decimal_is_read clock (omega (arith, small_clock)), h) refl

thread_alone : (t : GlobalId) → is_global t ≡ true → of_thread (thread_word t ∷ []) ≡ Some t
unfolding of_thread
thread_alone = thread_is_read

name_alone : (s : Name) → is_name s ≡ true → of_name (name_word s ∷ []) ≡ Some s
unfolding of_name
name_alone = name_is_read

words_are_read : (step : Step) → has_line step ≡ true → step_of_words (words_of step) ≡ Some step
unfolding step_behind
words_are_read (Local t) h = ap (option_map Local) (thread_alone t h)
words_are_read (Begin s) h = ap (option_map Begin) (name_alone s h)
words_are_read (Queue s) h = ap (option_map Queue) (name_alone s h)
words_are_read (Deliver s receiver shown actual tag words) h = delivery_is_read s receiver shown actual tag words h
words_are_read (Wait t) h = ap (option_map Wait) (thread_alone t h)
words_are_read (SendTimeout s) h = ap (option_map SendTimeout) (name_alone s h)
words_are_read (ReceiveTimeout t) h = ap (option_map ReceiveTimeout) (thread_alone t h)
words_are_read (SendNobody s) h = ap (option_map SendNobody) (name_alone s h)
words_are_read (ReceiveNobody t) h = ap (option_map ReceiveNobody) (thread_alone t h)
words_are_read (SendCancel s) h = ap (option_map SendCancel) (name_alone s h)
words_are_read (ReceiveCancel t) h = ap (option_map ReceiveCancel) (thread_alone t h)
words_are_read (Drop s) h = ap (option_map Drop) (name_alone s h)
words_are_read (Order caller target what) h = let ids = and_parts (is_global caller) (is_global target) h in order_is_read caller target what ids.0 ids.1
words_are_read (Obey t) h = ap (option_map Obey) (thread_alone t h)
words_are_read (Tick cpu clock) h = tick_is_read cpu clock h
words_are_read (Retarget s) h = ap (option_map Retarget) (name_alone s h)

-- A line without its end.
abbrev pub body_of : Step → List ℕ
body_of step = join_with_byte 32 (words_of step)

split_words : (words : List (List ℕ)) → are_plain words ≡ true → 0 < length words → words_in (join_with_byte 32 words) ≡ words
split_words [] h some = absurd (omega (arith, some))
split_words (word ∷ words) h some = line_is_split word words h

has_words : (step : Step) → 0 < length (words_of step)
has_words (Local t) = omega arith
has_words (Begin s) = omega arith
has_words (Queue s) = omega arith
has_words (Deliver s receiver shown actual tag words) = omega arith
has_words (Wait t) = omega arith
has_words (SendTimeout s) = omega arith
has_words (ReceiveTimeout t) = omega arith
has_words (SendNobody s) = omega arith
has_words (ReceiveNobody t) = omega arith
has_words (SendCancel s) = omega arith
has_words (ReceiveCancel t) = omega arith
has_words (Drop s) = omega arith
has_words (Order caller target what) = omega arith
has_words (Obey t) = omega arith
has_words (Tick cpu clock) = omega arith
has_words (Retarget s) = omega arith

pub line_is_read : (step : Step) → has_line step ≡ true → step_of_line (body_of step) ≡ Some step
unfolding step_of_line
line_is_read step h = ap step_of_words (split_words (words_of step) (step_is_plain step h) (has_words step)) ∙ words_are_read step h

-- What is read is written

record AreWordsOf (words : List (List ℕ)) (step : Step) : Type 0 where
  spelled : has_line step ≡ true
  same : words_of step ≡ words

-- A choice was made one way or the other.
chosen : {A : Type 0} (P : Type 0) (test : Bool) (x y : A) (z : A) → cond test x y ≡ z → (test ≡ true → x ≡ z → P) → (y ≡ z → P) → P
chosen P true x y z e first second = first refl e
chosen P false x y z e first second = second e

same_bytes : (xs ys : List ℕ) → bytes_eq xs ys ≡ true → xs ≡ ys
same_bytes xs ys e = (bytes_eq-Decides xs ys).0 e

is_keyword : (first keyword : List ℕ) → bytes_eq first keyword ≡ true → keyword ≡ first
is_keyword first keyword is = sym (same_bytes first keyword is)

one_is : (operands : List (List ℕ)) (a : List ℕ) → one operands ≡ Some a → operands ≡ a ∷ []
one_is [] a e = cc
one_is (x ∷ []) a e = let same : x ≡ a = some_same x a e in ap (λ (w : List ℕ). w ∷ []) same
one_is (x ∷ y ∷ rest) a e = cc

two_is : (operands : List (List ℕ)) (a : List ℕ × List ℕ) → two operands ≡ Some a → operands ≡ a.0 ∷ a.1 ∷ []
two_is (x ∷ y ∷ []) a e = let same : (x, y) ≡ a = some_same (x, y) a e in ap (λ (w : List ℕ × List ℕ). w.0 ∷ w.1 ∷ []) same
two_is _ a e = cc

three_is : (operands : List (List ℕ)) (a : List ℕ × List ℕ × List ℕ) → three operands ≡ Some a → operands ≡ a.0 ∷ a.1 ∷ a.2 ∷ []
three_is (x ∷ y ∷ z ∷ []) a e = let same : (x, y, z) ≡ a = some_same (x, y, z) a e in ap (λ (w : List ℕ × List ℕ × List ℕ). w.0 ∷ w.1 ∷ w.2 ∷ []) same
three_is _ a e = cc

five_is : (operands : List (List ℕ)) (a : List ℕ × List ℕ × List ℕ × List ℕ × List ℕ × List (List ℕ)) → first_five operands ≡ Some a → operands ≡ a.0 ∷ a.1 ∷ a.2 ∷ a.3 ∷ a.4 ∷ a.5
five_is (v ∷ w ∷ x ∷ y ∷ z ∷ rest) a e =
    let same : (v, w, x, y, z, rest) ≡ a = some_same (v, w, x, y, z, rest) a e in
    ap (λ (w : List ℕ × List ℕ × List ℕ × List ℕ × List ℕ × List (List ℕ)). w.0 ∷ w.1 ∷ w.2 ∷ w.3 ∷ w.4 ∷ w.5) same
five_is _ a e = cc

thread_kind : (kind : GlobalId → Step) (keyword first : List ℕ) (operands : List (List ℕ)) (step : Step) →
    ((t : GlobalId) → is_global t ≡ true → has_line (kind t) ≡ true) → ((t : GlobalId) → words_of (kind t) ≡ keyword ∷ thread_word t ∷ []) →
    bytes_eq first keyword ≡ true → option_map kind (of_thread operands) ≡ Some step → AreWordsOf (first ∷ operands) step
unfolding of_thread
thread_kind kind keyword first operands step right words is e =
    let m = mapped kind (one operands >>= thread_of) step e in
    let b = some_bind (one operands) thread_of m.0 m.1 in
    let t = thread_is_written b.0 m.0 b.2 in
    record {
      spelled = ap has_line (sym m.2) ∙ right m.0 t.0;
      same = ap words_of (sym m.2) ∙ words m.0 ∙ (λ i. is_keyword first keyword is i ∷ t.1 i ∷ []) ∙ ap (λ (ws : List (List ℕ)). first ∷ ws) (sym (one_is operands b.0 b.1));
    }

name_kind : (kind : Name → Step) (keyword first : List ℕ) (operands : List (List ℕ)) (step : Step) →
    ((s : Name) → is_name s ≡ true → has_line (kind s) ≡ true) → ((s : Name) → words_of (kind s) ≡ keyword ∷ name_word s ∷ []) →
    bytes_eq first keyword ≡ true → option_map kind (of_name operands) ≡ Some step → AreWordsOf (first ∷ operands) step
unfolding of_name
name_kind kind keyword first operands step right words is e =
    let m = mapped kind (one operands >>= name_of) step e in
    let b = some_bind (one operands) name_of m.0 m.1 in
    let t = name_is_written b.0 m.0 b.2 in
    record {
      spelled = ap has_line (sym m.2) ∙ right m.0 t.0;
      same = ap words_of (sym m.2) ∙ words m.0 ∙ (λ i. is_keyword first keyword is i ∷ t.1 i ∷ []) ∙ ap (λ (ws : List (List ℕ)). first ∷ ws) (sym (one_is operands b.0 b.1));
    }

what_is_written : (word : List ℕ) (what : OrderKind) → order_kind_of_word word ≡ Some what → order_kind_word what ≡ word
what_is_written word what e =
    chosen (order_kind_word what ≡ word) _ _ _ _ e (λ is h. ap order_kind_word (sym (some_same CancelSend what h)) ∙ sym (same_bytes word _ is))
    (λ e. chosen (order_kind_word what ≡ word) _ _ _ _ e (λ is h. ap order_kind_word (sym (some_same CancelReceive what h)) ∙ sym (same_bytes word _ is))
    (λ e. chosen (order_kind_word what ≡ word) _ _ _ _ e (λ is h. ap order_kind_word (sym (some_same CancelBoth what h)) ∙ sym (same_bytes word _ is))
    (λ e. chosen (order_kind_word what ≡ word) _ _ _ _ e (λ is h. ap order_kind_word (sym (some_same Delete what h)) ∙ sym (same_bytes word _ is))
    (λ e. absurd cc))))

order_is_written : (first : List ℕ) (operands : List (List ℕ)) (step : Step) → bytes_eq first (codes "order") ≡ true → order_of operands ≡ Some step → AreWordsOf (first ∷ operands) step
unfolding order_of
order_is_written first operands step is e =
    let w = some_bind (three operands) _ step e in
    let c = some_bind (thread_of w.0.0) _ step w.2 in
    let t = some_bind (thread_of w.0.1) _ step c.2 in
    let k = some_bind (order_kind_of_word w.0.2) _ step t.2 in
    let same = some_same (Order c.0 t.0 k.0) step k.2 in
    let caller = thread_is_written w.0.0 c.0 c.1 in
    let target = thread_is_written w.0.1 t.0 t.1 in
    let what = what_is_written w.0.2 k.0 k.1 in
    record {
      spelled = ap has_line (sym same) ∙ and_from _ _ caller.0 target.0;
      same = ap words_of (sym same) ∙ (λ i. is_keyword first (codes "order") is i ∷ caller.1 i ∷ target.1 i ∷ what i ∷ []) ∙ ap (λ (ws : List (List ℕ)). first ∷ ws) (sym (three_is operands w.0 w.1));
    }

tick_is_written : (first : List ℕ) (operands : List (List ℕ)) (step : Step) → bytes_eq first (codes "tick") ≡ true → tick_of operands ≡ Some step → AreWordsOf (first ∷ operands) step
unfolding tick_of
tick_is_written first operands step is e =
    let w = some_bind (two operands) _ step e in
    let c = some_bind (number_of 10 w.0.0) _ step w.2 in
    let n = some_bind (number_of 10 w.0.1) _ step c.2 in
    let t = some_then (nat_lt c.0 16 && nat_lt 0 n.0 && nat_lt n.0 (2 ^ 62)) _ step n.2 in
    let same = some_same (Tick c.0 n.0) step t.1 in
    let cpu = decimal_is_written c.0 w.0.0 c.1 in
    let clock = decimal_is_written n.0 w.0.1 n.1 in
    record {
      spelled = ap has_line (sym same) ∙ t.0;
      same = ap words_of (sym same) ∙ (λ i. is_keyword first (codes "tick") is i ∷ cpu.1 i ∷ clock.1 i ∷ []) ∙ ap (λ (ws : List (List ℕ)). first ∷ ws) (sym (two_is operands w.0 w.1));
    }

-- The words of a message were appended to those that were read.
pub record AreRead (read out : List ℕ) (spelled : List (List ℕ)) : Type 0 where
  pub words : List ℕ
  pub appended : out ≡ read ++ words
  pub same : map hexadecimal words ≡ spelled
  pub are_words : list_all is_word words ≡ true

pub message_is_written : (read out : List ℕ) (spelled : List (List ℕ)) → message_words read spelled ≡ Some out → AreRead read out spelled
message_is_written read out [] e = record { words = []; appended = sym (some_same read out e) ∙ sym (append-nil read); same = refl; are_words = refl }
message_is_written read out (word ∷ others) e =
    let w = some_bind (number_of 16 word) _ out e in
    let t = some_then (nat_lt (length read) 63) _ out w.2 in
    let more = message_is_written (read ++ w.0 ∷ []) out others t.1 in
    let n = hexadecimal_is_written w.0 word w.1 in
    record {
      words = w.0 ∷ more.words;
      appended = more.appended ∙ append_assoc read (w.0 ∷ []) more.words;
      same = (λ i. n.1 i ∷ more.same i);
      are_words = and_from _ _ (lt-ltb w.0 (2 ^ 64) n.0) more.are_words;
    }

delivery_is_written : (first : List ℕ) (operands : List (List ℕ)) (step : Step) → bytes_eq first (codes "deliver") ≡ true → delivery_of operands ≡ Some step → AreWordsOf (first ∷ operands) step
unfolding delivery_of
delivery_is_written first operands step is e =
    let w = some_bind (first_five operands) _ step e in
    let s = some_bind (name_of w.0.0) _ step w.2 in
    let r = some_bind (thread_of w.0.1) _ step s.2 in
    let h = some_bind (thread_of w.0.2) _ step r.2 in
    let a = some_bind (thread_of w.0.3) _ step h.2 in
    let t = some_bind (number_of 16 w.0.4) _ step a.2 in
    let m = some_bind (message_words [] w.0.5) _ step t.2 in
    let d = some_then (is_tag_of t.0 m.0) _ step m.2 in
    let same = some_same (Deliver s.0 r.0 h.0 a.0 t.0 m.0) step d.1 in
    let name = name_is_written w.0.0 s.0 s.1 in
    let receiver = thread_is_written w.0.1 r.0 r.1 in
    let shown = thread_is_written w.0.2 h.0 h.1 in
    let actual = thread_is_written w.0.3 a.0 a.1 in
    let tag = hexadecimal_is_written t.0 w.0.4 t.1 in
    let message = message_is_written [] m.0 w.0.5 m.1 in
    record {
      spelled = ap has_line (sym same) ∙ and_from _ _ (and_from _ _ (and_from _ _ (and_from _ _ (and_from _ _ name.0 receiver.0) shown.0) actual.0) d.0) (ap (list_all is_word) message.appended ∙ message.are_words);
      same =
          ap words_of (sym same)
          ∙ (λ i. is_keyword first (codes "deliver") is i ∷ name.1 i ∷ receiver.1 i ∷ shown.1 i ∷ actual.1 i ∷ tag.1 i ∷ (ap (map hexadecimal) message.appended ∙ message.same) i)
          ∙ ap (λ (ws : List (List ℕ)). first ∷ ws) (sym (five_is operands w.0 w.1));
    }

words_are_written : (words : List (List ℕ)) (step : Step) → step_of_words words ≡ Some step → AreWordsOf words step
unfolding step_behind
words_are_written [] step e = cc
words_are_written (first ∷ operands) step e =
    chosen (AreWordsOf (first ∷ operands) step) (bytes_eq first (codes "local")) _ _ (Some step) e (λ is h. thread_kind Local (codes "local") first operands step (λ t h. h) (λ t. refl) is h)
    (λ e. chosen (AreWordsOf (first ∷ operands) step) (bytes_eq first (codes "begin")) _ _ (Some step) e (λ is h. name_kind Begin (codes "begin") first operands step (λ s h. h) (λ s. refl) is h)
    (λ e. chosen (AreWordsOf (first ∷ operands) step) (bytes_eq first (codes "queue")) _ _ (Some step) e (λ is h. name_kind Queue (codes "queue") first operands step (λ s h. h) (λ s. refl) is h)
    (λ e. chosen (AreWordsOf (first ∷ operands) step) (bytes_eq first (codes "deliver")) _ _ (Some step) e (λ is h. delivery_is_written first operands step is h)
    (λ e. chosen (AreWordsOf (first ∷ operands) step) (bytes_eq first (codes "wait")) _ _ (Some step) e (λ is h. thread_kind Wait (codes "wait") first operands step (λ t h. h) (λ t. refl) is h)
    (λ e. chosen (AreWordsOf (first ∷ operands) step) (bytes_eq first (codes "stimeout")) _ _ (Some step) e (λ is h. name_kind SendTimeout (codes "stimeout") first operands step (λ s h. h) (λ s. refl) is h)
    (λ e. chosen (AreWordsOf (first ∷ operands) step) (bytes_eq first (codes "rtimeout")) _ _ (Some step) e (λ is h. thread_kind ReceiveTimeout (codes "rtimeout") first operands step (λ t h. h) (λ t. refl) is h)
    (λ e. chosen (AreWordsOf (first ∷ operands) step) (bytes_eq first (codes "snobody")) _ _ (Some step) e (λ is h. name_kind SendNobody (codes "snobody") first operands step (λ s h. h) (λ s. refl) is h)
    (λ e. chosen (AreWordsOf (first ∷ operands) step) (bytes_eq first (codes "rnobody")) _ _ (Some step) e (λ is h. thread_kind ReceiveNobody (codes "rnobody") first operands step (λ t h. h) (λ t. refl) is h)
    (λ e. chosen (AreWordsOf (first ∷ operands) step) (bytes_eq first (codes "scancel")) _ _ (Some step) e (λ is h. name_kind SendCancel (codes "scancel") first operands step (λ s h. h) (λ s. refl) is h)
    (λ e. chosen (AreWordsOf (first ∷ operands) step) (bytes_eq first (codes "rcancel")) _ _ (Some step) e (λ is h. thread_kind ReceiveCancel (codes "rcancel") first operands step (λ t h. h) (λ t. refl) is h)
    (λ e. chosen (AreWordsOf (first ∷ operands) step) (bytes_eq first (codes "drop")) _ _ (Some step) e (λ is h. name_kind Drop (codes "drop") first operands step (λ s h. h) (λ s. refl) is h)
    (λ e. chosen (AreWordsOf (first ∷ operands) step) (bytes_eq first (codes "order")) _ _ (Some step) e (λ is h. order_is_written first operands step is h)
    (λ e. chosen (AreWordsOf (first ∷ operands) step) (bytes_eq first (codes "obey")) _ _ (Some step) e (λ is h. thread_kind Obey (codes "obey") first operands step (λ t h. h) (λ t. refl) is h)
    (λ e. chosen (AreWordsOf (first ∷ operands) step) (bytes_eq first (codes "tick")) _ _ (Some step) e (λ is h. tick_is_written first operands step is h)
    (λ e. chosen (AreWordsOf (first ∷ operands) step) (bytes_eq first (codes "retarget")) _ _ (Some step) e (λ is h. name_kind Retarget (codes "retarget") first operands step (λ s h. h) (λ s. refl) is h)
    (λ e. absurd cc))))))))))))))))

pub record IsLineOf (line : List ℕ) (step : Step) : Type 0 where
  pub spelled : has_line step ≡ true
  pub same : body_of step ≡ line

pub line_is_written : (line : List ℕ) (step : Step) → step_of_line line ≡ Some step → IsLineOf line step
unfolding step_of_line
line_is_written line step e =
    let w = words_are_written (words_in line) step e in
    record { spelled = w.spelled; same = ap (join_with_byte 32) w.same ∙ join_with_byte-slice_split 32 line }
