-- Lines that are written are read: their words, and what these say.
use Rattle.std.proofs.Common.{◌≡◌, ℕ, zero, suc, ◌/◌, ◌%◌, ◌^◌, ◌-◌, ◌<◌, ◌≤◌, Bool, true, false, not, ◌&&◌, eqb, List, [], ◌∷◌, ◌++◌, length, get_or, cond, Some, None, Ok, refl, ap, ◌∙◌, arith}
use Rattle.std.specs.Prelude.{◌==◌, nat_lt, nat_le, codes, decimal}
use Rattle.std.specs.Char.{digit_value}
use Rattle.std.specs.Fmt.{digit_glyph}
use Rattle.std.specs.Str.Parse.{AllDigits}
use Rattle.std.specs.List.{All, list_all, list_any, join_with_byte}
use Rattle.std.proofs.lemmas.Bool.{false≢true, agree_below_at, and_parts, and_from, or_from, ltb-true, leb-true, le-leb, lt-ltb, ne_eqb, not-true, eqb-false}
use Rattle.std.proofs.lemmas.Bool.Decides.{nat_tests}
use Rattle.std.proofs.lemmas.List.Elements.{All-nil, All-cons}
use Rattle.std.proofs.lemmas.List.Folds.{list_all-append}
use Rattle.std.proofs.lemmas.List.Splits.{slice_split_none, slice_split_at}
use Rattle.std.proofs.lemmas.Fmt.{decimal_is_IsNumeral}
use Rattle.l4_model.specs.Words.{Format, W64, W32, word_limit, is_word_in, GlobalId, is_global_in, has_word_in, Id, NilThread, AnyThread, AnyLocalThread, LocalThread, GlobalThread, Period}
use Rattle.l4_model.specs.Machine.{IdFrom, Fixed, Last, InRegister, CancelSend, CancelReceive, CancelBoth, Delete, Value, Assign, Instr, Run, Tag, Vs, Ipc, Ask, Jump, OnErr, OnLabel, OnWord, OnFrom, End, Declaration}
use Rattle.l4_types.proofs.InFormats.{is_global_too}
use Rattle.l4_words.specs.Threads.{thread_word}
use Rattle.l4_words.specs.Words.{words_in}
use Rattle.l4_words.proofs.Spelled.{fits}
use Rattle.l4_script.specs.Numbers.{number_of}
use Rattle.l4_script.specs.Ids.{id_digits}
use Rattle.l4_script.specs.Lines.{is_printable, has_empty_word, is_skipped, line_of}
use Rattle.l4_script.specs.Operations.{operation_named}
use Rattle.l4_script.specs.Statements.{Heading, format_line, processors_line, processor_of, declaration_of, value_of, assign_of, tag_of, vs_of, ipc_of, bits_of, exregs_of, delete_of, target_of, other_of, instruction_of}
use Rattle.l4_script.specs.Texts.{Stage, Start, Processors, Threads, Reading, nothing_read, declared_in, extended_at, thread_line, after_words, after_line}
use Rattle.l4_script.specs.Canonical.{low_digits, id_word, id_from_word, exponent_of, ticks_word, time_word, words_of_instruction, words_of_thread, words_of_format, keyword_of, operand_of, is_register, has_id, has_destination, has_time, can_be_assigned, can_be_written, can_be_declared}
use Rattle.l4_script.proofs.Spelled.{is_plain, number_read, ranged_read, word_small, word_read, thread_in_read, id_read, destination_read}
use Rattle.l4_script.proofs.SimpleLines.{is_word_byte, least, most}
use Rattle.l4_script.proofs.Times.{IsTimeOf, spelled_time, time_read}
use Rattle.l4_script.proofs.Values.{keyword_is, operand_small, value_read}

abbrev pub are_plain : List (List ℕ) → Bool
are_plain words = list_all is_plain words

-- The words of a line that is no comment; 59 is the byte of `;`.
abbrev pub are_line : List (List ℕ) → Bool
are_line [] = false
are_line (word ∷ words) = not (get_or word 0 0 == 59) && are_plain (word ∷ words)

-- The bytes of a line

no_space : (w : List ℕ) → list_all is_word_byte w ≡ true → All (λ x. eqb x 32 ≡ false) w
no_space [] h = All-nil _
no_space (x ∷ xs) h =
    let parts = and_parts (is_word_byte x) (list_all is_word_byte xs) h in
    let above : 33 ≤ x = least x parts.0 in
    let other : eqb x 32 ≡ false = ne_eqb x 32 (λ e. absurd (omega (arith, e, above))) in
    All-cons (λ x. eqb x 32 ≡ false) x xs other (no_space xs parts.1)

visible_is_printable : (w : List ℕ) → list_all is_word_byte w ≡ true → is_printable w ≡ true
visible_is_printable [] h = refl
visible_is_printable (x ∷ xs) h =
    let parts = and_parts (is_word_byte x) (list_all is_word_byte xs) h in
    let above = le-leb 0x20 x (omega (arith, least x parts.0)) in
    let below = le-leb x 0x7e (most x parts.0) in
    and_from _ _ (and_from _ _ above below) (visible_is_printable xs parts.1)

pub words_split : (word : List ℕ) (words : List (List ℕ)) → are_plain (word ∷ words) ≡ true → words_in (join_with_byte 32 (word ∷ words)) ≡ word ∷ words
words_split word [] h = slice_split_none (λ x. x == 32) word (no_space word (and_parts _ _ (and_parts _ _ h).0).1)
words_split word (next ∷ words) h =
    let parts = and_parts (is_plain word) (are_plain (next ∷ words)) h in
    slice_split_at (λ x. x == 32) word 32 (join_with_byte 32 (next ∷ words)) (no_space word (and_parts _ _ parts.0).1) refl
    ∙ ap (λ (rest : List (List ℕ)). word ∷ rest) (words_split next words parts.1)

line_is_printable : (words : List (List ℕ)) → are_plain words ≡ true → is_printable (join_with_byte 32 words) ≡ true
line_is_printable [] h = refl
line_is_printable (word ∷ []) h = visible_is_printable word (and_parts _ _ (and_parts _ _ h).0).1
line_is_printable (word ∷ next ∷ words) h =
    let parts = and_parts (is_plain word) (are_plain (next ∷ words)) h in
    list_all-append _ word (32 ∷ join_with_byte 32 (next ∷ words))
    ∙ and_from _ _ (visible_is_printable word (and_parts _ _ parts.0).1) (line_is_printable (next ∷ words) parts.1)

printable_lacks_end : (line : List ℕ) → is_printable line ≡ true → All (λ x. eqb x 10 ≡ false) line
printable_lacks_end [] h = All-nil _
printable_lacks_end (x ∷ xs) h =
    let parts = and_parts _ (is_printable xs) h in
    let above = (and_parts (nat_le 0x20 x) (nat_le x 0x7e) parts.0).0 in
    let other : eqb x 10 ≡ false = grind (arith, nat_tests, above) in
    All-cons (λ x. eqb x 10 ≡ false) x xs other (printable_lacks_end xs parts.1)

pub are_plain_words : (words : List (List ℕ)) → are_line words ≡ true → are_plain words ≡ true
are_plain_words [] h = refl
are_plain_words (word ∷ words) h = (and_parts _ _ h).1

pub line_lacks_end : (words : List (List ℕ)) → are_line words ≡ true → All (λ x. eqb x 10 ≡ false) (join_with_byte 32 words)
line_lacks_end words h = printable_lacks_end (join_with_byte 32 words) (line_is_printable words (are_plain_words words h))

no_empty_word : (words : List (List ℕ)) → are_plain words ≡ true → list_any (λ word. length word == 0) words ≡ false
no_empty_word [] h = refl
no_empty_word (word ∷ words) h =
    let parts = and_parts (is_plain word) (are_plain words) h in
    let filled = ltb-true 0 (length word) (and_parts _ _ parts.0).0 in
    rw (ne_eqb (length word) 0 (λ e. absurd (omega (arith, filled, e))), no_empty_word words parts.1) refl

filled_line : (c : ℕ) (cs : List ℕ) → (length (c ∷ cs) == 0) ≡ false
filled_line c cs = ne_eqb (length (c ∷ cs)) 0 (λ e. absurd (omega (arith, e)))

is_said : (word : List ℕ) (words : List (List ℕ)) → are_line (word ∷ words) ≡ true → is_skipped (join_with_byte 32 (word ∷ words)) ≡ false
is_said [] words h = absurd cc
is_said (c ∷ cs) [] h = or_from _ _ (filled_line c cs) (not-true (c == 59) (and_parts (not (c == 59)) (are_plain ((c ∷ cs) ∷ [])) h).0)
is_said (c ∷ cs) (next ∷ words) h = or_from _ _ (filled_line c (cs ++ 32 ∷ join_with_byte 32 (next ∷ words))) (not-true (c == 59) (and_parts (not (c == 59)) (are_plain ((c ∷ cs) ∷ next ∷ words)) h).0)

line_read : (words : List (List ℕ)) → are_line words ≡ true → line_of (join_with_byte 32 words) ≡ Ok (Some words)
unfolding line_of
line_read [] h = absurd cc
line_read (word ∷ words) h =
    let plain = (and_parts _ _ h).1 in
    let filled : has_empty_word (join_with_byte 32 (word ∷ words)) ≡ false = ap (λ (ws : List (List ℕ)). list_any (λ w. length w == 0) ws) (words_split word words plain) ∙ no_empty_word (word ∷ words) plain in
    rw (line_is_printable (word ∷ words) plain, is_said word words h, filled, words_split word words plain) refl

pub after_line_read : (n : ℕ) (stage : Stage) (words : List (List ℕ)) → are_line words ≡ true → after_line n stage (join_with_byte 32 words) ≡ after_words n stage words
unfolding after_line
after_line_read n stage words h = rw (line_read words h) refl

-- The words of a thread and of an instruction

digits_are_visible : (radix : ℕ) (w : List ℕ) → radix ≤ 16 → AllDigits radix w → list_all is_word_byte w ≡ true
digits_are_visible radix [] upper h = refl
digits_are_visible radix (c ∷ cs) upper h =
    let value : digit_value c < radix = h.0 in
    let shown : is_word_byte c ≡ true = grind (arith, nat_tests, value) in
    and_from _ _ shown (digits_are_visible radix cs upper h.1)

number_is_word_byte : (n : ℕ) → n < 2 ^ 64 → list_all is_word_byte (decimal n) ≡ true
number_is_word_byte n small = digits_are_visible 10 (decimal n) (omega arith) (decimal_is_IsNumeral n small).0.1

glyph_is_word_byte : (d : ℕ) → d < 16 → is_word_byte (digit_glyph false d) ≡ true
glyph_is_word_byte d l = agree_below_at (λ d. is_word_byte (digit_glyph false d)) (λ d. true) 16 d refl l

low_digits_are_visible : (k n : ℕ) → list_all is_word_byte (low_digits k n) ≡ true
unfolding low_digits
low_digits_are_visible zero n = refl
low_digits_are_visible (suc k) n =
    list_all-append is_word_byte (low_digits k (n / 16)) (digit_glyph false (n % 16) ∷ [])
    ∙ and_from _ _ (low_digits_are_visible k (n / 16)) (and_from _ true (glyph_is_word_byte (n % 16) (omega arith)) refl)

pub number_is_plain : (n : ℕ) → n < 2 ^ 64 → is_plain (decimal n) ≡ true
number_is_plain n small = and_from _ _ (lt-ltb 0 (length (decimal n)) (decimal_is_IsNumeral n small).0.0) (number_is_word_byte n small)

pub filled_front : (xs ys : List ℕ) → is_plain xs ≡ true → list_all is_word_byte ys ≡ true → is_plain (xs ++ ys) ≡ true
filled_front [] ys p q = absurd cc
filled_front (x ∷ xs) ys p q =
    let parts = and_parts (nat_lt 0 (length (x ∷ xs))) (list_all is_word_byte (x ∷ xs)) p in
    and_from _ _ (lt-ltb 0 (length (x ∷ xs ++ ys)) (omega arith)) (list_all-append is_word_byte (x ∷ xs) ys ∙ and_from _ _ parts.1 q)

pub thread_is_plain : (f : Format) (t : GlobalId) → is_global_in f t ≡ true → is_plain (thread_word t) ≡ true
thread_is_plain f t h =
    let small = fits t (is_global_too f t h) in
    filled_front (decimal t.number ++ codes ".") (decimal t.version) (filled_front (decimal t.number) (codes ".") (number_is_plain t.number small.number) refl) (number_is_word_byte t.version small.version)

pub id_is_plain : (f : Format) (id : Id) → has_word_in f id ≡ true → is_plain (id_word f id) ≡ true
id_is_plain f NilThread h = refl
id_is_plain f AnyThread h = refl
id_is_plain f AnyLocalThread h = refl
id_is_plain f (LocalThread word) h = filled_front (codes "#") (low_digits (id_digits f) word) refl (low_digits_are_visible (id_digits f) word)
id_is_plain f (GlobalThread t) h = thread_is_plain f t h

pub word_fits : (f : Format) (n : ℕ) → is_word_in f n ≡ true → n < 2 ^ 64
word_fits f n h = word_small f n (ltb-true n (word_limit f) h)

pub register_range : (n : ℕ) → is_register n ≡ true → (1 ≤ n) × (n ≤ 63) × (n < 2 ^ 64)
register_range n h =
    let parts = and_parts (nat_le 1 n) (nat_le n 63) h in
    let lower = leb-true 1 n parts.0 in
    let upper = leb-true n 63 parts.1 in
    (lower, upper, omega (arith, upper))

destination_is_plain : (f : Format) (to : IdFrom) → has_destination f to ≡ true → is_plain (id_from_word f to) ≡ true
destination_is_plain f (Fixed id) h = id_is_plain f id h
destination_is_plain f Last h = refl
destination_is_plain f (InRegister format a) h = absurd (false≢true h)

fixed_is_plain : (f : Format) (from : IdFrom) → has_id f from ≡ true → is_plain (id_from_word f from) ≡ true
fixed_is_plain f (Fixed id) h = id_is_plain f id h
fixed_is_plain f Last h = absurd (false≢true h)
fixed_is_plain f (InRegister format a) h = absurd (false≢true h)

pub time_is_plain : (p : Period) → has_time p ≡ true → is_plain (time_word p) ≡ true
time_is_plain None h = refl
time_is_plain (Some ticks) h = by_test (eqb ticks 0) refl
  where
    by_number : (word : List ℕ) → IsTimeOf word ticks → is_plain word ≡ true
    by_number word t = let upper = t.upper in rw t.spelled (number_is_plain t.number (omega (arith, upper)))

    by_test : (b : Bool) → eqb ticks 0 ≡ b → is_plain (cond b (codes "zero") (ticks_word ticks (exponent_of ticks))) ≡ true
    by_test true t = refl
    by_test false t = by_number (ticks_word ticks (exponent_of ticks)) (spelled_time ticks (eqb-false ticks 0 t) h)

-- The operands of an ipc.
record AreOperands (f : Format) (to from : IdFrom) (send receive : Period) : Type 0 where
  destination : has_destination f to ≡ true
  specifier : has_id f from ≡ true
  send_time : has_time send ≡ true
  receive_time : has_time receive ≡ true

operands : (f : Format) (size : ℕ) (to from : IdFrom) (send receive : Period) → can_be_written f size (Ipc to from send receive) ≡ true → AreOperands f to from send receive
operands f size to from send receive h =
    let all_3 = and_parts (has_destination f to && has_id f from && has_time send) (has_time receive) h in
    let all_2 = and_parts (has_destination f to && has_id f from) (has_time send) all_3.0 in
    let all_1 = and_parts (has_destination f to) (has_id f from) all_2.0 in
    record { destination = all_1.0; specifier = all_1.1; send_time = all_2.1; receive_time = all_3.1 }

pub one_number : (keyword : List ℕ) (n : ℕ) → not (get_or keyword 0 0 == 59) ≡ true → is_plain keyword ≡ true → n < 2 ^ 64 → are_line (keyword ∷ decimal n ∷ []) ≡ true
one_number keyword n begins plain small = and_from _ _ begins (and_from _ _ plain (and_from _ _ (number_is_plain n small) refl))

pub two_numbers : (keyword : List ℕ) (a b : ℕ) → not (get_or keyword 0 0 == 59) ≡ true → is_plain keyword ≡ true → a < 2 ^ 64 → b < 2 ^ 64 → are_line (keyword ∷ decimal a ∷ decimal b ∷ []) ≡ true
two_numbers keyword a b begins plain small_a small_b = and_from _ _ begins (and_from _ _ plain (and_from _ _ (number_is_plain a small_a) (and_from _ _ (number_is_plain b small_b) refl)))

pub instruction_is_line : (f : Format) (size : ℕ) (i : Instr) → size ≤ 1024 → can_be_written f size i ≡ true → are_line (words_of_instruction f i) ≡ true
instruction_is_line f size (Run (Assign a value)) l h =
    let parts = and_parts (is_register a) (can_be_assigned f value) h in
    let keyword = keyword_is value in
    two_numbers (keyword_of value) a (operand_of value) keyword.begins keyword.plain (register_range a parts.0).2 (operand_small f value parts.1)
instruction_is_line f size (Tag word) l h = one_number (codes "tag") word refl refl (word_fits f word (and_parts _ _ h).0)
instruction_is_line f size (Vs from) l h = and_from _ true (fixed_is_plain f from h) refl
instruction_is_line f size (Ipc to from send receive) l h =
    let o = operands f size to from send receive h in
    and_from _ _ (destination_is_plain f to o.destination) (and_from _ _ (fixed_is_plain f from o.specifier) (and_from _ _ (time_is_plain send o.send_time) (and_from _ true (time_is_plain receive o.receive_time) refl)))
instruction_is_line f size (Ask target CancelSend) l h = and_from _ true (fixed_is_plain f target h) refl
instruction_is_line f size (Ask target CancelReceive) l h = and_from _ true (fixed_is_plain f target h) refl
instruction_is_line f size (Ask target CancelBoth) l h = and_from _ true (fixed_is_plain f target h) refl
instruction_is_line f size (Ask target Delete) l h = and_from _ true (fixed_is_plain f target h) refl
instruction_is_line f size (Jump place) l h = let upper = leb-true place size h in one_number (codes "jump") place refl refl (omega (arith, upper, l))
instruction_is_line f size (OnErr place) l h = let upper = leb-true place size h in one_number (codes "onerr") place refl refl (omega (arith, upper, l))
instruction_is_line f size (OnLabel label place) l h = absurd (false≢true h)
instruction_is_line f size (OnWord a word place) l h = absurd (false≢true h)
instruction_is_line f size (OnFrom id place) l h = absurd (false≢true h)
instruction_is_line f size End l h = refl

-- What a line says

assign_read : (n : ℕ) (r : Reading) (a : ℕ) (value : Value) → 0 < length r.machine.threads → (is_register a && can_be_assigned r.format value) ≡ true
    → thread_line n r (words_of_instruction r.format (Run (Assign a value))) ≡ extended_at n r (Run (Assign a value))
unfolding thread_line instruction_of assign_of
assign_read n r a value some h =
    let parts = and_parts (is_register a) (can_be_assigned r.format value) h in
    let range = register_range a parts.0 in
    let said = value_read r.format value parts.1 in
    rw ((keyword_is value).no_thread, lt-ltb 0 (length r.machine.threads) some, said.keyword, ranged_read 1 63 a range.0 range.1 (omega arith), said.operand) refl

pub instruction_read : (n : ℕ) (r : Reading) (size : ℕ) (i : Instr) → 0 < length r.machine.threads → size ≤ 1024 → can_be_written r.format size i ≡ true → thread_line n r (words_of_instruction r.format i) ≡ extended_at n r i
unfolding thread_line instruction_of value_of operation_named other_of tag_of vs_of ipc_of bits_of exregs_of delete_of target_of
instruction_read n r size (Run (Assign a value)) some l h = assign_read n r a value some h
instruction_read n r size (Tag word) some l h =
    let parts = and_parts _ _ h in
    rw (lt-ltb 0 (length r.machine.threads) some, word_read r.format word parts.0, parts.1) refl
instruction_read n r size (Vs (Fixed id)) some l h = rw (lt-ltb 0 (length r.machine.threads) some, id_read r.format id h) refl
instruction_read n r size (Vs Last) some l h = absurd (false≢true h)
instruction_read n r size (Vs (InRegister format a)) some l h = absurd (false≢true h)
instruction_read n r size (Ipc to Last send receive) some l h =
    absurd (false≢true (operands r.format size to Last send receive h).specifier)
instruction_read n r size (Ipc to (InRegister format a) send receive) some l h =
    absurd (false≢true (operands r.format size to (InRegister format a) send receive h).specifier)
instruction_read n r size (Ipc to (Fixed from) send receive) some l h =
    let o = operands r.format size to (Fixed from) send receive h in
    rw (lt-ltb 0 (length r.machine.threads) some, destination_read r.format to o.destination, id_read r.format from o.specifier, time_read send o.send_time, time_read receive o.receive_time) refl
instruction_read n r size (Ask (Fixed target) CancelSend) some l h = rw (lt-ltb 0 (length r.machine.threads) some, id_read r.format target h) refl
instruction_read n r size (Ask (Fixed target) CancelReceive) some l h = rw (lt-ltb 0 (length r.machine.threads) some, id_read r.format target h) refl
instruction_read n r size (Ask (Fixed target) CancelBoth) some l h = rw (lt-ltb 0 (length r.machine.threads) some, id_read r.format target h) refl
instruction_read n r size (Ask (Fixed target) Delete) some l h = rw (lt-ltb 0 (length r.machine.threads) some, id_read r.format target h) refl
instruction_read n r size (Ask Last what) some l h = absurd (false≢true h)
instruction_read n r size (Ask (InRegister format a) what) some l h = absurd (false≢true h)
instruction_read n r size (OnLabel label place) some l h = absurd (false≢true h)
instruction_read n r size (OnWord a word place) some l h = absurd (false≢true h)
instruction_read n r size (OnFrom id place) some l h = absurd (false≢true h)
instruction_read n r size (Jump place) some l h =
    let upper = leb-true place size h in
    rw (lt-ltb 0 (length r.machine.threads) some, number_read place (omega (arith, upper, l))) refl
instruction_read n r size (OnErr place) some l h =
    let upper = leb-true place size h in
    rw (lt-ltb 0 (length r.machine.threads) some, number_read place (omega (arith, upper, l))) refl
instruction_read n r size End some l h = rw (lt-ltb 0 (length r.machine.threads) some) refl

pub record IsDeclarable (f : Format) (cpus : ℕ) (d : Declaration) : Type 0 where
  pub global : is_global_in f d.id ≡ true
  pub home : d.cpu < cpus
  pub space : d.space < 2 ^ 32
  pub room : length d.script ≤ 1024
  pub script : list_all (can_be_written f (length d.script)) d.script ≡ true

pub declarable : (f : Format) (cpus : ℕ) (d : Declaration) → can_be_declared f cpus d ≡ true → IsDeclarable f cpus d
declarable f cpus d h =
    let all_4 = and_parts _ _ h in
    let all_3 = and_parts _ _ all_4.0 in
    let all_2 = and_parts _ _ all_3.0 in
    let all_1 = and_parts _ _ all_2.0 in
    record {
      global = all_1.0;
      home = ltb-true d.cpu cpus all_1.1;
      space = ltb-true d.space (2 ^ 32) all_2.1;
      room = leb-true (length d.script) 1024 all_3.1;
      script = all_4.1;
    }

pub thread_is_line : (f : Format) (cpus : ℕ) (d : Declaration) → cpus ≤ 16 → IsDeclarable f cpus d → are_line (words_of_thread d) ≡ true
thread_is_line f cpus d limit h =
    let home = h.home in
    let space = h.space in
    let cpu = number_is_plain d.cpu (omega (arith, home, limit)) in
    let number = number_is_plain d.space (omega (arith, space)) in
    and_from _ _ (thread_is_plain f d.id h.global) (and_from _ _ cpu (and_from _ _ number refl))

pub thread_line_read : (n : ℕ) (r : Reading) (d : Declaration) → r.machine.cpus ≤ 16 → IsDeclarable r.format r.machine.cpus d → thread_line n r (words_of_thread d) ≡ declared_in r (record d { script = [] })
unfolding thread_line declaration_of processor_of
thread_line_read n r d limit h =
    let home = h.home in
    let space = h.space in
    let below : nat_lt d.cpu r.machine.cpus ≡ true = lt-ltb d.cpu r.machine.cpus home in
    rw (thread_in_read r.format d.id h.global, number_read d.cpu (omega (arith, home, limit)), below, ranged_read 0 (2 ^ 32 - 1) d.space (omega arith) (omega (arith, space)) (omega arith)) refl

-- The two first lines

pub format_read : (f : Format) (retargeting : Bool) → after_words 1 Start (words_of_format f retargeting) ≡ Ok (Processors (record { retargeting = retargeting; format = f }))
unfolding after_words format_line number_of
format_read W64 false = refl
format_read W64 true = refl
format_read W32 false = refl
format_read W32 true = refl

pub format_is_line : (f : Format) (retargeting : Bool) → are_line (words_of_format f retargeting) ≡ true
format_is_line W64 false = refl
format_is_line W64 true = refl
format_is_line W32 false = refl
format_is_line W32 true = refl

pub processors_read : (heading : Heading) (cpus : ℕ) → 1 ≤ cpus → cpus ≤ 16 → after_words 2 (Processors heading) (codes "cpus" ∷ decimal cpus ∷ []) ≡ Ok (Threads (nothing_read heading cpus))
unfolding after_words processors_line
processors_read heading cpus some limit = rw (ranged_read 1 16 cpus some limit (omega arith)) refl

pub processors_is_line : (cpus : ℕ) → cpus ≤ 16 → are_line (codes "cpus" ∷ decimal cpus ∷ []) ≡ true
processors_is_line cpus limit = one_number (codes "cpus") cpus refl refl (omega (arith, limit))
