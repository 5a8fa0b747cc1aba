-- Lines of version 2 that are written are read: their words, and what these say.
use Rattle.std.proofs.Common.{◌≡◌, ℕ, zero, suc, ◌-◌, ◌^◌, ◌<◌, ◌≤◌, Bool, true, false, cond, ◌&&◌, eqb, List, [], ◌∷◌, ◌++◌, length, drop, Option, Some, None, Ok, refl, ap, sym, ◌∙◌, subst, arith}
use Rattle.std.specs.Prelude.{◌==◌, nat_lt, nat_le, codes, decimal, bytes_eq}
use Rattle.std.specs.Char.{digit_value}
use Rattle.std.specs.Str.Parse.{AllDigits, IsNumeral}
use Rattle.std.specs.List.{list_all, join_with_byte}
use Rattle.std.proofs.lemmas.Bool.{false≢true, and_parts, and_from, ltb-true, leb-true, lt-ltb, ne_eqb, eqb-false}
use Rattle.std.proofs.lemmas.Bool.Decides.{nat_tests}
use Rattle.std.proofs.lemmas.Fmt.{decimal_is_IsNumeral}
use Rattle.l4_model.specs.Words.{Format, W64, W32, label_limit_in, is_word_in, same_format, is_global_in, has_word_in, Id, NilThread, AnyThread, AnyLocalThread, LocalThread, GlobalThread, Period}
use Rattle.l4_model.specs.Machine.{IdFrom, Fixed, Last, InRegister, CancelSend, CancelReceive, CancelBoth, Delete, Operation, Value, Word, Register, Computed, Assign, Instr, Run, From, Tag, Vs, Ipc, Ask, Jump, OnErr, OnLabel, OnWord, OnFrom, End, Declaration}
use Rattle.l4_words.specs.Threads.{thread_word}
use Rattle.l4_words.proofs.Numerals.{decimal_is_read}
use Rattle.l4_script.specs.Judged.{Judged, ◌>>=◌}
use Rattle.l4_script.specs.Numbers.{number_of, time_from}
use Rattle.l4_script.specs.Machines.{last_thread}
use Rattle.l4_script.specs.Operations.{operation_word, operation_named}
use Rattle.l4_script.specs.Statements.{processors_line, processor_of, extend, value_of, assign_of, tag_of, bits_of}
use Rattle.l4_script.specs.Canonical.{id_word, id_from_word, exponent_of, ticks_word, time_word, words_of_instruction, words_of_thread, words_of_format, keyword_of, operand_of, is_register, has_time, can_be_assigned}
use Rattle.l4_script.specs.Second.Names.{Named, is_digit, is_register_word}
use Rattle.l4_script.specs.Second.Lines.{said, second_line_of}
use Rattle.l4_script.specs.Second.Operands.{Place, Numbered, register_of, id_or_register_of, id_or_last_of, place_of, second_time_from}
use Rattle.l4_script.specs.Second.Statements.{Heir, is_second_heading, second_format_line, second_declaration_of, with_place, from_of, second_vs_of, second_ipc_of, second_exregs_of, second_delete_of, on_label_of, on_word_of, on_from_of, second_other_of, plain_of, second_instruction_of}
use Rattle.l4_script.specs.Second.Texts.{Reading, has_script, target_at, words_line}
use Rattle.l4_script.specs.Second.Canonical.{second_words_of_instruction, is_source, has_id_or_register, has_id_from, second_can_be_written, second_can_be_declared}
use Rattle.l4_script.proofs.Judging.{says}
use Rattle.l4_script.proofs.Operations.{other_word}
use Rattle.l4_script.proofs.SecondAcceptedLines.{spelled, thread_spelled}
use Rattle.l4_script.proofs.SimpleLines.{is_word_byte, is_simple_left, word_byte, next_word, simple_line}
use Rattle.l4_script.proofs.Spelled.{is_plain, number_read, ranged_read, word_read, thread_in_read, id_read, id_no_last, digits_of_number}
use Rattle.l4_script.proofs.Times.{IsTimeOf, spelled_time, time_read}
use Rattle.l4_script.proofs.Values.{keyword_is, operand_small, formats_are_one, value_read}
use Rattle.l4_script.proofs.Written.{are_line, are_plain, are_plain_words, words_split, number_is_plain, filled_front, thread_is_plain, id_is_plain, time_is_plain, word_fits, register_range, one_number, two_numbers}

-- A line of plain words says these words alone.

word_left : (begins : Bool) (word line : List ℕ) → list_all is_word_byte word ≡ true → 0 < length word → is_simple_left begins (word ++ line) ≡ is_simple_left false line
word_left begins [] line h some = absurd (omega (arith, some))
word_left begins (byte ∷ []) line h some = word_byte begins byte line (and_parts (is_word_byte byte) true h).0
word_left begins (byte ∷ next ∷ word) line h some =
    let parts = and_parts (is_word_byte byte) (list_all is_word_byte (next ∷ word)) h in
    word_byte begins byte (next ∷ word ++ line) parts.0 ∙ word_left false (next ∷ word) line parts.1 (omega arith)

one_word : (begins : Bool) (word : List ℕ) → list_all is_word_byte word ≡ true → 0 < length word → is_simple_left begins word ≡ true
one_word begins [] h some = absurd (omega (arith, some))
one_word begins (byte ∷ []) h some = word_byte begins byte [] (and_parts (is_word_byte byte) true h).0
one_word begins (byte ∷ next ∷ word) h some =
    let parts = and_parts (is_word_byte byte) (list_all is_word_byte (next ∷ word)) h in
    word_byte begins byte (next ∷ word) parts.0 ∙ one_word false (next ∷ word) parts.1 (omega arith)

words_left : (word : List ℕ) (words : List (List ℕ)) → are_plain (word ∷ words) ≡ true → is_simple_left true (join_with_byte 32 (word ∷ words)) ≡ true
words_left word [] h =
    let plain = and_parts (nat_lt 0 (length word)) (list_all is_word_byte word) (and_parts (is_plain word) true h).0 in
    one_word true word plain.1 (ltb-true 0 (length word) plain.0)
words_left word (next ∷ words) h =
    let parts = and_parts (is_plain word) (are_plain (next ∷ words)) h in
    let plain = and_parts (nat_lt 0 (length word)) (list_all is_word_byte word) parts.0 in
    word_left true word (32 ∷ join_with_byte 32 (next ∷ words)) plain.1 (ltb-true 0 (length word) plain.0)
    ∙ next_word 32 (join_with_byte 32 (next ∷ words)) refl ∙ words_left next words parts.1

pub second_line_read : (words : List (List ℕ)) → are_line words ≡ true → second_line_of (join_with_byte 32 words) ≡ Ok (Some (said None words))
second_line_read [] h = absurd cc
second_line_read (word ∷ words) h =
    let plain = are_plain_words (word ∷ words) h in
    simple_line (join_with_byte 32 (word ∷ words)) (words_left word words plain) ∙ ap (λ (ws : List (List ℕ)). Ok (Some (said None ws))) (words_split word words plain)

-- Where an id is from

digit_no_m : (c : ℕ) → digit_value c < 10 → eqb c 109 ≡ false
digit_no_m c l = grind (arith, nat_tests)

numeral_no_register : (front dot rest : List ℕ) → IsNumeral 10 front → is_register_word (front ++ dot ++ rest) ≡ false
numeral_no_register [] dot rest h = absurd (omega (arith, h.0))
numeral_no_register (c ∷ cs) dot rest h = rw (digit_no_m c h.1.0) refl

id_no_register : (f : Format) (id : Id) → has_word_in f id ≡ true → is_register_word (id_word f id) ≡ false
id_no_register f NilThread h = refl
id_no_register f AnyThread h = refl
id_no_register f AnyLocalThread h = refl
id_no_register f (LocalThread word) h = refl
id_no_register f (GlobalThread t) h = numeral_no_register (decimal t.number) (codes ".") (decimal t.version) (digits_of_number f t h)

all_are_digits : (w : List ℕ) → AllDigits 10 w → list_all is_digit w ≡ true
all_are_digits [] h = refl
all_are_digits (c ∷ cs) h =
    let value : digit_value c < 10 = h.0 in
    let here : is_digit c ≡ true = grind (arith, nat_tests, value) in
    and_from _ _ here (all_are_digits cs h.1)

small_source : (a : ℕ) → is_source a ≡ true → a < 2 ^ 64
small_source a h = omega (arith, leb-true a 63 h)

register_word_read : (a : ℕ) → a < 2 ^ 64 → is_register_word (codes "mr" ++ decimal a) ≡ true
register_word_read a small =
    let numeral = decimal_is_IsNumeral a small in
    let filled : (length (codes "mr" ++ decimal a) == 2) ≡ false = ne_eqb (length (codes "mr" ++ decimal a)) 2 (λ e. absurd (omega (arith, e, numeral.0.0))) in
    rw (filled, all_are_digits (decimal a) numeral.0.1) refl

register_read : (f : Format) (a : ℕ) → is_source a ≡ true → register_of f (codes "mr" ++ decimal a) ≡ Ok (InRegister f a)
unfolding register_of
register_read f a h = rw (decimal_is_read a (small_source a h), h) refl

pub id_or_register_read : (f : Format) (names : List Named) (from : IdFrom) → has_id_or_register f from ≡ true → id_or_register_of f names (id_from_word f from) ≡ Ok from
unfolding id_or_register_of
id_or_register_read f names (Fixed id) h = rw (id_no_register f id h, spelled f names (id_word f id) id (id_read f id h)) refl
id_or_register_read f names Last h = absurd (false≢true h)
id_or_register_read f names (InRegister format a) h =
    let parts = and_parts (same_format format f) (is_source a) h in
    rw (register_word_read a (small_source a parts.1), register_read f a parts.1) (ap (λ (g : Format). says (InRegister g a)) (sym (formats_are_one format f parts.0)))

pub id_or_last_read : (f : Format) (names : List Named) (from : IdFrom) → has_id_from f from ≡ true → id_or_last_of f names (id_from_word f from) ≡ Ok from
unfolding id_or_last_of
id_or_last_read f names (Fixed id) h = rw (id_no_last f id h) (id_or_register_read f names (Fixed id) h)
id_or_last_read f names Last h = refl
id_or_last_read f names (InRegister format a) h = id_or_register_read f names (InRegister format a) h

from_is_plain : (f : Format) (from : IdFrom) → has_id_from f from ≡ true → is_plain (id_from_word f from) ≡ true
from_is_plain f (Fixed id) h = id_is_plain f id h
from_is_plain f Last h = refl
from_is_plain f (InRegister format a) h =
    let parts = and_parts (same_format format f) (is_source a) h in
    filled_front (codes "mr") (decimal a) refl (and_parts _ (list_all is_word_byte (decimal a)) (number_is_plain a (small_source a parts.1))).1

target_is_plain : (f : Format) (target : IdFrom) → has_id_or_register f target ≡ true → is_plain (id_from_word f target) ≡ true
target_is_plain f (Fixed id) h = id_is_plain f id h
target_is_plain f Last h = refl
target_is_plain f (InRegister format a) h = from_is_plain f (InRegister format a) h

-- Times

digit_no_letter : (c : ℕ) → digit_value c < 10 → (eqb c 117 ≡ false) × (eqb c 109 ≡ false) × (eqb c 115 ≡ false)
digit_no_letter c l = (grind (arith, nat_tests), grind (arith, nat_tests), grind (arith, nat_tests))

dropped_digits : (n : ℕ) (w : List ℕ) → AllDigits 10 w → AllDigits 10 (drop n w)
dropped_digits zero w h = h
dropped_digits (suc n) [] h = h
dropped_digits (suc n) (c ∷ cs) h = dropped_digits n cs h.1

no_letter : (w : List ℕ) → AllDigits 10 w → (bytes_eq w (codes "us") ≡ false) × (bytes_eq w (codes "ms") ≡ false) × (bytes_eq w (codes "s") ≡ false)
no_letter [] h = (refl, refl, refl)
no_letter (c ∷ cs) h = let other = digit_no_letter c h.0 in (rw (other.0) refl, rw (other.1) refl, rw (other.2) refl)

digits_end : (w : List ℕ) → AllDigits 10 w → second_time_from w ≡ time_from w
unfolding second_time_from
digits_end w h =
    rw ((no_letter (drop (length w - 2) w) (dropped_digits (length w - 2) w h)).0, (no_letter (drop (length w - 2) w) (dropped_digits (length w - 2) w h)).1, (no_letter (drop (length w - 1) w) (dropped_digits (length w - 1) w h)).2) refl

pub second_time_read : (p : Period) → has_time p ≡ true → second_time_from (time_word p) ≡ Ok p
unfolding second_time_from
second_time_read None h = time_read None h
second_time_read (Some ticks) h = by_test (eqb ticks 0) refl (time_read (Some ticks) h)
  where
    by_number : (word : List ℕ) → IsTimeOf word ticks → time_from word ≡ Ok (Some ticks) → second_time_from word ≡ Ok (Some ticks)
    by_number word t e =
        let upper = t.upper in
        subst (λ (w : List ℕ). second_time_from w ≡ time_from w) (sym t.spelled) (digits_end (decimal t.number) (decimal_is_IsNumeral t.number (omega (arith, upper))).0.1) ∙ e

    by_test : (b : Bool) → eqb ticks 0 ≡ b → time_from (cond b (codes "zero") (ticks_word ticks (exponent_of ticks))) ≡ Ok (Some ticks) → second_time_from (cond b (codes "zero") (ticks_word ticks (exponent_of ticks))) ≡ Ok (Some ticks)
    by_test true t e = e
    by_test false t e = by_number (ticks_word ticks (exponent_of ticks)) (spelled_time ticks (eqb-false ticks 0 t) h) e

-- Instructions as lines

small_place : (size place : ℕ) → size ≤ 1024 → nat_le place size ≡ true → place < 2 ^ 64
small_place size place l h = omega (arith, leb-true place size h, l)

small_label : (f : Format) (label : ℕ) → nat_lt label (label_limit_in f) ≡ true → (label ≤ label_limit_in f - 1) × (label_limit_in f - 1 < 2 ^ 64)
small_label W64 label h = (omega (arith, ltb-true label (label_limit_in W64) h), omega arith)
small_label W32 label h = (omega (arith, ltb-true label (label_limit_in W32) h), omega arith)

second_assigned_is_line : (f : Format) (a : ℕ) (value : Value) → (is_register a && can_be_assigned f value) ≡ true → are_line (words_of_instruction f (Run (Assign a value))) ≡ true
second_assigned_is_line f a value h =
    let parts = and_parts (is_register a) (can_be_assigned f value) h in
    let keyword = keyword_is value in
    two_numbers (keyword_of value) a (operand_of value) keyword.begins keyword.plain (register_range a parts.0).2 (operand_small f value parts.1)

-- The operands of an ipc.
record AreSecondOperands (f : Format) (to from : IdFrom) (send receive : Period) : Type 0 where
  destination : has_id_from f to ≡ true
  specifier : has_id_from f from ≡ true
  send_time : has_time send ≡ true
  receive_time : has_time receive ≡ true

second_operands : (f : Format) (size : ℕ) (to from : IdFrom) (send receive : Period) → second_can_be_written f size (Ipc to from send receive) ≡ true → AreSecondOperands f to from send receive
second_operands f size to from send receive h =
    let all_3 = and_parts (has_id_from f to && has_id_from f from && has_time send) (has_time receive) h in
    let all_2 = and_parts (has_id_from f to && has_id_from f from) (has_time send) all_3.0 in
    let all_1 = and_parts (has_id_from f to) (has_id_from f from) all_2.0 in
    record { destination = all_1.0; specifier = all_1.1; send_time = all_2.1; receive_time = all_3.1 }

pub second_instruction_is_line : (f : Format) (size : ℕ) (i : Instr) → size ≤ 1024 → second_can_be_written f size i ≡ true → are_line (second_words_of_instruction f i) ≡ true
second_instruction_is_line f size (Run (Assign a (Word word))) l h = second_assigned_is_line f a (Word word) h
second_instruction_is_line f size (Run (Assign a (Register b))) l h = second_assigned_is_line f a (Register b) h
second_instruction_is_line f size (Run (Assign a (Computed operation format word))) l h = second_assigned_is_line f a (Computed operation format word) h
second_instruction_is_line f size (From format a) l h = one_number (codes "from") a refl refl (register_range a (and_parts (is_register a) (same_format format f) h).0).2
second_instruction_is_line f size (Tag word) l h = one_number (codes "tag") word refl refl (word_fits f word (and_parts _ _ h).0)
second_instruction_is_line f size (Vs from) l h = and_from _ true (from_is_plain f from h) refl
second_instruction_is_line f size (Ipc to from send receive) l h =
    let o = second_operands f size to from send receive h in
    and_from _ _ (from_is_plain f to o.destination) (and_from _ _ (from_is_plain f from o.specifier) (and_from _ _ (time_is_plain send o.send_time) (and_from _ true (time_is_plain receive o.receive_time) refl)))
second_instruction_is_line f size (Ask target CancelSend) l h = and_from _ true (from_is_plain f target h) refl
second_instruction_is_line f size (Ask target CancelReceive) l h = and_from _ true (from_is_plain f target h) refl
second_instruction_is_line f size (Ask target CancelBoth) l h = and_from _ true (from_is_plain f target h) refl
second_instruction_is_line f size (Ask target Delete) l h = and_from _ true (target_is_plain f target h) refl
second_instruction_is_line f size (Jump place) l h = one_number (codes "jump") place refl refl (small_place size place l h)
second_instruction_is_line f size (OnErr place) l h = one_number (codes "onerr") place refl refl (small_place size place l h)
second_instruction_is_line f size (OnLabel label place) l h =
    let parts = and_parts _ (nat_le place size) h in
    let small = small_label f label parts.0 in
    two_numbers (codes "onlabel") label place refl refl (omega (arith, small.0, small.1)) (small_place size place l parts.1)
second_instruction_is_line f size (OnWord a word place) l h =
    let parts = and_parts _ (nat_le place size) h in
    let both = and_parts (is_source a) (is_word_in f word) parts.0 in
    and_from _ _ (number_is_plain a (small_source a both.0)) (and_from _ _ (number_is_plain word (word_fits f word both.1)) (and_from _ true (number_is_plain place (small_place size place l parts.1)) refl))
second_instruction_is_line f size (OnFrom id place) l h =
    let parts = and_parts (has_word_in f id) (nat_le place size) h in
    and_from _ _ (id_is_plain f id parts.0) (and_from _ true (number_is_plain place (small_place size place l parts.1)) refl)
second_instruction_is_line f size End l h = refl

-- What a line says

-- What an instruction names, and how it stands until its script ends.

abbrev pub named_by : Instr → Option Place
named_by (Jump place) = Some (Numbered place)
named_by (OnErr place) = Some (Numbered place)
named_by (OnLabel label place) = Some (Numbered place)
named_by (OnWord a word place) = Some (Numbered place)
named_by (OnFrom id place) = Some (Numbered place)
named_by i = None

abbrev pub unplaced : Instr → Instr
unplaced i = with_place 0 i

-- The last script grows by an instruction of this line.
abbrev pub grown : (line : ℕ) → Reading → Instr → Judged Reading
grown line r i = extend (unplaced i) r.machine >>= λ machine.
    Ok (record r { machine = machine; targets = r.targets ++ target_at line (length (last_thread r.machine).script) (named_by i) })

abbrev reads : (line : ℕ) → Reading → Instr → Type 0
reads line r i = words_line line r (said None (second_words_of_instruction r.format i)) (second_words_of_instruction r.format i) ≡ grown line r i

place_read : (size place : ℕ) → size ≤ 1024 → nat_le place size ≡ true → place_of (decimal place) ≡ Ok (Numbered place)
unfolding place_of
place_read size place l h = rw (number_read place (small_place size place l h)) refl

-- What an operation is taken for by nobody.
record IsOtherLine (word : List ℕ) : Type 0 where
  thread : bytes_eq word (codes "thread") ≡ false
  name : bytes_eq word (codes "name") ≡ false
  jump : bytes_eq word (codes "jump") ≡ false
  on_error : bytes_eq word (codes "onerr") ≡ false
  on_label : bytes_eq word (codes "onlabel") ≡ false
  on_word : bytes_eq word (codes "onword") ≡ false
  on_from : bytes_eq word (codes "onfrom") ≡ false

other_line : (operation : Operation) → IsOtherLine (operation_word operation)
other_line operation = record {
  thread = other_word (codes "thread") refl operation;
  name = other_word (codes "name") refl operation;
  jump = other_word (codes "jump") refl operation;
  on_error = other_word (codes "onerr") refl operation;
  on_label = other_word (codes "onlabel") refl operation;
  on_word = other_word (codes "onword") refl operation;
  on_from = other_word (codes "onfrom") refl operation;
}

computed_read : (n : ℕ) (r : Reading) (operation : Operation) (format : Format) (a word : ℕ) → has_script r ≡ true
    → (is_register a && can_be_assigned r.format (Computed operation format word)) ≡ true → reads n r (Run (Assign a (Computed operation format word)))
unfolding second_instruction_of plain_of assign_of
computed_read n r operation format a word own h =
    let parts = and_parts (is_register a) (can_be_assigned r.format (Computed operation format word)) h in
    let range = register_range a parts.0 in
    let other = other_line operation in
    let said = value_read r.format (Computed operation format word) parts.1 in
    rw (other.thread, other.name, own, other.jump, other.on_error, other.on_label, other.on_word, other.on_from, said.keyword, ranged_read 1 63 a range.0 range.1 (omega arith), said.operand) refl

from_read : (n : ℕ) (r : Reading) (a : ℕ) → has_script r ≡ true → is_register a ≡ true → reads n r (From r.format a)
unfolding second_instruction_of plain_of value_of operation_named second_other_of from_of
from_read n r a own register = let range = register_range a register in rw (own, ranged_read 1 63 a range.0 range.1 (omega arith)) refl

pub second_instruction_read : (n : ℕ) (r : Reading) (size : ℕ) (i : Instr) → has_script r ≡ true → size ≤ 1024 → second_can_be_written r.format size i ≡ true → reads n r i
unfolding second_instruction_of plain_of value_of operation_named assign_of second_other_of tag_of second_vs_of second_ipc_of bits_of second_exregs_of second_delete_of on_label_of on_word_of on_from_of
second_instruction_read n r size (Run (Assign a (Word word))) own l h =
    let parts = and_parts (is_register a) (can_be_assigned r.format (Word word)) h in
    let range = register_range a parts.0 in
    rw (own, ranged_read 1 63 a range.0 range.1 (omega arith), word_read r.format word (and_parts (is_word_in r.format word) (is_word_in r.format word) parts.1).0) refl
second_instruction_read n r size (Run (Assign a (Register b))) own l h =
    let parts = and_parts (is_register a) (can_be_assigned r.format (Register b)) h in
    let range = register_range a parts.0 in
    rw (own, ranged_read 1 63 a range.0 range.1 (omega arith), ranged_read 0 63 b (omega arith) (leb-true b 63 parts.1) (omega arith)) refl
second_instruction_read n r size (Run (Assign a (Computed operation format word))) own l h = computed_read n r operation format a word own h
second_instruction_read n r size (From format a) own l h =
    let parts = and_parts (is_register a) (same_format format r.format) h in
    subst (λ (g : Format). reads n r (From g a)) (sym (formats_are_one format r.format parts.1)) (from_read n r a own parts.0)
second_instruction_read n r size (Tag word) own l h =
    let parts = and_parts _ _ h in
    rw (own, word_read r.format word parts.0, parts.1) refl
second_instruction_read n r size (Vs from) own l h = rw (own, id_or_last_read r.format r.names from h) refl
second_instruction_read n r size (Ipc to from send receive) own l h =
    let o = second_operands r.format size to from send receive h in
    rw (own, id_or_last_read r.format r.names to o.destination, id_or_last_read r.format r.names from o.specifier, second_time_read send o.send_time, second_time_read receive o.receive_time) refl
second_instruction_read n r size (Ask target CancelSend) own l h = rw (own, id_or_last_read r.format r.names target h) refl
second_instruction_read n r size (Ask target CancelReceive) own l h = rw (own, id_or_last_read r.format r.names target h) refl
second_instruction_read n r size (Ask target CancelBoth) own l h = rw (own, id_or_last_read r.format r.names target h) refl
second_instruction_read n r size (Ask target Delete) own l h = rw (own, id_or_register_read r.format r.names target h) refl
second_instruction_read n r size (Jump place) own l h = rw (own, place_read size place l h) refl
second_instruction_read n r size (OnErr place) own l h = rw (own, place_read size place l h) refl
second_instruction_read n r size (OnLabel label place) own l h =
    let parts = and_parts _ (nat_le place size) h in
    let small = small_label r.format label parts.0 in
    rw (own, ranged_read 0 (label_limit_in r.format - 1) label (omega arith) small.0 small.1, place_read size place l parts.1) refl
second_instruction_read n r size (OnWord a word place) own l h =
    let parts = and_parts _ (nat_le place size) h in
    let both = and_parts (is_source a) (is_word_in r.format word) parts.0 in
    rw (own, ranged_read 0 63 a (omega arith) (leb-true a 63 both.0) (omega arith), word_read r.format word both.1, place_read size place l parts.1) refl
second_instruction_read n r size (OnFrom id place) own l h =
    let parts = and_parts (has_word_in r.format id) (nat_le place size) h in
    rw (own, spelled r.format r.names (id_word r.format id) id (id_read r.format id parts.0), place_read size place l parts.1) refl
second_instruction_read n r size End own l h = rw (own) refl

pub record IsSecondDeclarable (f : Format) (cpus : ℕ) (d : Declaration) : Type 0 where
  pub global : is_global_in f d.id ≡ true
  pub home : d.cpu < cpus
  pub space : d.space < 2 ^ 32
  pub room : length d.script ≤ 1024
  pub script : list_all (second_can_be_written f (length d.script)) d.script ≡ true

pub second_declarable : (f : Format) (cpus : ℕ) (d : Declaration) → second_can_be_declared f cpus d ≡ true → IsSecondDeclarable f cpus d
second_declarable f cpus d h =
    let all_4 = and_parts _ _ h in
    let all_3 = and_parts _ _ all_4.0 in
    let all_2 = and_parts _ _ all_3.0 in
    let all_1 = and_parts _ _ all_2.0 in
    record {
      global = all_1.0;
      home = ltb-true d.cpu cpus all_1.1;
      space = ltb-true d.space (2 ^ 32) all_2.1;
      room = leb-true (length d.script) 1024 all_3.1;
      script = all_4.1;
    }

pub second_thread_is_line : (f : Format) (cpus : ℕ) (d : Declaration) → cpus ≤ 16 → IsSecondDeclarable f cpus d → are_line (words_of_thread d) ≡ true
second_thread_is_line f cpus d limit h =
    let home = h.home in
    let space = h.space in
    let cpu = number_is_plain d.cpu (omega (arith, home, limit)) in
    let number = number_is_plain d.space (omega (arith, space)) in
    and_from _ _ (thread_is_plain f d.id h.global) (and_from _ _ cpu (and_from _ _ number refl))

-- A thread whose script follows.
abbrev pub opened : Declaration → Heir
opened d = record { declaration = record d { script = [] }; last = d.id.number; source = None }

pub second_declaration_read : (f : Format) (names : List Named) (cpus : ℕ) (d : Declaration) → cpus ≤ 16 → IsSecondDeclarable f cpus d
    → second_declaration_of f names cpus (thread_word d.id ∷ codes "cpu" ∷ decimal d.cpu ∷ codes "space" ∷ decimal d.space ∷ []) ≡ Ok (opened d)
unfolding second_declaration_of processor_of
second_declaration_read f names cpus d limit h =
    let home = h.home in
    let space = h.space in
    let below : nat_lt d.cpu cpus ≡ true = lt-ltb d.cpu cpus home in
    rw (thread_spelled f names (thread_word d.id) d.id (thread_in_read f d.id h.global), number_read d.cpu (omega (arith, home, limit)), below, ranged_read 0 (2 ^ 32 - 1) d.space (omega arith) (omega (arith, space)) (omega arith)) refl

-- The two first lines

pub second_format_read : (f : Format) (retargeting : Bool) → second_format_line (words_of_format f retargeting ++ codes "2" ∷ []) ≡ Ok (record { retargeting = retargeting; format = f })
unfolding second_format_line number_of
second_format_read W64 false = refl
second_format_read W64 true = refl
second_format_read W32 false = refl
second_format_read W32 true = refl

pub second_format_is_line : (f : Format) (retargeting : Bool) → are_line (words_of_format f retargeting ++ codes "2" ∷ []) ≡ true
second_format_is_line W64 false = refl
second_format_is_line W64 true = refl
second_format_is_line W32 false = refl
second_format_is_line W32 true = refl

pub says_so : (f : Format) (retargeting : Bool) → is_second_heading (words_of_format f retargeting ++ codes "2" ∷ []) ≡ true
unfolding number_of
says_so W64 false = refl
says_so W64 true = refl
says_so W32 false = refl
says_so W32 true = refl

pub processors_line_read : (cpus : ℕ) → 1 ≤ cpus → cpus ≤ 16 → processors_line (codes "cpus" ∷ decimal cpus ∷ []) ≡ Ok cpus
unfolding processors_line
processors_line_read cpus some limit = rw (ranged_read 1 16 cpus some limit (omega arith)) refl
