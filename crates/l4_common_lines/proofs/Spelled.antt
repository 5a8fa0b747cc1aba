-- No word of a report has a space or a line end, and a name has its number behind the `#`: whatever
-- the numbers are.
use Rattle.std.proofs.Common.{◌≡◌, ℕ, zero, suc, ◌+◌, ◌/◌, ◌%◌, Bool, true, false, not, cond, List, [], ◌∷◌, ◌++◌, length, map, refl, ap, ◌∙◌, arith}
use Rattle.std.specs.Prelude.{◌==◌, codes, decimal, nat_lt}
use Rattle.std.specs.Fmt.{digits, digits_onto, digit_glyph}
use Rattle.std.specs.List.{before_first, list_all}
use Rattle.std.proofs.lemmas.Bool.{and_from}
use Rattle.std.proofs.lemmas.Bool.Decides.{nat_tests}
use Rattle.l4_model.specs.Words.{GlobalId, Id, NilThread, AnyThread, AnyLocalThread, LocalThread, GlobalThread}
use Rattle.l4_model.specs.World.{Name}
use Rattle.l4_model.specs.History.{Report, State, IsReady, IsSending, IsReceiving, IsOrdering, IsEnded, IsDeleted}
use Rattle.l4_words.specs.Names.{is_hash, name_word}
use Rattle.l4_words.specs.Numbers.{hexadecimal}
use Rattle.l4_words.specs.Threads.{id_word, thread_word}
use Rattle.l4_words.proofs.Above.{is_above, above_lower, above_parts, back_of, front_of}
use Rattle.l4_lines.specs.Lines.{has_number, is_digit, is_numeral}
use Rattle.l4_reports.specs.ReportLines.{shown_registers, state_word}

-- Digits

glyph_above : (d : ℕ) → nat_lt 46 (digit_glyph false d) ≡ true
glyph_above d = by (nat_lt d 10)
  where
    by : (low : Bool) → nat_lt 46 (cond low (48 + d) (87 + d)) ≡ true
    by true = grind (arith, nat_tests)
    by false = grind (arith, nat_tests)

onto_above : (k base n : ℕ) (behind : List ℕ) → is_above 46 behind ≡ true →
    is_above 46 (digits_onto k base false n behind) ≡ true
onto_above zero base n behind above = above
onto_above (suc k) base n behind above =
    by (n / base == 0) (onto_above k base (n / base) (digit_glyph false (n % base) ∷ behind) more)
  where
    more : is_above 46 (digit_glyph false (n % base) ∷ behind) ≡ true
    more = and_from _ _ (glyph_above (n % base)) above

    by : (last : Bool) →
        is_above 46 (digits_onto k base false (n / base) (digit_glyph false (n % base) ∷ behind))
        ≡ true →
        is_above 46 (cond last (digit_glyph false (n % base) ∷ behind)
        (digits_onto k base false (n / base) (digit_glyph false (n % base) ∷ behind))) ≡ true
    by true rest = more
    by false rest = rest

pub digits_above : (base n : ℕ) → is_above 46 (digits base false n) ≡ true
unfolding digits
digits_above base n = onto_above 64 base n [] refl

-- A number in decimal

digit_shown : (n : ℕ) → is_digit (digit_glyph false (n % 10)) ≡ true
digit_shown n =
    let low : nat_lt (n % 10) 10 ≡ true = grind (arith, nat_tests) in
    rw low (grind (arith, nat_tests))

onto_shown : (k n : ℕ) (behind : List ℕ) → list_all is_digit behind ≡ true →
    list_all is_digit (digits_onto k 10 false n behind) ≡ true
onto_shown zero n behind all = all
onto_shown (suc k) n behind all =
    by (n / 10 == 0) (onto_shown k (n / 10) (digit_glyph false (n % 10) ∷ behind) more)
  where
    more : list_all is_digit (digit_glyph false (n % 10) ∷ behind) ≡ true
    more = and_from _ _ (digit_shown n) all

    by : (last : Bool) →
        list_all is_digit (digits_onto k 10 false (n / 10) (digit_glyph false (n % 10) ∷ behind))
        ≡ true →
        list_all is_digit (cond last (digit_glyph false (n % 10) ∷ behind)
        (digits_onto k 10 false (n / 10) (digit_glyph false (n % 10) ∷ behind))) ≡ true
    by true rest = more
    by false rest = rest

some_byte : (byte : ℕ) (bytes : List ℕ) → (length (byte ∷ bytes) == 0) ≡ false
some_byte byte bytes = grind (arith, nat_tests)

onto_some : (k n byte : ℕ) (behind : List ℕ) →
    (length (digits_onto k 10 false n (byte ∷ behind)) == 0) ≡ false
onto_some zero n byte behind = some_byte byte behind
onto_some (suc k) n byte behind =
    by (n / 10 == 0) (onto_some k (n / 10) (digit_glyph false (n % 10)) (byte ∷ behind))
  where
    by : (last : Bool) →
        (length (digits_onto k 10 false (n / 10) (digit_glyph false (n % 10) ∷ byte ∷ behind)) == 0)
        ≡ false →
        (length (cond last (digit_glyph false (n % 10) ∷ byte ∷ behind)
        (digits_onto k 10 false (n / 10) (digit_glyph false (n % 10) ∷ byte ∷ behind))) == 0) ≡ false
    by true rest = some_byte (digit_glyph false (n % 10)) (byte ∷ behind)
    by false rest = rest

some_digits : (n : ℕ) → (length (decimal n) == 0) ≡ false
unfolding digits
some_digits n = by (n / 10 == 0) (onto_some 63 (n / 10) (digit_glyph false (n % 10)) [])
  where
    by : (last : Bool) →
        (length (digits_onto 63 10 false (n / 10) (digit_glyph false (n % 10) ∷ [])) == 0) ≡ false →
        (length (cond last (digit_glyph false (n % 10) ∷ [])
        (digits_onto 63 10 false (n / 10) (digit_glyph false (n % 10) ∷ []))) == 0) ≡ false
    by true rest = some_byte (digit_glyph false (n % 10)) []
    by false rest = rest

all_digits : (n : ℕ) → list_all is_digit (decimal n) ≡ true
unfolding digits
all_digits n = onto_shown 64 n [] refl

pub decimal_is_numeral : (n : ℕ) → is_numeral (decimal n) ≡ true
decimal_is_numeral n =
    and_from (not (length (decimal n) == 0)) (list_all is_digit (decimal n))
    (ap not (some_digits n)) (all_digits n)

-- Words

thread_is_above : (t : GlobalId) → is_above 35 (thread_word t) ≡ true
thread_is_above t =
    above_parts 35 (decimal t.number ++ codes ".") (decimal t.version)
    (above_parts 35 (decimal t.number) (codes ".") (number t.number) refl) (number t.version)
  where
    number : (n : ℕ) → is_above 35 (decimal n) ≡ true
    number n = above_lower 35 46 (omega arith) (decimal n) (digits_above 10 n)

pub thread_before : (s : Name) → before_first is_hash (name_word s) ≡ thread_word s.thread
thread_before s = front_of 35 (thread_word s.thread) (decimal s.k) (thread_is_above s.thread)

pub name_has_number : (s : Name) → has_number (name_word s) ≡ true
name_has_number s =
    ap is_numeral (back_of 35 (thread_word s.thread) (decimal s.k) (thread_is_above s.thread))
    ∙ decimal_is_numeral s.k

-- All bytes of these words are above 32.
abbrev pub are_whole_words : List (List ℕ) → Bool
are_whole_words words = list_all (is_above 32) words

number_whole : (base n : ℕ) → is_above 32 (digits base false n) ≡ true
number_whole base n = above_lower 32 46 (omega arith) (digits base false n) (digits_above base n)

thread_whole : (t : GlobalId) → is_above 32 (thread_word t) ≡ true
thread_whole t = above_lower 32 35 (omega arith) (thread_word t) (thread_is_above t)

id_whole : (id : Id) → is_above 32 (id_word id) ≡ true
id_whole NilThread = refl
id_whole AnyThread = refl
id_whole AnyLocalThread = refl
id_whole (LocalThread word) = above_parts 32 (codes "#") (hexadecimal word) refl (number_whole 16 word)
id_whole (GlobalThread t) = thread_whole t

state_whole : (s : State) → is_above 32 (state_word s) ≡ true
state_whole IsReady = refl
state_whole IsSending = refl
state_whole IsReceiving = refl
state_whole IsOrdering = refl
state_whole IsEnded = refl
state_whole IsDeleted = refl

registers_whole : (words : List ℕ) → are_whole_words (map hexadecimal words) ≡ true
registers_whole [] = refl
registers_whole (word ∷ words) = and_from _ _ (number_whole 16 word) (registers_whole words)

-- The words of the lines of a report

abbrev pub thread_words : Report → List (List ℕ)
thread_words r = codes "thread" ∷ thread_word r.id ∷ state_word r.state ∷ decimal r.error ∷
    id_word r.from ∷ id_word r.actual
    ∷ map hexadecimal (shown_registers r.words)

abbrev pub waiting_words : Name × Id → List (List ℕ)
waiting_words p = codes "waiting" ∷ name_word p.0 ∷ id_word p.1 ∷ []

pub thread_words_whole : (r : Report) → are_whole_words (thread_words r) ≡ true
thread_words_whole r =
    and_from _ _ (thread_whole r.id) (and_from _ _ (state_whole r.state)
    (and_from _ _ (number_whole 10 r.error) (and_from _ _ (id_whole r.from)
    (and_from _ _ (id_whole r.actual) (registers_whole (shown_registers r.words))))))

pub waiting_words_whole : (p : Name × Id) → are_whole_words (waiting_words p) ≡ true
waiting_words_whole p =
    and_from _ _ name (and_from _ _ (id_whole p.1) refl)
  where
    name : is_above 32 (name_word p.0) ≡ true
    name =
        above_parts 32 (thread_word p.0.thread ++ codes "#") (decimal p.0.k)
        (above_parts 32 (thread_word p.0.thread) (codes "#") (thread_whole p.0.thread) refl)
        (number_whole 10 p.0.k)
