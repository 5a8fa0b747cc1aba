-- Words that are written are read: numbers and ids.
use Rattle.std.proofs.Common.{◌≡◌, ℕ, zero, suc, ◌*◌, ◌+◌, ◌/◌, ◌%◌, ◌^◌, ◌<◌, ◌≤◌, Bool, true, false, ◌&&◌, eqb, List, [], ◌∷◌, ◌++◌, length, take, Option, Some, None, Ok, refl, ap, ◌∙◌, arith}
use Rattle.std.specs.Prelude.{◌==◌, nat_lt, nat_le, codes, decimal, bytes_eq}
use Rattle.std.specs.Char.{digit_value}
use Rattle.std.specs.Fmt.{digit_glyph}
use Rattle.std.specs.Str.Parse.{AllDigits, IsNumeral}
use Rattle.std.specs.List.{list_all}
use Rattle.std.specs.Option.{option_map}
use Rattle.std.proofs.lemmas.Bool.{false≢true, and_left, and_right, ltb-true, lt-ltb, le-leb, eq-eqb}
use Rattle.std.proofs.lemmas.Bool.Decides.{nat_tests}
use Rattle.std.proofs.lemmas.List.{length-append}
use Rattle.std.proofs.lemmas.Fmt.{decimal_is_IsNumeral}
use Rattle.l4_model.specs.Words.{Format, W64, W32, word_limit, is_word_in, GlobalId, is_global_in, has_word_in, id_by, Id, NilThread, AnyThread, AnyLocalThread, LocalThread, GlobalThread}
use Rattle.l4_model.specs.Conditions.{◌>>=◌}
use Rattle.l4_model.specs.Machine.{IdFrom, Fixed, Last, InRegister}
use Rattle.l4_types.proofs.InFormats.{id_of_its_word, is_global_too}
use Rattle.l4_words.specs.Numbers.{padded_of, with_digit, number_onto}
use Rattle.l4_words.specs.Threads.{thread_word}
use Rattle.l4_words.proofs.Numerals.{decimal_is_read, digit_written}
use Rattle.l4_words.proofs.Spelled.{fits, thread_is_read}
use Rattle.l4_script.specs.Numbers.{number_of, number_from, word_from}
use Rattle.l4_script.specs.Ids.{id_digits, raw_id_of, thread_in, spelled_id_of, id_of}
use Rattle.l4_script.specs.Statements.{destination_of}
use Rattle.l4_script.proofs.SimpleLines.{is_word_byte}
use Rattle.l4_script.specs.Canonical.{low_digits, id_word, id_from_word, has_destination}

-- A word that some line may have: each byte is printable, and neither a space nor `;` nor `:`.
abbrev pub is_plain : List ℕ → Bool
is_plain w = nat_lt 0 (length w) && list_all is_word_byte w

-- Numbers

digit_no_x : (c : ℕ) → digit_value c < 10 → eqb c 120 ≡ false
digit_no_x c l = grind (arith, nat_tests)

no_prefix : (w : List ℕ) → AllDigits 10 w → bytes_eq (take 2 w) (codes "0x") ≡ false
no_prefix [] h = refl
no_prefix (a ∷ []) h = and_right (eqb a 48) false refl
no_prefix (a ∷ b ∷ cs) h = and_right (eqb a 48) (eqb b 120 && true) (and_left (eqb b 120) true (digit_no_x b h.1.0))

pub number_read : (n : ℕ) → n < 2 ^ 64 → number_of (decimal n) ≡ Some n
unfolding number_of
number_read n small = rw (no_prefix (decimal n) (decimal_is_IsNumeral n small).0.1) (decimal_is_read n small)

pub ranged_read : (low high n : ℕ) → low ≤ n → n ≤ high → high < 2 ^ 64 → number_from low high (decimal n) ≡ Ok n
unfolding number_from
ranged_read low high n lower upper small = rw (number_read n (omega arith), le-leb low n lower, le-leb n high upper) refl

-- A word of a format is below 2^64.
pub word_small : (f : Format) (n : ℕ) → n < word_limit f → n < 2 ^ 64
word_small W64 n small = small
word_small W32 n small = omega (arith, small)

pub word_read : (f : Format) (n : ℕ) → is_word_in f n ≡ true → word_from f (decimal n) ≡ Ok n
unfolding word_from
word_read f n h = rw (number_read n (word_small f n (ltb-true n (word_limit f) h)), h) refl

-- Ids

pub digits_of_number : (f : Format) (t : GlobalId) → is_global_in f t ≡ true → IsNumeral 10 (decimal t.number)
digits_of_number f t h = (decimal_is_IsNumeral t.number (fits t (is_global_too f t h)).number).0

pub thread_in_read : (f : Format) (t : GlobalId) → is_global_in f t ≡ true → thread_in f (thread_word t) ≡ Some t
unfolding thread_in
thread_in_read f t h = rw (thread_is_read t (is_global_too f t h), h) refl

digit_no_name : (c : ℕ) → digit_value c < 10 → (eqb c 110 ≡ false) × (eqb c 97 ≡ false) × (eqb c 35 ≡ false)
digit_no_name c l = (grind (arith, nat_tests), grind (arith, nat_tests), grind (arith, nat_tests))

-- What begins with a digit is no name, and no word.
spelled_by_numbers : (f : Format) (front dot rest : List ℕ) → IsNumeral 10 front → id_of f (front ++ dot ++ rest) ≡ option_map GlobalThread (thread_in f (front ++ dot ++ rest))
unfolding spelled_id_of id_of
spelled_by_numbers f [] dot rest h = absurd (omega (arith, h.0))
spelled_by_numbers f (c ∷ cs) dot rest h = let other = digit_no_name c h.1.0 in rw (other.0, other.1, other.2) refl

-- Hexadecimal digits

-- One more digit behind others.
one_more : (value byte : ℕ) → number_onto 16 value (byte ∷ []) ≡ with_digit 16 value byte
one_more value byte = same (with_digit 16 value byte)
  where
    same : (o : Option ℕ) → (o >>= λ more. number_onto 16 more []) ≡ o
    same None = refl
    same (Some more) = refl

pushed : (value : ℕ) (bytes : List ℕ) (byte : ℕ) → number_onto 16 value (bytes ++ byte ∷ []) ≡ (number_onto 16 value bytes >>= λ more. with_digit 16 more byte)
pushed value [] byte = one_more value byte
pushed value (first ∷ bytes) byte = by (with_digit 16 value first) (λ more. pushed more bytes byte)
  where
    by : (o : Option ℕ) → ((more : ℕ) → number_onto 16 more (bytes ++ byte ∷ []) ≡ (number_onto 16 more bytes >>= λ more. with_digit 16 more byte))
        → (o >>= λ more. number_onto 16 more (bytes ++ byte ∷ [])) ≡ ((o >>= λ more. number_onto 16 more bytes) >>= λ more. with_digit 16 more byte)
    by None rest = refl
    by (Some more) rest = rest more

low_digits_size : (k n : ℕ) → length (low_digits k n) ≡ k
unfolding low_digits
low_digits_size zero n = refl
low_digits_size (suc k) n = omega (arith, length-append (low_digits k (n / 16)) (digit_glyph false (n % 16) ∷ []), low_digits_size k (n / 16))

last_put : (n : ℕ) → n < 2 ^ 64 → with_digit 16 (n / 16) (digit_glyph false (n % 16)) ≡ Some n
last_put n small =
    let whole : n / 16 * 16 + n % 16 ≡ n = omega arith in
    rw (digit_written 16 (n % 16) (omega arith) (omega arith), whole, lt-ltb n (2 ^ 64) small) refl

low_digits_onto : (k n : ℕ) → n < 16 ^ k → n < 2 ^ 64 → number_onto 16 0 (low_digits k n) ≡ Some n
unfolding low_digits
low_digits_onto zero n room small = let none : 0 ≡ n = omega (arith, room) in ap (λ (n : ℕ). Some n) none
low_digits_onto (suc k) n room small =
    pushed 0 (low_digits k (n / 16)) (digit_glyph false (n % 16))
    ∙ ap (λ o. o >>= λ more. with_digit 16 more (digit_glyph false (n % 16))) (low_digits_onto k (n / 16) (omega (arith, room)) (omega (arith, small)))
    ∙ last_put n small

-- So many digits have room for each word of the format.
abbrev HasRoom : Format → ℕ → Type 0
HasRoom f n = (n < 16 ^ id_digits f) × (nat_le (id_digits f) 16 ≡ true) × ((id_digits f == 0) ≡ false)

has_room : (f : Format) (n : ℕ) → n < word_limit f → HasRoom f n
has_room W64 n small = (omega (arith, small), refl, refl)
has_room W32 n small = (omega (arith, small), refl, refl)

padded_read : (f : Format) (n : ℕ) → n < word_limit f → padded_of (low_digits (id_digits f) n) ≡ Some n
padded_read f n small =
    let room = has_room f n small in
    rw (low_digits_size (id_digits f) n, room.1, room.2) (low_digits_onto (id_digits f) n room.0 (word_small f n small))

raw_read : (f : Format) (word : ℕ) → word < word_limit f → raw_id_of f (low_digits (id_digits f) word) ≡ Some (id_by f word)
raw_read f word small =
    let size : (length (low_digits (id_digits f) word) == id_digits f) ≡ true = eq-eqb _ (id_digits f) (low_digits_size (id_digits f) word) in
    rw (size, padded_read f word small) (rw (lt-ltb word (word_limit f) small) refl)

pub id_read : (f : Format) (id : Id) → has_word_in f id ≡ true → id_of f (id_word f id) ≡ Some id
unfolding spelled_id_of id_of
id_read f NilThread h = refl
id_read f AnyThread h = refl
id_read f AnyLocalThread h = refl
id_read f (LocalThread word) h = let l = id_of_its_word f (LocalThread word) h in raw_read f word l.0 ∙ ap (λ (id : Id). Some id) l.1
id_read f (GlobalThread t) h = spelled_by_numbers f (decimal t.number) (codes ".") (decimal t.version) (digits_of_number f t h) ∙ rw (thread_in_read f t h) refl

digit_no_l : (c : ℕ) → digit_value c < 10 → eqb c 108 ≡ false
digit_no_l c l = grind (arith, nat_tests)

-- What begins with a digit is not `last`.
numeral_no_last : (front dot rest : List ℕ) → IsNumeral 10 front → bytes_eq (front ++ dot ++ rest) (codes "last") ≡ false
numeral_no_last [] dot rest h = absurd (omega (arith, h.0))
numeral_no_last (c ∷ cs) dot rest h = rw (digit_no_l c h.1.0) refl

pub id_no_last : (f : Format) (id : Id) → has_word_in f id ≡ true → bytes_eq (id_word f id) (codes "last") ≡ false
id_no_last f NilThread h = refl
id_no_last f AnyThread h = refl
id_no_last f AnyLocalThread h = refl
id_no_last f (LocalThread word) h = refl
id_no_last f (GlobalThread t) h = numeral_no_last (decimal t.number) (codes ".") (decimal t.version) (digits_of_number f t h)

pub destination_read : (f : Format) (to : IdFrom) → has_destination f to ≡ true → destination_of f (id_from_word f to) ≡ Ok to
unfolding destination_of
destination_read f (Fixed id) h = rw (id_no_last f id h, id_read f id h) refl
destination_read f Last h = refl
destination_read f (InRegister format a) h = absurd (false≢true h)
