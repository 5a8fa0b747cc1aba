-- The bytes of items: digits, colons and letters, no comma, no semicolon and no blank.
use Rattle.std.proofs.Common.{◌≡◌, ℕ, ◌<◌, ◌^◌, Bool, true, false, not, List, [], ◌∷◌, ◌++◌, All, length, refl, ◌∙◌, arith, length-append}
use Rattle.std.specs.Prelude.{◌==◌, ◌&&◌, nat_lt, codes, decimal}
use Rattle.std.specs.List.{list_all}
use Rattle.std.specs.Str.Parse.{AllDigits}
use Rattle.std.proofs.lemmas.Bool.{and_from, and_parts, ltb-true}
use Rattle.std.proofs.lemmas.Bool.Decides.{nat_tests}
use Rattle.std.proofs.lemmas.Fmt.{decimal_is_IsNumeral, decimal_nonempty}
use Rattle.std.proofs.lemmas.List.Elements.{All-nil, All-cons}
use Rattle.std.proofs.lemmas.List.Folds.{list_all-append}
use Rattle.std.specs.Char.{digit_value}
use Rattle.l4_model.specs.Words.{clock_limit}
use Rattle.l4_core_model.specs.Schedules.{Entry, TurnOf, TickOf, LetterOf, CoreOf, TickTo}
use Rattle.l4_replay.specs.Entries.{is_entry_of}
use Rattle.l4_schedules.specs.Items.{item_of}

abbrev pub is_plain : ℕ → Bool
is_plain byte = nat_lt 47 byte && not (byte == 59)

abbrev pub are_plain : List ℕ → Bool
are_plain bytes = list_all is_plain bytes

pub plain_parts : (xs ys : List ℕ) → are_plain xs ≡ true → are_plain ys ≡ true →
    are_plain (xs ++ ys) ≡ true
plain_parts xs ys p q = list_all-append is_plain xs ys ∙ and_from _ _ p q

digits_are_plain : (digits : List ℕ) → AllDigits 10 digits → are_plain digits ≡ true
digits_are_plain [] h = refl
digits_are_plain (digit ∷ digits) h =
    let value : digit_value digit < 10 = h.0 in
    let above : nat_lt 47 digit ≡ true = grind (arith, nat_tests, value) in
    let other : not (digit == 59) ≡ true = grind (arith, nat_tests, value) in
    and_from _ _ (and_from _ _ above other) (digits_are_plain digits h.1)

pub decimal_is_plain : (n : ℕ) → n < 2 ^ 64 → are_plain (decimal n) ≡ true
decimal_is_plain n h = digits_are_plain (decimal n) (decimal_is_IsNumeral n h).0.1

-- An item has at least one byte, and all of its bytes are plain.
pub record IsPlain (item : List ℕ) : Type 0 where
  pub bytes : are_plain item ≡ true
  pub some : 0 < length item

number : (n : ℕ) → n < 2 ^ 64 → IsPlain (decimal n)
number n h = record { bytes = decimal_is_plain n h; some = decimal_nonempty n h }

both : (xs ys : List ℕ) → IsPlain xs → are_plain ys ≡ true → IsPlain (xs ++ ys)
both xs ys one two = record {
  bytes = plain_parts xs ys one.bytes two;
  some = omega (arith, length-append xs ys, one.some);
}

pub item_is_plain : (entry : Entry) → is_entry_of 16 entry ≡ true → IsPlain (item_of entry)
item_is_plain (TurnOf cpu) is = number cpu (omega (arith, ltb-true cpu 16 is))
item_is_plain (TickOf cpu) is =
    let cpu_is = decimal_is_plain cpu (omega (arith, ltb-true cpu 16 is)) in
    both (codes "t") (decimal cpu) (record { bytes = refl; some = omega arith }) cpu_is
item_is_plain (CoreOf cpu) is =
    let cpu_is = decimal_is_plain cpu (omega (arith, ltb-true cpu 16 is)) in
    both (codes "c") (decimal cpu) (record { bytes = refl; some = omega arith }) cpu_is
item_is_plain (LetterOf cpu from) is =
    let each = and_parts (nat_lt cpu 16) (nat_lt from 16) is in
    let first = number cpu (omega (arith, ltb-true cpu 16 each.0)) in
    let second = decimal_is_plain from (omega (arith, ltb-true from 16 each.1)) in
    both (decimal cpu ++ codes ":") (decimal from) (both (decimal cpu) (codes ":") first refl) second
item_is_plain (TickTo cpu clock) is =
    let each = and_parts (nat_lt cpu 16 && nat_lt 0 clock) (nat_lt clock clock_limit) is in
    let cpu_below = and_parts (nat_lt cpu 16) (nat_lt 0 clock) each.0 in
    let first = decimal_is_plain cpu (omega (arith, ltb-true cpu 16 cpu_below.0)) in
    let below = ltb-true clock (2 ^ 62) each.1 in
    let second = decimal_is_plain clock (omega (arith, below)) in
    let tick = both (codes "t") (decimal cpu) (record { bytes = refl; some = omega arith }) first in
    both (codes "t" ++ decimal cpu ++ codes ":") (decimal clock)
    (both (codes "t" ++ decimal cpu) (codes ":") tick refl) second

pub no_comma : (bytes : List ℕ) → are_plain bytes ≡ true → All (λ byte. (byte == 44) ≡ false) bytes
no_comma [] h = All-nil _
no_comma (byte ∷ bytes) h =
    let parts = and_parts (is_plain byte) (are_plain bytes) h in
    let one = and_parts (nat_lt 47 byte) (not (byte == 59)) parts.0 in
    let other : (byte == 44) ≡ false = grind (arith, nat_tests, one.0) in
    All-cons (λ byte. (byte == 44) ≡ false) byte bytes other (no_comma bytes parts.1)
