-- The table of the digits by their bytes.
use Rattle.std.proofs.Common.{◌≡◌, ℕ, ◌-◌, ◌^◌, ◌<◌, ◌≤◌, Bool, true, false, cond, ltb, ◌&&◌, map, get_or, Some, None, refl, ap, ◌∙◌, arith}
use Rattle.std.specs.Prelude.{nat_le, nat_lt}
use Rattle.std.specs.List.{range_with_len}
use Rattle.std.proofs.lemmas.Bool.{and_parts, le-ltb, leb-true}
use Rattle.std.proofs.lemmas.List.FromFn.{get_or-map-range_with_len}
use Rattle.l4_model.specs.Conditions.{◌>>=◌, ◌>>◌}
use Rattle.l4_words.specs.Numbers.{digit_of}
use Rattle.l4_words.specs.declared.numbers.TheConstants.{DIGITS}

abbrev face : ℕ → ℕ
face byte = cond (nat_le 48 byte && nat_le byte 57) (byte - 48) (cond (nat_le 97 byte && nat_le byte 102) (byte - 87) (2 ^ 32))

table_is : DIGITS ≡ map face (range_with_len 0 256)
table_is = refl

face_at : (byte : ℕ) → byte < 256 → get_or DIGITS byte 0 ≡ face byte
face_at byte below = ap (λ table. get_or table byte 0) table_is ∙ get_or-map-range_with_len face 0 256 byte byte 0 below (omega arith)

tested : (radix byte : ℕ) → radix ≤ 16 → digit_of radix byte ≡ cond (ltb (face byte) radix) (Some (face byte)) None
tested radix byte small = by (nat_le 48 byte && nat_le byte 57) (nat_le 97 byte && nat_le byte 102)
  where
    then_some : (d : ℕ) (b : Bool) → (b >> Some d) ≡ cond b (Some d) None
    then_some d true = refl
    then_some d false = refl

    by : (a b : Bool) → (cond a (Some (byte - 48)) (cond b (Some (byte - 87)) None) >>= λ digit. nat_lt digit radix >> Some digit)
        ≡ cond (ltb (cond a (byte - 48) (cond b (byte - 87) (2 ^ 32))) radix) (Some (cond a (byte - 48) (cond b (byte - 87) (2 ^ 32)))) None
    by true b = then_some (byte - 48) (nat_lt (byte - 48) radix)
    by false true = then_some (byte - 87) (nat_lt (byte - 87) radix)
    by false false = rw (le-ltb (2 ^ 32) radix (omega (arith, small))) refl

most_of : (a b : Bool) (byte : ℕ) → byte < 256 → cond a (byte - 48) (cond b (byte - 87) (2 ^ 32)) ≤ 2 ^ 32
most_of true b byte within = omega (arith, within)
most_of false true byte within = omega (arith, within)
most_of false false byte within = omega arith

few_of : (byte : ℕ) (a b : Bool) → (nat_le 48 byte && nat_le byte 57) ≡ a → (nat_le 97 byte && nat_le byte 102) ≡ b →
    cond a (byte - 48) (cond b (byte - 87) (2 ^ 32)) < 2 ^ 32 → cond a (byte - 48) (cond b (byte - 87) (2 ^ 32)) < 16
few_of byte true b is_a is_b below = let high = leb-true byte 57 (and_parts _ _ is_a).1 in omega (arith, high)
few_of byte false true is_a is_b below = let high = leb-true byte 102 (and_parts _ _ is_b).1 in omega (arith, high)
few_of byte false false is_a is_b below = absurd (omega (arith, below))

pub face_most : (byte : ℕ) → byte < 256 → get_or DIGITS byte 0 ≤ 2 ^ 32
face_most byte within = rw (face_at byte within) (most_of (nat_le 48 byte && nat_le byte 57) (nat_le 97 byte && nat_le byte 102) byte within)

pub face_few : (byte : ℕ) → byte < 256 → get_or DIGITS byte 0 < 2 ^ 32 → get_or DIGITS byte 0 < 16
face_few byte within = rw (face_at byte within) (few_of byte (nat_le 48 byte && nat_le byte 57) (nat_le 97 byte && nat_le byte 102) refl refl)

pub face_digit : (byte : ℕ) → byte < 256 → (radix : ℕ) → radix ≤ 16 →
    digit_of radix byte ≡ cond (nat_lt (get_or DIGITS byte 0) radix) (Some (get_or DIGITS byte 0)) None
face_digit byte within radix small = rw (face_at byte within) (tested radix byte small)
