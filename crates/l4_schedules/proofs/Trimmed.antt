-- Items between blanks.
use Rattle.std.proofs.Common.{◌≡◌, ℕ, ◌<◌, Bool, true, false, not, List, [], ◌∷◌, ◌++◌, reverse, length, refl, ap, ◌∙◌, arith, append_assoc}
use Rattle.std.specs.Prelude.{◌==◌, nat_lt}
use Rattle.std.specs.List.{list_all}
use Rattle.std.proofs.lemmas.Bool.{and_from, and_parts}
use Rattle.std.proofs.lemmas.Bool.Decides.{nat_tests}
use Rattle.std.proofs.lemmas.List.{reverse-append, reverse-reverse}
use Rattle.std.proofs.lemmas.List.Folds.{list_all-append}
use mathlib.Core.List.{reverse-cons}
use Rattle.l4_schedules.specs.InFiles.{is_blank, behind_blanks, trimmed}
use Rattle.l4_schedules.proofs.Plain.{is_plain, are_plain}

abbrev pub are_blank : List ℕ → Bool
are_blank bytes = list_all is_blank bytes

module _ (p : ℕ → Bool) where
  all_reversed : (xs : List ℕ) → list_all p xs ≡ true → list_all p (reverse xs) ≡ true
  all_reversed [] h = refl
  all_reversed (x ∷ xs) h =
      let parts = and_parts (p x) (list_all p xs) h in
      let last : list_all p (x ∷ []) ≡ true = and_from (p x) true parts.0 refl in
      ap (list_all p) (reverse-cons x xs) ∙ list_all-append p (reverse xs) (x ∷ [])
      ∙ and_from _ _ (all_reversed xs parts.1) last

pub behind : (blanks rest : List ℕ) → are_blank blanks ≡ true →
    behind_blanks (blanks ++ rest) ≡ behind_blanks rest
behind [] rest h = refl
behind (blank ∷ blanks) rest h =
    let parts = and_parts (is_blank blank) (are_blank blanks) h in
    rw parts.0 (behind blanks rest parts.1)

plain_no_blank : (byte : ℕ) → is_plain byte ≡ true → is_blank byte ≡ false
plain_no_blank byte h =
    let one = and_parts (nat_lt 47 byte) (not (byte == 59)) h in
    grind (arith, nat_tests, one.0)

-- In front of plain bytes there is no blank.
plain_first : (byte : ℕ) (bytes rest : List ℕ) → is_plain byte ≡ true →
    behind_blanks (byte ∷ bytes ++ rest) ≡ byte ∷ bytes ++ rest
plain_first byte bytes rest h = rw (plain_no_blank byte h) refl

pub plain_kept : (bytes : List ℕ) → are_plain bytes ≡ true → behind_blanks bytes ≡ bytes
plain_kept [] h = refl
plain_kept (byte ∷ bytes) h =
    let parts = and_parts (is_plain byte) (are_plain bytes) h in
    rw (plain_no_blank byte parts.0) refl

-- At the front of an item nothing is trimmed, as it begins with a plain byte.
front_off : (item tail : List ℕ) → are_plain item ≡ true → 0 < length item →
    behind_blanks (item ++ tail) ≡ item ++ tail
front_off [] tail h some = absurd (omega arith)
front_off (byte ∷ bytes) tail h some =
    plain_first byte bytes tail (and_parts (is_plain byte) (are_plain bytes) h).0

back_off : (item tail : List ℕ) → are_plain item ≡ true → are_blank tail ≡ true →
    reverse (behind_blanks (reverse (item ++ tail))) ≡ item
back_off item tail plain blank =
    ap (λ bytes. reverse (behind_blanks bytes)) (reverse-append item tail)
    ∙ ap reverse (behind (reverse tail) (reverse item) (all_reversed is_blank tail blank)
    ∙ plain_kept (reverse item) (all_reversed is_plain item plain))
    ∙ reverse-reverse item

pub between_blanks : (lead item tail : List ℕ) → are_blank lead ≡ true → are_plain item ≡ true →
    0 < length item → are_blank tail ≡ true → trimmed (lead ++ item ++ tail) ≡ item
between_blanks lead item tail before plain some after =
    ap (λ bytes. reverse (behind_blanks (reverse bytes)))
    (ap behind_blanks (append_assoc lead item tail) ∙ behind lead (item ++ tail) before ∙ front_off item tail plain some)
    ∙ back_off item tail plain after
