-- Whether two words are the same, byte by byte.
use Rattle.std.proofs.Common.{◌≡◌, ℕ, suc, ◌+◌, ◌<◌, Bool, true, false, List, [], ◌∷◌, drop, get_or, length, refl, ap, ◌∙◌}
use Rattle.std.specs.Prelude.{◌==◌, ◌&&◌}
use Rattle.std.specs.Str.{bytes_eq}
use Rattle.std.proofs.lemmas.Bool.{eq-eqb, eqb-true, false_from_ne_true}
use Rattle.std.proofs.lemmas.List.{at_drop_more}

both : (b c : Bool) → c ≡ false → (b && c) ≡ false
both true c e = e
both false c e = refl

pub other_length : (xs ys : List ℕ) → (length xs ≡ length ys → ⊥) → bytes_eq xs ys ≡ false
other_length [] [] other = absurd (other refl)
other_length [] (y ∷ ys) other = refl
other_length (x ∷ xs) [] other = refl
other_length (x ∷ xs) (y ∷ ys) other = both _ (bytes_eq xs ys) (other_length xs ys (λ e. other (ap suc e)))

next_byte : (xs ys : List ℕ) (i : ℕ) → i < length xs → i < length ys →
    bytes_eq (drop i xs) (drop i ys) ≡ (get_or xs i 0 == get_or ys i 0 && bytes_eq (drop (i + 1) xs) (drop (i + 1) ys))
next_byte xs ys i within inside =
    at_drop_more (λ zs. bytes_eq zs (drop i ys)) xs i 0 within ∙ at_drop_more (λ zs. bytes_eq (get_or xs i 0 ∷ drop (i + 1) xs) zs) ys i 0 inside

pub same_byte : (xs ys : List ℕ) (i : ℕ) → i < length xs → i < length ys → get_or xs i 0 ≡ get_or ys i 0 →
    bytes_eq (drop i xs) (drop i ys) ≡ bytes_eq (drop (i + 1) xs) (drop (i + 1) ys)
same_byte xs ys i within inside e = next_byte xs ys i within inside ∙ ap (λ b. b && bytes_eq (drop (i + 1) xs) (drop (i + 1) ys)) (eq-eqb (get_or xs i 0) (get_or ys i 0) e)

pub other_byte : (xs ys : List ℕ) (i : ℕ) → i < length xs → i < length ys → (get_or xs i 0 ≡ get_or ys i 0 → ⊥) → bytes_eq (drop i xs) (drop i ys) ≡ false
other_byte xs ys i within inside other =
    next_byte xs ys i within inside
    ∙ ap (λ b. b && bytes_eq (drop (i + 1) xs) (drop (i + 1) ys)) (false_from_ne_true (get_or xs i 0 == get_or ys i 0) (λ e. other (eqb-true (get_or xs i 0) (get_or ys i 0) e)))
