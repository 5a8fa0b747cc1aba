-- One more number of a range.
use Rattle.std.proofs.Common.{◌≡◌, ℕ, ◌+◌, List, [], ◌∷◌, ◌++◌, map, ap, sym, ◌∙◌, arith}
use Rattle.std.specs.Prelude.{flat_map}
use Rattle.std.specs.List.{range_with_len}
use Rattle.std.proofs.lemmas.Grind.{flat_map-append}
use Rattle.std.proofs.lemmas.List.{flat_map_more}
use Rattle.std.proofs.lemmas.List.Folds.{flat_map-map}
use Rattle.std.proofs.lemmas.List.FromFn.{map-range_with_len_more}

range_more : (f : ℕ → List ℕ) (n : ℕ) → flat_map f (range_with_len 0 (n + 1)) ≡ flat_map f (range_with_len 0 n ++ n ∷ [])
range_more f n =
    sym (flat_map-map f (λ i. i) (range_with_len 0 (n + 1))) ∙ ap (flat_map f) (map-range_with_len_more (λ i. i) 0 n n (omega arith))
    ∙ flat_map-append f (map (λ i. i) (range_with_len 0 n)) (n ∷ []) ∙ ap (λ is. is ++ flat_map f (n ∷ [])) (flat_map-map f (λ i. i) (range_with_len 0 n))
    ∙ sym (flat_map-append f (range_with_len 0 n) (n ∷ []))

-- The texts of one more number.
pub texts_more : (f : ℕ → List ℕ) (before so_far now : List ℕ) (n : ℕ) → so_far ≡ before ++ flat_map f (range_with_len 0 n) → now ≡ so_far ++ f n → now ≡ before ++ flat_map f (range_with_len 0 (n + 1))
texts_more f before so_far now n is more =
    more ∙ ap (λ xs. xs ++ f n) is ∙ flat_map_more f before (range_with_len 0 n) n ∙ ap (λ is. before ++ is) (sym (range_more f n))
