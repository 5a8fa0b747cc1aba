-- One more copy of a list behind those before.
use Rattle.std.proofs.Common.{◌≡◌, ℕ, ◌+◌, zero, suc, List, ◌++◌, ap, sym, ◌∙◌, append-nil, append_assoc, add-one}
use Rattle.std.specs.List.{repeat}

repeat-suc : {A : Type 0} (n : ℕ) (xs : List A) → repeat n xs ++ xs ≡ xs ++ repeat n xs
repeat-suc zero xs = sym (append-nil xs)
repeat-suc (suc n) xs = append_assoc xs (repeat n xs) xs ∙ ap (λ ys. xs ++ ys) (repeat-suc n xs)

pub repeat_more : {A : Type 0} (n : ℕ) (xs : List A) → repeat n xs ++ xs ≡ repeat (n + 1) xs
repeat_more n xs = rw add-one (repeat-suc n xs)
