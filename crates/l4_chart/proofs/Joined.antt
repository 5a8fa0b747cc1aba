-- Parts that were appended one after another.
use Rattle.std.proofs.Common.{◌≡◌, ◌∙◌, List, ◌∷◌, ◌++◌, ap, append_assoc, sym}
use Rattle.std.specs.Prelude.{flat_map}

pub joined : {A : Type 0} (s a b c d p q r t : List A) → p ≡ s ++ a → q ≡ p ++ b → r ≡ q ++ c → t ≡ r ++ d → t ≡ s ++ (((a ++ b) ++ c) ++ d)
joined s a b c d p q r t first second third fourth =
    let two : q ≡ s ++ (a ++ b) = second ∙ ap (λ l. l ++ b) first ∙ append_assoc s a b in
    let three : r ≡ s ++ ((a ++ b) ++ c) = third ∙ ap (λ l. l ++ c) two ∙ append_assoc s (a ++ b) c in
    fourth ∙ ap (λ l. l ++ d) three ∙ append_assoc s ((a ++ b) ++ c) d

-- One more is appended, and the others are left.
pub one_more : {A B : Type 0} (f : A → List B) (x : A) (xs ys : List A) (old new all : List B) → old ++ flat_map f xs ≡ all → xs ≡ x ∷ ys → new ≡ old ++ f x →
    new ++ flat_map f ys ≡ all
one_more f x xs ys old new all left is next =
    ap (λ l. l ++ flat_map f ys) next ∙ append_assoc old (f x) (flat_map f ys) ∙ ap (λ l. old ++ flat_map f l) (sym is) ∙ left
