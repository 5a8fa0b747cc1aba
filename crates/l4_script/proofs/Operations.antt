-- The words of operations: each is found again, and is no word of another line.
use Rattle.std.proofs.Common.{◌≡◌, ℕ, Bool, true, false, not, List, [], ◌∷◌, Some, refl, subst}
use Rattle.std.specs.Prelude.{find, bytes_eq}
use Rattle.std.specs.List.{list_all}
use Rattle.std.proofs.lemmas.Bool.{and_parts, not-true}
use Rattle.l4_model.specs.Machine.{Operation, Sum}
use Rattle.l4_words.proofs.Found.{some_same}
use Rattle.l4_script.specs.Operations.{operations, operation_word, operation_named}
use Rattle.l4_script.proofs.Judging.{chosen}

pub found_passes : {A : Type 0} (p q : A → Bool) (xs : List A) (x : A) → find p xs ≡ Some x → list_all q xs ≡ true → q x ≡ true
found_passes p q [] x e all = absurd cc
found_passes p q (y ∷ xs) x e all =
    let parts = and_parts (q y) (list_all q xs) all in
    chosen (q x ≡ true) (p y) (Some y) (find p xs) (Some x) e
    (λ t h. subst (λ z. q z ≡ true) (some_same y x h) parts.0)
    (λ h. found_passes p q xs x h parts.1)

pub operation_found : (operation : Operation) → operation_named (operation_word operation) ≡ Some operation
unfolding operation_named
operation_found Sum = refl

-- What is so of each word in the table is so of each operation's.
pub each_word : (q : List ℕ → Bool) → list_all (λ (o : Operation). q (operation_word o)) operations ≡ true → (operation : Operation) → q (operation_word operation) ≡ true
unfolding operation_named
each_word q all operation =
    found_passes (λ (o : Operation). bytes_eq (operation_word operation) (operation_word o)) (λ (o : Operation). q (operation_word o)) operations operation (operation_found operation) all

pub other_word : (word : List ℕ) → list_all (λ (o : Operation). not (bytes_eq (operation_word o) word)) operations ≡ true → (operation : Operation) → bytes_eq (operation_word operation) word ≡ false
other_word word others operation = not-true _ (each_word (λ (own : List ℕ). not (bytes_eq own word)) others operation)
