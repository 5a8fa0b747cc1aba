-- What is appended part by part.
use Rattle.std.proofs.Common.{◌≡◌, ℕ, List, ◌++◌, ap, ◌∙◌, append_assoc}

-- Four parts behind what was there.
pub four_parts : (out a b c d one two three four : List ℕ) → one ≡ out ++ a → two ≡ one ++ b → three ≡ two ++ c → four ≡ three ++ d → four ≡ out ++ (a ++ b ++ c ++ d)
four_parts out a b c d one two three four is_one is_two is_three is_four =
    is_four
    ∙ ap (λ (xs : List ℕ). xs ++ d) is_three
    ∙ ap (λ (xs : List ℕ). xs ++ c ++ d) is_two
    ∙ ap (λ (xs : List ℕ). xs ++ b ++ c ++ d) is_one
    ∙ ap (λ (xs : List ℕ). xs ++ c ++ d) (append_assoc out a b)
    ∙ ap (λ (xs : List ℕ). xs ++ d) (append_assoc out (a ++ b) c)
    ∙ append_assoc out (a ++ b ++ c) d
