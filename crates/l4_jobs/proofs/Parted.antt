-- The line of a fault that has a number and a name, in parts.
use Rattle.std.proofs.Common.{◌≡◌, ℕ, List, ◌++◌, append_assoc, codes, ◌∙◌}

pub parted : (number name : List ℕ) → (number ++ codes ": " ++ name) ++ codes "\n" ≡ number ++ (codes ": " ++ (name ++ codes "\n"))
parted number name = append_assoc (number ++ codes ": ") name (codes "\n") ∙ append_assoc number (codes ": ") (name ++ codes "\n")
