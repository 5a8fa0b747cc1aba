-- The line of a thread, put together piece by piece.
use Rattle.std.proofs.Common.{◌≡◌, ℕ, List, ◌++◌, append_assoc}
use Rattle.std.specs.Prelude.{codes}

pub refused_joined : (s first last : List ℕ) → s ++ codes " refused" ++ first ++ last ≡ s ++ (codes " refused" ++ first ++ last)
refused_joined s first last = simp append_assoc

pub counts_line_joined : (s id done refused : List ℕ) →
    s ++ codes "counts" ++ codes " " ++ id ++ done ++ refused ++ codes "\n" ≡ s ++ (codes "counts" ++ codes " " ++ id ++ done ++ refused ++ codes "\n")
counts_line_joined s id done refused = simp append_assoc
