-- How lines name operations.
use Rattle.std.specs.Prelude.{ℕ, Option, List, [], ◌∷◌, find, codes}
use Rattle.std.specs.Str.{bytes_eq}
use Rattle.l4_model.specs.Machine.{Operation, Sum}

abbrev pub operations : List Operation
operations = Sum ∷ []

-- The first word of its line.
abbrev pub operation_word : Operation → List ℕ
operation_word Sum = codes "add"

unfoldable pub operation_named : (name : List ℕ) → Option Operation
operation_named name = find (λ operation. bytes_eq name (operation_word operation)) operations
