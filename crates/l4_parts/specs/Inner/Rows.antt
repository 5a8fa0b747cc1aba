-- Rows of numbers.
use Rattle.std.specs.Prelude.{ℕ, ◌+◌, ◌*◌, ◌<◌, ◌≡◌, List, length}
use Rattle.l4_model.specs.Machine.{Machine}
use Rattle.l4_core_model.specs.Runs.{IsMachine, System}
use Rattle.l4_core_model.specs.Letters.{Letter}
use Rattle.l4_bisimilar.specs.Alike.{contents}
use Rattle.l4_states.specs.Inner.Codes.{chained, content_code}
use Rattle.l4_states.specs.Choices.{IsReached}
use Rattle.l4_parts.specs.declared.parts.Part.{Part}
use Rattle.l4_parts.specs.Inner.Known.{number_at, AreTrue, IsRow}

-- As many numbers as there are places, each that of a part.
pub record AreNumbers (parts : List Part) (row : List ℕ) (cpus : ℕ) : Type 0 where
  pub long : length row ≡ cpus + cpus * cpus
  pub below : (place : ℕ) → place < cpus + cpus * cpus → number_at row place < length parts

-- The row of a state that core runs lead to, of which the parts are true.
pub record IsRowIn (m : Machine) (g : System) (parts : List Part) (row : List ℕ) (cpus : ℕ) :
    Type 0 where
  pub machine : IsMachine m
  pub cpus_are : cpus ≡ m.cpus
  pub reached : IsReached m g
  pub parts_are : AreTrue m parts
  pub row_is : IsRow m g parts row

-- The numbers of letters, in front of what follows.
abbrev pub letters_code : List Letter → List ℕ → List ℕ
letters_code ls rest = chained content_code (contents ls) rest
