-- Worlds that are kept on the way to others.
use Rattle.std.specs.Prelude.{ℕ, ◌≤◌, ◌≡◌, List, length, take}
use Rattle.std.specs.List.{AllByRecursion}
use Rattle.l4_model.specs.Machine.{Machine}
use Rattle.l4_outlooks.specs.Inner.Foreseen.{Foreseen, IsLed}

-- The entries that lead to a world of a machine.
pub record Stop : Type 0 where
  pub machine : Machine
  pub entries : List ℕ

abbrev pub AreStops : Machine → List Stop → Type 0
AreStops m stops = AllByRecursion (λ s. s.machine ≡ m) stops

-- So many of these entries lead to the world.
pub record IsOnWay (m : Machine) (entries : List ℕ) (o : Foreseen) (count : ℕ) : Type 0 where
  pub inside : count ≤ length entries
  pub led : IsLed m (take count entries) o
