-- What no world on the way may meet.
use Rattle.std.specs.Prelude.{ℕ, ◌≡◌, ◌≤◌, Bool, true, Some, List, ◌++◌}
use Rattle.l4_model.specs.Machine.{Machine}
use Rattle.l4_model.specs.World.{World}
use Rattle.l4_model.specs.Steps.{Step}
use Rattle.l4_model.specs.History.{reached}
use Rattle.l4_futures.specs.Endings.{length_of}

-- A history meets a condition in some world on its way, the opening and its last world among them.
pub record Meets (m : Machine) (condition : World → Bool) (h : List Step) : Type 0 where
  pub before : List Step
  pub after : List Step
  pub is : h ≡ before ++ after
  pub world : World
  pub reaches : reached m before ≡ Some world
  pub met : condition world ≡ true

-- It meets it in its last world.
pub record MeetsAtLast (m : Machine) (condition : World → Bool) (h : List Step) : Type 0 where
  pub world : World
  pub reaches : reached m h ≡ Some world
  pub met : condition world ≡ true

-- No history of the machine meets it: that it does not hold is an invariant.
abbrev pub IsNeverMet : Machine → (condition : World → Bool) → Type 0
IsNeverMet m condition = (h : List Step) → Meets m condition h → ⊥

-- None of at most so many steps but ticks does.
abbrev pub IsNotMetWithin : Machine → (condition : World → Bool) → (steps : ℕ) → Type 0
IsNotMetWithin m condition steps =
    (h : List Step) → length_of h ≤ steps → Meets m condition h → ⊥

-- A history that meets it, and none with fewer steps but ticks does.
pub record IsShortest (m : Machine) (condition : World → Bool) (h : List Step) : Type 0 where
  pub meets : MeetsAtLast m condition h
  pub least : (other : List Step) → Meets m condition other → length_of h ≤ length_of other
