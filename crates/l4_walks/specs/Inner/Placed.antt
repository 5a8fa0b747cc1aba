-- Walks through the runs that processors make by schedules.
use Rattle.std.specs.Prelude.{ℕ, ◌≡◌, ◌≤◌, ◌<◌, ◌⊎◌, true, false, Option, None, Some, is_some, List, [], Vec, length}
use Rattle.std.proofs.Common.{Global}
use Rattle.std.specs.List.{AllByRecursion}
use Rattle.l4_model.specs.Machine.{Machine}
use Rattle.l4_core_model.specs.Runs.{System, at_rest}
use Rattle.l4_core_model.specs.Schedules.{Entry}
use Rattle.l4_replay.specs.declared.entries.Entry as code
use Rattle.l4_replay.specs.UnderWay.{UnderWay}
use Rattle.l4_endings.specs.Inner.Tried.{entries_from}
use Rattle.l4_endings.specs.Inner.Walked.{IsWalked}
use Rattle.l4_states.specs.Choices.{after_entry, choice, choice_count}
use Rattle.l4_states.specs.Endings.{entries_of, led}
use Rattle.l4_walks.specs.Replays.{IsReplay}

-- No choice can be made in a state.
abbrev pub IsOver : Machine → System → Type 0
IsOver m g = (number : ℕ) → number < choice_count m → after_entry m g (choice m number) ≡ None

-- One of the choices can be made, or none can.
abbrev pub IsChoice : Machine → System → Option ℕ → Type 0
IsChoice m g None = IsOver m g
IsChoice m g (Some number) =
    (number < choice_count m) × (is_some (after_entry m g (choice m number)) ≡ true)

-- These choices can be made. Where there are none, no choice below a number can.
pub record AreUpTo (m : Machine) (g : System) (below : ℕ) (numbers : List ℕ) : Type 0 where
  pub each : AllByRecursion (λ number. IsChoice m g (Some number)) numbers
  pub none : numbers ≡ [] → (number : ℕ) → number < below →
      after_entry m g (choice m number) ≡ None

abbrev pub AreChoices : Machine → System → (numbers : List ℕ) → Type 0
AreChoices m g numbers = AreUpTo m g (choice_count m) numbers

-- Under way in the program is the core run that such choices lead to.
pub record IsUnderWay (m : Machine) (entries : List code.Entry) (w : UnderWay) : Type 0 where
  pub numbers : List ℕ
  pub are : entries_from entries ≡ entries_of m numbers
  pub walked : IsWalked m numbers w

-- The replay of these entries comes to rest, by at most so many events ..
pub record LeadsToRest (m : Machine) (most : ℕ) (entries : List Entry) : Type 0 where
  pub replay : IsReplay m entries
  pub rest : at_rest m (led m entries) ≡ true
  pub near : length entries ≤ most

-- .. or it does not, by as many events as a walk may take, or as many as there can be.
pub record LeadsOn (m : Machine) (most : ℕ) : Type 0 where
  pub entries : List Entry
  pub replay : IsReplay m entries
  pub goes_on : at_rest m (led m entries) ≡ false
  pub as_many : (length entries ≡ most) ⊎ IsOver m (led m entries)

abbrev pub IsWalk : Machine → (most : ℕ) → Option (Vec code.Entry Global) → Type 0
IsWalk m most None = LeadsOn m most
IsWalk m most (Some entries) = LeadsToRest m most (entries_from entries.items)
