-- The undecided sends of logs.
use Rattle.std.specs.Prelude.{◌≡◌, ◌++◌, ◌-◌, ℕ, Option, List, [], ◌∷◌, drop, filter_map, length, map}
use Rattle.std.specs.List.{AllByRecursion, flat_map}
use Rattle.l4_model.specs.Steps.{Step}
use Rattle.l4_core_model.specs.Runs.{Event, merged, told}
use Rattle.l4_proc.specs.declared.processor.Processor.{Processor}
use Rattle.l4_machine.specs.Inner.EventsLeft.{all_left, left, IsUnmerged}
use Rattle.l4_machine.specs.Inner.Rising.{RiseFrom}
use Rattle.l4_machine.specs.declared.unmerged.Unmerged.{Unmerged}

-- The last `most` of these, or all if there are fewer.
abbrev pub at_end : {A : Type 0} → (most : ℕ) → List A → List A
at_end most xs = drop (length xs - most) xs

-- The last `most` events left of each log, one log behind the other.
abbrev pub all_at_end : List Processor → (most : ℕ) → List Unmerged → List Event
all_at_end ps most us = flat_map (λ u. at_end most (left ps u)) us

-- No step of the event is what is sought.
abbrev pub IsSilent : {A : Type 0} → (Step → Option A) → Event → Type 0
IsSilent f e = filter_map f e.steps ≡ []

-- The events that a log has passed are silent: none of their steps is sought.
pub record HasPassed {A : Type 0} (f : Step → Option A) (olds news : List Event) : Type 0 where
  pub passed : List Event
  pub are : olds ≡ passed ++ news
  pub silent : AllByRecursion (IsSilent f) passed

-- What is left of all logs has the same sought values as what was left before.
pub record ArePassed {A : Type 0} (f : Step →
    Option A) (ps : List Processor) (olds news : List Unmerged) : Type 0 where
  pub rising : RiseFrom 0 (map (left ps) news)
  pub found : filter_map f (told (merged (all_left ps news))) ≡
      filter_map f (told (merged (all_left ps olds)))

-- What is sought of the first event that was left is found, and silent ones behind it are passed.
pub record HasFoundFirst {A : Type 0} (f : Step →
    Option A) (ps : List Processor) (old new : Unmerged) (before after : List A) : Type 0 where
  pub event : Event
  pub behind : List Event
  pub first : left ps old ≡ event ∷ behind
  pub passed : HasPassed f behind (left ps new)
  pub whole : IsUnmerged ps new
  pub found : after ≡ before ++ filter_map f event.steps
