-- Logs whose events are told one by one.
use Rattle.std.specs.Prelude.{◌≡◌, ℕ, suc, ◌-◌, ◌≤◌, ◌<◌, if◌then◌else◌, nat_le, Option, Some, None, List, [], ◌∷◌, length, drop, slice_get}
use Rattle.std.specs.List.{flat_map}
use Rattle.l4_model.specs.Steps.{Step}
use Rattle.l4_core_model.specs.Runs.{Event}
use Rattle.l4_proc.specs.declared.processor.Processor.{Processor}
use Rattle.l4_machine.specs.Gathers.{events_of}
use Rattle.l4_machine.specs.declared.unmerged.Unmerged.{Unmerged}

-- The events of a log that are still to be told.
abbrev pub left : List Processor → Unmerged → List Event
left ps u = drop (u.count - u.left) (events_of (slice_get ps u.place))

-- The events of all logs that are still to be told, one log behind the other.
abbrev pub all_left : List Processor → List Unmerged → List Event
all_left ps us = flat_map (left ps) us

abbrev pub first_stamp : List Event → Option ℕ
first_stamp [] = None
first_stamp (e ∷ es) = Some e.stamp

pub record IsUnmerged (ps : List Processor) (u : Unmerged) : Type 0 where
  pub place : u.place < length ps
  pub count : u.count ≡ length (events_of (slice_get ps u.place))
  pub few : u.left ≤ u.count
  pub stamp : u.stamp ≡ first_stamp (left ps u)

-- The first event that was left is taken. These are its steps.
pub record HasTakenFirst (ps : List Processor) (old new : Unmerged) (steps : List Step) :
    Type 0 where
  pub event : Event
  pub first : left ps old ≡ event ∷ left ps new
  pub whole : IsUnmerged ps new
  pub told : steps ≡ event.steps

-- The lower of the first stamp and the least of the others, with its place; of equal ones the
-- first.
abbrev pub lower : Option ℕ → Option (ℕ × ℕ) → Option (ℕ × ℕ)
lower None None = None
lower None (Some least) = Some (suc least.0, least.1)
lower (Some s) None = Some (0, s)
lower (Some s) (Some least) = if nat_le s least.1 then Some (0, s) else Some (suc least.0, least.1)

-- The place and the value of the least of these stamps, of equal ones the first.
abbrev pub least_place : List (Option ℕ) → Option (ℕ × ℕ)
least_place [] = None
least_place (s ∷ ss) = lower s (least_place ss)
