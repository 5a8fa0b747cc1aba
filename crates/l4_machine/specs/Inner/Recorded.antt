-- What the processors of a machine did together, as entries of a schedule.
use Rattle.std.specs.Prelude.{◌≡◌, ◌-◌, Option, Some, None, List, [], ◌∷◌, map, drop, slice_get}
use Rattle.l4_model.specs.Machine.{Machine}
use Rattle.l4_core_model.specs.Runs.{Event, Action, merged}
use Rattle.l4_core_model.specs.Schedules.{Entry}
use Rattle.l4_bisimilar.specs.Entries.{entry_of}
use Rattle.l4_merge.specs.Recorded.{actions_in, recorded}
use Rattle.l4_proc.specs.Logs.{actions}
use Rattle.l4_proc.specs.declared.processor.Processor.{Processor}
use Rattle.l4_machine.specs.Inner.EventsLeft.{all_left, left, IsUnmerged}
use Rattle.l4_machine.specs.Gathers.{pasts_of}
use Rattle.l4_machine.specs.declared.unmerged.Unmerged.{Unmerged}

-- What happened to all of them, in order of stamp, and of equal ones by processor.
abbrev pub recorded_entries : Machine → List Processor → List Entry
recorded_entries m ps = map entry_of (recorded (pasts_of m ps))

-- What happened to a processor.
abbrev pub actions_of : Option Processor → List Action
actions_of None = []
actions_of (Some p) = actions p.worker.log

-- What happened in the events of a log that are still to be told.
abbrev pub happened_left : List Processor → Unmerged → List Action
happened_left ps u = drop (u.count - u.left) (actions_of (slice_get ps u.place))

-- The entries of several logs that are still to be told, in order of stamp and processor.
abbrev pub entries_left : List Processor → List Unmerged → List Entry
entries_left ps us =
    map entry_of (actions_in (map (λ e. e.cpu) (merged (all_left ps us)))
    (map (happened_left ps) us))

-- The first event that was left is taken, as this entry.
pub record HasTakenEntry (ps : List Processor) (old new : Unmerged) (entry : Entry) : Type 0 where
  pub event : Event
  pub action : Action
  pub first : left ps old ≡ event ∷ left ps new
  pub happened : happened_left ps old ≡ action ∷ happened_left ps new
  pub whole : IsUnmerged ps new
  pub is : entry ≡ entry_of action
