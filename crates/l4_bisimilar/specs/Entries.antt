-- What happened in a core run, as entries of a schedule.
use Rattle.std.specs.Prelude.{◌≡◌, Some, List, map}
use Rattle.l4_model.specs.Machine.{Machine}
use Rattle.l4_core_model.specs.Runs.{Action, Handles, Turns, Ticks, Run, core_run, opening_run}
use Rattle.l4_core_model.specs.Schedules.{Entry, LetterOf, CoreOf, TickTo, replay_entries}

-- The entry that names what happened.
abbrev pub entry_of : Action → Entry
entry_of (Handles cpu from) = LetterOf cpu from
entry_of (Turns cpu) = CoreOf cpu
entry_of (Ticks cpu clock) = TickTo cpu clock

-- Every core run is the replay of what happened in it.
abbrev pub AreReplayed : Machine → Type 0
AreReplayed m =
    (actions : List Action) (r : Run) → core_run m (opening_run m) actions ≡ Some r →
    replay_entries m (map entry_of actions) ≡ r
