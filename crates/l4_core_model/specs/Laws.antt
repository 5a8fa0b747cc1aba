-- What a core run is.
use Rattle.std.specs.Prelude.{◌≡◌, Some, List}
use Rattle.l4_model.specs.Machine.{Machine}
use Rattle.l4_core_model.specs.Runs.{Action, Run, core_run, opening_run}

-- A run is a core run if some list of actions leads to it from the opening.
abbrev pub IsCoreRun : Machine → Run → Type 0
IsCoreRun m r = (actions : List Action) × (core_run m (opening_run m) actions ≡ Some r)
