-- A replay is a core run.
use Rattle.std.proofs.Common.{Option, Some, None, List, [], ◌∷◌, refl}
use Rattle.l4_model.specs.Machine.{Machine}
use Rattle.l4_model.specs.Conditions.{◌>>=◌}
use Rattle.l4_core_model.specs.Laws.{IsCoreRun}
use Rattle.l4_core_model.specs.Runs.{Action, Run, happens, opening_run}
use Rattle.l4_core_model.specs.Schedules.{or_stays, Entry, entry_event, replay_entries, replays}
use Rattle.l4_merge.proofs.InRounds.{attempts_core_run}

one_more : (m : Machine) (r : Run) (o : Option Action) → IsCoreRun m r → IsCoreRun m (or_stays r (o >>= happens m r.system))
one_more m r None is = is
one_more m r (Some action) is = attempts_core_run m r action is

replays_run : (m : Machine) (entries : List Entry) (r : Run) → IsCoreRun m r → IsCoreRun m (replays m r entries)
replays_run m [] r is = is
replays_run m (entry ∷ entries) r is =
    let action : Option Action = entry_event m r.system entry in
    replays_run m entries (or_stays r (action >>= happens m r.system)) (one_more m r action is)

pub replay_run : (m : Machine) (entries : List Entry) → IsCoreRun m (replay_entries m entries)
replay_run m entries = replays_run m entries (opening_run m) ([], refl)
