-- A replay under way in the program, with the entries that it is the replay of.
use Rattle.std.specs.Prelude.{◌≡◌, None, List, map}
use Rattle.l4_model.specs.Machine.{Machine}
use Rattle.l4_core_model.specs.Runs.{Run}
use Rattle.l4_core_model.specs.Schedules.{Entry, replay_entries}
use Rattle.l4_replay.specs.Entries.{entry_from, first_stranger}
use Rattle.l4_replay.specs.UnderWay.{UnderWay, IsRun}
use Rattle.l4_rounds.specs.ThenRest.{GoOn}
use Rattle.l4_rounds.specs.declared.replays.Replay.{Replay}

-- A core run has come to where the replay of these entries ends. They are entries of the machine.
pub record IsReplayOf (m : Machine) (entries : List Entry) (w : UnderWay) : Type 0 where
  pub run : IsRun m (replay_entries m entries) w
  pub lawful : first_stranger m 1 entries ≡ None

abbrev pub entries_of : Replay → List Entry
entries_of r = map entry_from r.entries.items

abbrev pub run_of : Replay → Run
run_of r = replay_entries r.machine.now (entries_of r)

abbrev pub IsReplay : Replay → Type 0
IsReplay r = IsReplayOf r.machine.now (entries_of r) r.walk

-- The replay went on as `next` says.
pub record HasGoneOn (next : Machine → Run → Run) (old new : Replay) : Type 0 where
  pub machine : new.machine ≡ old.machine
  pub replay : IsReplay new
  pub entries : GoOn next old.machine.now (entries_of old) (entries_of new)
