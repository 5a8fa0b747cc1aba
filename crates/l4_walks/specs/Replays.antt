-- Replays of entries that stand for an event each.
use Rattle.std.specs.Prelude.{◌≡◌, List, length}
use Rattle.l4_model.specs.Machine.{Machine}
use Rattle.l4_core_model.specs.Schedules.{Entry, replay_entries}
use Rattle.l4_states.specs.Choices.{IsLeastRun}
use Rattle.l4_states.specs.Endings.{led}

-- The replay of these entries is a core run of as many events, whose ticks go to least deadlines.
pub record IsReplay (m : Machine) (entries : List Entry) : Type 0 where
  pub run : IsLeastRun m (length entries) (led m entries)
  pub events : length (replay_entries m entries).events ≡ length entries
