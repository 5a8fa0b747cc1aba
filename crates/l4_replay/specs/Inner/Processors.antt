-- The processors of the program as a core run under way, and the events of one of them.
use Rattle.std.specs.Prelude.{◌≡◌, ◌+◌, ℕ, List, ◌++◌, map}
use Rattle.l4_model.specs.Machine.{Machine}
use Rattle.l4_core_model.specs.Runs.{Run, told}
use Rattle.l4_core.specs.EventBuffers.{EventBuffer}
use Rattle.l4_replay.specs.Inner.Nodes.{station_of}
use Rattle.l4_replay.specs.Stations.{Station}
use Rattle.l4_replay.specs.UnderWay.{IsRun, UnderWay, with_letters}
use Rattle.l4_replay.specs.declared.processors.Processors.{Processors}

abbrev pub stations_of : Processors → List Station
stations_of p = map station_of p.nodes.items

abbrev pub under_way : Processors → UnderWay
under_way p = record {
  machine = p.machine.now;
  stations = stations_of p;
  events = p.events;
}

-- One event more is counted, its letters have come to the other processors, and nothing else has
-- changed.
pub record HasEndedEvent (from : ℕ) (old new : Processors) (before after : EventBuffer) : Type 0 where
  pub machine : new.machine.now ≡ old.machine.now
  pub stations : stations_of new ≡ with_letters from before.letters (stations_of old)
  pub events : new.events ≡ old.events + 1
  pub kept : after.before ≡ before.before
  pub steps : after.steps ≡ before.steps

-- Whichever core run had come to this, what it tells more is what the event has told, behind the
-- steps that there were.
pub record HasTold (next : Machine → Run → Run) (u : UnderWay) (before after : EventBuffer) : Type 0 where
  pub kept : after.before ≡ before.before ++ before.steps
  pub more : (m : Machine) (r : Run) → IsRun m r u →
      told (next m r).events ≡ told r.events ++ after.steps
