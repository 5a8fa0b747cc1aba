-- A machine, the world that entries lead to, and how many these are.
use Rattle.std.specs.Prelude.{ℕ, ◌+◌, ◌^◌, ◌<◌, ◌≡◌, Some, List, length}
use Rattle.l4_model.specs.Machine.{Machine}
use Rattle.l4_model.specs.World.{World, opening}
use Rattle.l4_worlds.specs.Histories.{IsTimed}
use Rattle.l4_futures.specs.Choices.{after_entry, world_after}

pub record Foreseen : Type 0 where
  pub machine : Machine
  pub world : World
  pub taken : ℕ

abbrev pub opens : Machine → Foreseen
opens m = record { machine = m; world = opening m; taken = 0 }

-- These entries lead here.
pub record IsLed (m : Machine) (entries : List ℕ) (o : Foreseen) : Type 0 where
  pub machine : o.machine ≡ m
  pub leads : world_after m entries ≡ Some o.world
  pub as_many : o.taken ≡ length entries

-- One more entry leads from here to there.
pub record IsBehind (o : Foreseen) (entry : ℕ) (p : Foreseen) : Type 0 where
  pub machine : p.machine ≡ o.machine
  pub leads : after_entry o.machine o.world entry ≡ Some p.world
  pub one_more : p.taken ≡ o.taken + 1

-- Some entries lead here, few enough that their history has room on the clocks.
pub record IsForeseen (m : Machine) (w : World) (taken : ℕ) : Type 0 where
  pub timed : IsTimed m
  pub entries : List ℕ
  pub leads : world_after m entries ≡ Some w
  pub as_many : taken ≡ length entries
  pub few : taken < 2 ^ 20
