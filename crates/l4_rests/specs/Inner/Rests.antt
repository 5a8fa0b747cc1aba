-- No finite period stands where processors are at rest.
use Rattle.std.specs.Prelude.{◌≡◌, true, Some, List}
use Rattle.l4_model.specs.Machine.{Machine}
use Rattle.l4_model.specs.World.{World}
use Rattle.l4_model.specs.History.{reached}
use Rattle.l4_core_model.specs.Runs.{Event, Run, told, merged, at_rest}
use Rattle.l4_worlds.specs.Histories.{IsUntimed}

-- No finite period but zero stands in the world that these events lead to.
abbrev pub LeadUntimed : Machine → List Event → Type 0
LeadUntimed m events = (w : World) → reached m (told events) ≡ Some w → IsUntimed w

-- If the run is at rest, this is so of its events, and of these in order of stamp.

abbrev pub RestIsUntimed : Machine → Run → Type 0
RestIsUntimed m r = at_rest m r.system ≡ true → LeadUntimed m r.events

abbrev pub RestInOrderIsUntimed : Machine → Run → Type 0
RestInOrderIsUntimed m r = at_rest m r.system ≡ true → LeadUntimed m (merged r.events)
