use Rattle.std.proofs.Common.{◌≡◌, length}
use Rattle.l4_all_endings.specs.Inner.Way.{AreStops}
use Rattle.l4_all_endings.proofs.way.Way.nearest.Given as goal

-- Those that are left are of the machine.
abbrev pub invariant-loop-stop : goal.invariant-loop-stop
invariant-loop-stop l = record {
  same : l.self-inside.machine.now ≡ l.fn.self;
  stops : AreStops l.fn.self l.self-inside.stops.items;
}

abbrev pub decreases-loop-stop : goal.decreases-loop-stop
decreases-loop-stop l = length l.self-inside.stops.items
