use Rattle.l4_core_model.specs.Runs.{Run}
use Rattle.l4_replay.specs.UnderWay.{IsRun}
use Rattle.l4_model.specs.Machine.{Machine}
use Rattle.l4_walks.specs.Inner.Placed.{AreUpTo}
use Rattle.l4_walks.proofs.placed.choices_of.Given as goal

-- Those below the next number were tried.
abbrev pub invariant-loop-number : goal.invariant-loop-number
invariant-loop-number l =
    (m : Machine) (r : Run) → IsRun m r l.walk → AreUpTo m r.system l.number l.choices.items
