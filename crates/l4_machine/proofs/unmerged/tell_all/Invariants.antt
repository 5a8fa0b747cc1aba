use Rattle.std.proofs.Common.{◌≡◌, ◌++◌, List, length, map}
use Rattle.std.specs.List.{AllByRecursion}
use Rattle.l4_model.specs.Steps.{Step}
use Rattle.l4_core_model.specs.Runs.{merged, told}
use Rattle.l4_machine.specs.Inner.EventsLeft.{all_left, left, IsUnmerged}
use Rattle.l4_machine.specs.Inner.Rising.{RiseFrom}
use Rattle.l4_machine.proofs.unmerged.tell_all.Given as goal

abbrev pub invariant-loop-place : goal.invariant-loop-place
invariant-loop-place g l = record {
  whole : AllByRecursion (IsUnmerged l.processors) l.logs;
  rising : RiseFrom 0 (map (left l.processors) l.logs);
  heard : (steps : List Step) × g.T.Listener.hears l.fn.listener steps l.listener
      × (told (merged (all_left l.processors l.fn.logs)) ≡ steps ++ told (merged (all_left l.processors l.logs)));
}

abbrev pub decreases-loop-place : goal.decreases-loop-place
decreases-loop-place g l = length (all_left l.processors l.logs)
