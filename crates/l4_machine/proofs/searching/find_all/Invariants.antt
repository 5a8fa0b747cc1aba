use Rattle.std.proofs.Common.{◌≡◌, ◌++◌, length, map}
use Rattle.std.specs.Prelude.{filter_map}
use Rattle.std.specs.List.{AllByRecursion}
use Rattle.l4_core_model.specs.Runs.{merged, told}
use Rattle.l4_machine.specs.Inner.EventsLeft.{all_left, left, IsUnmerged}
use Rattle.l4_machine.specs.Inner.Rising.{RiseFrom}
use Rattle.l4_replay.specs.Inner.Waiting.{sought}
use Rattle.l4_machine.proofs.searching.find_all.Given as goal

abbrev pub invariant-loop-place : goal.invariant-loop-place
invariant-loop-place l = record {
  whole : AllByRecursion (IsUnmerged l.processors) l.logs;
  rising : RiseFrom 0 (map (left l.processors) l.logs);
  found : filter_map (sought l.search) (told (merged (all_left l.processors l.fn.logs)))
      ≡ l.sends.items ++ filter_map (sought l.search) (told (merged (all_left l.processors l.logs)));
}

abbrev pub decreases-loop-place : goal.decreases-loop-place
decreases-loop-place l = length (all_left l.processors l.logs)
