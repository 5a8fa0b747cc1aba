use Rattle.std.proofs.Common.{◌≡◌, map, take}
use Rattle.std.specs.List.{AllByRecursion}
use Rattle.l4_machine.specs.Inner.EventsLeft.{left, IsUnmerged}
use Rattle.l4_machine.specs.Inner.Waiting.{at_end}
use Rattle.l4_machine.proofs.searching.last_of_all.Given as goal

abbrev pub invariant-loop-log : goal.invariant-loop-log
invariant-loop-log l =
    AllByRecursion (IsUnmerged l.processors) l.last.items
    × (map (left l.processors) l.last.items ≡ map (λ log. at_end l.most (left l.processors log)) (take l.log-index l.logs))
