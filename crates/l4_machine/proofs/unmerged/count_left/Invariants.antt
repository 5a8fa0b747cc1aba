use Rattle.std.proofs.Common.{◌≡◌, ◌+◌, length, drop, List}
use Rattle.std.specs.List.{AllByRecursion}
use Rattle.l4_proc.specs.declared.processor.Processor.{Processor}
use Rattle.l4_machine.specs.Inner.EventsLeft.{all_left, IsUnmerged}
use Rattle.l4_machine.proofs.unmerged.count_left.Given as goal

abbrev pub invariant-loop-log : goal.invariant-loop-log
invariant-loop-log l = (ps : List Processor) → AllByRecursion (IsUnmerged ps) l.logs →
    length (all_left ps l.logs) ≡ l.count + length (all_left ps (drop l.log-index l.logs))
