use Rattle.std.proofs.Common.{◌≡◌, map}
use Rattle.std.specs.List.{AllByRecursion, range_with_len}
use Rattle.l4_machine.specs.Inner.EventsLeft.{left, IsUnmerged}
use Rattle.l4_machine.specs.Gathers.{events_of, with_number}
use Rattle.l4_machine.specs.Inner.Recorded.{happened_left, actions_of}
use Rattle.l4_machine.proofs.merging.unmerged_logs.Given as goal

abbrev pub invariant-loop-cpu : goal.invariant-loop-cpu
invariant-loop-cpu l =
    AllByRecursion (IsUnmerged l.processors) l.logs.items
    × (map (left l.processors) l.logs.items ≡ map (λ cpu. events_of (with_number cpu l.processors)) (range_with_len 0 l.cpu))
    × (map (happened_left l.processors) l.logs.items ≡ map (λ cpu. actions_of (with_number cpu l.processors)) (range_with_len 0 l.cpu))
