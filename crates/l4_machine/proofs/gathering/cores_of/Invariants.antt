use Rattle.std.proofs.Common.{◌≡◌, Some, map}
use Rattle.std.specs.List.{range_with_len}
use Rattle.std.specs.Option.{option_map}
use Rattle.l4_machine.specs.Gathers.{core_of, with_number}
use Rattle.l4_machine.proofs.gathering.cores_of.Given as goal

abbrev pub invariant-loop-cpu : goal.invariant-loop-cpu
invariant-loop-cpu l = map (λ c. Some c.now) l.cores.items ≡ map (λ cpu. option_map core_of (with_number cpu l.processors)) (range_with_len 0 l.cpu)
