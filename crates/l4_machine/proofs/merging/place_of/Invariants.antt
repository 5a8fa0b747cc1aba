use Rattle.std.proofs.Common.{◌≡◌, drop}
use Rattle.l4_machine.specs.Gathers.{with_number}
use Rattle.l4_machine.proofs.merging.place_of.Given as goal

abbrev pub invariant-loop-place : goal.invariant-loop-place
invariant-loop-place l = with_number l.cpu l.processors ≡ with_number l.cpu (drop l.place l.processors)
