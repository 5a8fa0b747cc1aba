use Rattle.std.proofs.Common.{◌≡◌, true, map}
use Rattle.l4_mail.specs.Rests.{have_numbers}
use Rattle.l4_proc.proofs.Rested.{port_of}
use Rattle.l4_proc.proofs.resting.have_numbers.Given as goal

abbrev pub invariant-loop-cpu : goal.invariant-loop-cpu
invariant-loop-cpu l = have_numbers l.cpu (map port_of l.fn.processors) ≡ true
