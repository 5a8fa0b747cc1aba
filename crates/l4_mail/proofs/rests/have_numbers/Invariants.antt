use Rattle.std.proofs.Common.{◌≡◌, true}
use Rattle.l4_mail.specs.Rests.{have_numbers}
use Rattle.l4_mail.proofs.rests.have_numbers.Given as goal

abbrev pub invariant-loop-cpu : goal.invariant-loop-cpu
invariant-loop-cpu l = have_numbers l.cpu l.fn.ports ≡ true
