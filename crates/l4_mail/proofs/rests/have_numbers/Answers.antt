use Rattle.std.proofs.Common.{sym}
use Rattle.l4_mail.proofs.Numbers.{numbers_fail}
use Rattle.l4_mail.proofs.rests.have_numbers.Goals as goal

pub returns-then-not-has_number : goal.returns-then-not-has_number
returns-then-not-has_number c = sym (numbers_fail c.args.ports.now c.args.below c.loop-cpu.cpu c.loop-cpu-test.true (sym c.if-not-has_number.ensures))
