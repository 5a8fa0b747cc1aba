use Rattle.std.proofs.Common.{map, sym, ◌∙◌}
use Rattle.l4_mail.proofs.Numbers.{numbers_fail, numbers_more}
use Rattle.l4_proc.proofs.Rested.{number_is_there, port_of}
use Rattle.l4_proc.proofs.resting.have_numbers.Goals as goal

pub returns-then-not-has_number : goal.returns-then-not-has_number
returns-then-not-has_number c = sym (numbers_fail (map port_of c.args.processors.now) c.args.below c.loop-cpu.cpu c.loop-cpu-test.true
    (sym (number_is_there c.args.processors.now c.loop-cpu.cpu) ∙ sym c.if-not-has_number.ensures))

pub loop-cpu-preserved : goal.loop-cpu-preserved
loop-cpu-preserved c = numbers_more (map port_of c.args.processors.now) c.loop-cpu.cpu c.loop-cpu.invariant
    (sym (number_is_there c.args.processors.now c.loop-cpu.cpu) ∙ sym c.if-not-has_number.ensures)
