use Rattle.std.proofs.Common.{sym, ap, ◌∙◌, arith}
use Rattle.l4_mail.specs.declared.ports.Port.{Port}
use Rattle.l4_mail.proofs.Numbers.{has_here, has_none}
use Rattle.l4_mail.proofs.rests.has_number.Goals as goal

pub returns-then-from-cpu : goal.returns-then-from-cpu
returns-then-from-cpu c = sym (has_here c.args.ports.now c.loop-port.port-index c.args.cpu c.port-item.result c.loop-port-test.true
    (ap (λ (p : Port). p.cpu) (sym c.port-item.is) ∙ sym c.from.ensures ∙ c.if-from-cpu.true))

pub returns : goal.returns
returns c = sym (has_none c.args.ports.now c.args.cpu (λ i lt d. c.loop-port.invariant i (let t = c.loop-port-test.false in omega arith) d))
