use Rattle.std.proofs.Common.{◌∙◌, sym, ap, arith}
use Rattle.l4_mail.specs.declared.ports.Port.{Port}
use Rattle.l4_mail.specs.Ports.{kept_from}
use Rattle.l4_mail.proofs.Numbers.{kept_here, none_here, items_are}
use Rattle.l4_mail.proofs.lists.kept_between.Goals as goal

pub returns-then-port-to : goal.returns-then-port-to
returns-then-port-to c = items_are c.kept_at.result _ _
    (ap (λ p. kept_from p c.args.from) c.port-item.is
    ∙ kept_here c.args.ports.now c.loop-port.port-index c.args.from c.args.to c.port-item.result c.loop-port-test.true c.loop-port.invariant (ap (λ (p : Port). p.cpu) (sym c.port-item.is) ∙ c.if-port-to.true))
    c.kept_at.ensures

pub returns : goal.returns
returns c = c.new.ensures.items ∙ sym (none_here c.args.ports.now c.args.from c.args.to (λ k lt d. c.loop-port.invariant k (let t = c.loop-port-test.false in omega arith) d))
