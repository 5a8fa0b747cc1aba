use Rattle.std.proofs.Common.{sym, ap, ◌∙◌, arith}
use Rattle.l4_mail.specs.Ports.{fabric_size}
use Rattle.l4_mail.proofs.Numbers.{size_fails, size_holds}
use Rattle.l4_mail.proofs.rests.have_size.Goals as goal

pub returns-then-len-cpus : goal.returns-then-len-cpus
returns-then-len-cpus c = sym (size_fails c.args.ports.now c.loop-port.port-index c.args.cpus c.port-item.result c.loop-port-test.true
    (λ e. c.if-len-cpus.true (c.len.ensures ∙ c.port-item.result.outlets.ok.0 ∙ ap fabric_size c.port-item.is ∙ e)))

pub returns : goal.returns
returns c = sym (size_holds c.args.ports.now c.args.cpus (λ i lt d. c.loop-port.invariant i (let t = c.loop-port-test.false in omega arith) d))
