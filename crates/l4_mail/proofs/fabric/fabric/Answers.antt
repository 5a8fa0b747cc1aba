use Rattle.std.proofs.Common.{◌≡◌, subst, arith}
use Rattle.l4_mail.specs.Inner.Fabrics.{AreMembers}
use Rattle.l4_mail.proofs.Growing.{fresh}
use Rattle.l4_mail.proofs.fabric.fabric.Goals as goal

pub returns : goal.returns
returns c =
    let e : c.loop-cpu.cpu ≡ c.args.cpus = (let t = c.loop-cpu-test.false in let a = c.loop-cpu.auto.cpu-end in omega arith) in
    fresh _ _ (subst (λ k. AreMembers c.args.room k c.loop-cpu.ports.items) e c.loop-cpu.invariant)
