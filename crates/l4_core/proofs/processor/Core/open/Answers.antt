use Rattle.std.proofs.Common.{◌≤◌, ◌+◌, ap, arith}
use Rattle.l4_core.specs.Processor.{Processor, with_local}
use Rattle.l4_core.proofs.Noting.{covered-stamped}
use Rattle.l4_core.proofs.Settling.{settled-stamped}
use Rattle.l4_core.proofs.Writing.{kept-settled, state}
use Rattle.l4_core.proofs.processor.Core.open.Goals as goal

pub invariant_of-known : goal.invariant_of-known
invariant_of-known c =
    let s = c.known.inside in
    let later : s.stamp ≤ c.max-stamp.result + 1 = (let is = c.max-stamp.ensures in omega arith) in
    kept-settled s _ _ _ _ _ c.known.invariant (settled-stamped s.machine.now s.cpu (state s) (c.max-stamp.result + 1) later c.known.invariant.core.settled)

pub invariant_of-self : goal.invariant_of-self
invariant_of-self c =
    let w = c.self.inside in
    covered-stamped w.duties w.zeros w.known _ (c.max-stamp.result + 1) c.self.invariant (ap (λ (p : Processor). with_local p (record p.local { stamp = c.max-stamp.result + 1 })) c.known.view_is)
