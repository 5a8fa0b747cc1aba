use Rattle.std.proofs.Common.{◌∙◌}
use Rattle.l4_core_model.specs.Plain.{unqueued}
use Rattle.l4_core.proofs.Noting.{covered-unqueued}
use Rattle.l4_core.proofs.Settling.{settled-unqueued}
use Rattle.l4_core.proofs.Writing.{kept-settled, lists-written, state}
use Rattle.l4_core.proofs.processor.Core.unqueue_send.Goals as goal

pub invariant_of-known : goal.invariant_of-known
invariant_of-known c =
    let s = c.known.inside in
    rw c.unqueue_send.ensures (kept-settled s _ _ _ _ _ c.known.invariant (settled-unqueued s.machine.now s.cpu (state s) c.args.place c.known.invariant.core.settled))

pub invariant_of-self : goal.invariant_of-self
invariant_of-self c =
    let w = c.self.inside in
    covered-unqueued w.duties w.zeros w.known _ c.args.place c.self.invariant (lists-written c.known.inside (unqueued c.args.place) _ _ c.unqueue_send.ensures c.known.view_is)

pub returns : goal.returns
returns c = lists-written c.known.inside (unqueued c.args.place) _ _ c.unqueue_send.ensures (c.known.view_is ∙ c.self.view_is)
