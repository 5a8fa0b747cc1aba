use Rattle.std.proofs.Common.{◌≡◌, true, ap, sym, subst, ◌∙◌}
use Rattle.l4_core_model.specs.Plain.{Waiting, queued}
use Rattle.l4_core_model.specs.Local.{thread}
use Rattle.l4_core.specs.Inner.Covered.{CoversBut, is_zero_send}
use Rattle.l4_core.specs.Processor.{Processor}
use Rattle.l4_core.specs.Inner.Turning.{IsNotSplit, IsSender}
use Rattle.l4_core.proofs.Noting.{but_queued, zeros_queued}
use Rattle.l4_core.proofs.Settling.{settled-queued}
use Rattle.l4_core.proofs.Writing.{kept-settled, lists-written, of_parts, state, with_lists}
use Rattle.l4_core.proofs.processor.Core.queue_send.Goals as goal

pub invariant_of-known : goal.invariant_of-known
invariant_of-known c =
    let s = c.known.inside in
    let v = sym (c.known.view_is ∙ c.self.view_is) in
    let sender = subst (λ (p : Processor). IsSender p c.args.waiting.block) v c.requires.sender in
    let here = subst (λ (p : Processor). IsNotSplit p c.args.waiting.block) v c.requires.here in
    rw c.queue_send.ensures (kept-settled s _ _ _ _ _ c.known.invariant (settled-queued s.machine.now s.cpu (state s) c.args.receiver c.args.waiting (record { within = sender.within; sends = sender.sends; here = here }) c.known.invariant.core.settled))

pub note_queued-requires-clause-others : goal.note_queued-requires-clause-others
note_queued-requires-clause-others c =
    let w = c.self.inside in
    let s = c.known.inside in
    let q : Processor = of_parts s (with_lists s c.queue_send.new.self) in
    let block = ap (λ (x : Waiting). x.block) c.waiting-2.view_is in
    subst (λ i. CoversBut c.args.receiver i w.duties q.machine q.cpu q.local) (sym block)
    (but_queued w.duties w.zeros w.known q c.args.receiver c.args.waiting c.self.invariant (lists-written s (queued c.args.receiver c.args.waiting) _ _ c.queue_send.ensures c.known.view_is))

pub note_queued-requires-clause-zeros : goal.note_queued-requires-clause-zeros
note_queued-requires-clause-zeros c =
    let w = c.self.inside in
    let block = ap (λ (x : Waiting). x.block) c.waiting.view_is in
    zeros_queued c.note_zero.new.zeros w.known _ c.args.receiver c.args.waiting (c.note_zero.ensures.zeros c.self.invariant.waiting)
    (λ zero. c.note_zero.ensures.there (subst (λ i. is_zero_send (thread w.known.local i).send ≡ true) (sym block) zero)) (lists-written c.known.inside (queued c.args.receiver c.args.waiting) _ _ c.queue_send.ensures c.known.view_is)
