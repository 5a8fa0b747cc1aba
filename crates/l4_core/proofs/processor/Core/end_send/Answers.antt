use Rattle.std.proofs.Common.{◌≡◌, true, sym, subst, ◌∙◌}
use Rattle.l4_core_model.specs.Local.{is_own}
use Rattle.l4_core.specs.Inner.Parts.{AreCore}
use Rattle.l4_core.specs.Processor.{Processor}
use Rattle.l4_core.proofs.Deciding.{sender_free, unqueued_is}
use Rattle.l4_core.proofs.processor.Core.end_send.Goals as goal

pub apply_change-requires-clause-free : goal.apply_change-requires-clause-free
apply_change-requires-clause-free g c =
    sender_free c.args.self.now c.unqueue_send.new.self c.args.place (subst AreCore c.self.view_is c.is_own.ensures.core) c.requires.sender
    (subst (λ (p : Processor). is_own p.machine p.cpu c.args.place ≡ true) c.self.view_is (sym c.is_own.ensures.value ∙ c.if-is_own.true)) c.unqueue_send.ensures

pub forget_send-requires-clause-unqueued : goal.forget_send-requires-clause-unqueued
forget_send-requires-clause-unqueued g c = unqueued_is c.args.self.now c.unqueue_send-else-is_own.new.self c.args.place c.unqueue_send-else-is_own.ensures
