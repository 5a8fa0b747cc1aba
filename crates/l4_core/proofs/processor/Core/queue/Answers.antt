use Rattle.std.proofs.Common.{◌≡◌, Some, true, false, subst, sym, ap, ◌∙◌}
use Rattle.l4_model.specs.World.{Send}
use Rattle.l4_model.specs.Steps.{Queue}
use Rattle.l4_core_model.specs.Plain.{Waiting, is_queued}
use Rattle.l4_core_model.specs.Local.{thread, last_name}
use Rattle.l4_model.specs.Machine.{is_place}
use Rattle.l4_core_model.specs.Acts.{entry, first_acceptable}
use Rattle.l4_core.specs.Processor.{Processor}
use Rattle.l4_core.specs.EventBuffers.{with_step}
use Rattle.l4_core.specs.Inner.Turning.{IsNotSplit, IsSender}
use Rattle.l4_core.proofs.Sending.{has_send}
use Rattle.l4_core.proofs.Queueing.{queue_delivers, queue_waits}
use Rattle.l4_core.proofs.processor.Core.queue.Goals as goal

pub queue_send-requires-clause-sender : goal.queue_send-requires-clause-sender
queue_send-requires-clause-sender g c =
    let s = has_send _ c.requires.sender.sender.sends in
    let entry_is = subst (λ (p : Processor). (send : Send) → (thread p.local c.args.sender).send ≡ Some send → c.entry-waiting.result ≡ entry p.machine c.args.receiver c.args.sender send) c.self.view_is c.entry-waiting.ensures in
    subst (IsSender c.args.self.now) (sym (ap (λ (w : Waiting). w.block) (entry_is s.0 s.1))) c.requires.sender.sender

pub queue_send-requires-clause-here : goal.queue_send-requires-clause-here
queue_send-requires-clause-here g c =
    let s = has_send _ c.requires.sender.sender.sends in
    let entry_is = subst (λ (p : Processor). (send : Send) → (thread p.local c.args.sender).send ≡ Some send → c.entry-waiting.result ≡ entry p.machine c.args.receiver c.args.sender send) c.self.view_is c.entry-waiting.ensures in
    subst (IsNotSplit c.args.self.now) (sym (ap (λ (w : Waiting). w.block) (entry_is s.0 s.1))) c.requires.here

pub queue_send-requires-clause-free : goal.queue_send-requires-clause-free
queue_send-requires-clause-free g c =
    let s = has_send _ c.requires.sender.sender.sends in
    let entry_is = subst (λ (p : Processor). (send : Send) → (thread p.local c.args.sender).send ≡ Some send → c.entry-waiting.result ≡ entry p.machine c.args.receiver c.args.sender send) c.self.view_is c.entry-waiting.ensures in
    subst (λ i. is_queued c.args.self.now.local.lists i ≡ false) (sym (ap (λ (w : Waiting). w.block) (entry_is s.0 s.1))) c.requires.sender.unqueued

pub returns-then-is_first : goal.returns-then-is_first
returns-then-is_first g c = λ send has.
    let entry_is = subst (λ (p : Processor). (send : Send) → (thread p.local c.args.sender).send ≡ Some send → c.entry-waiting.result ≡ entry p.machine c.args.receiver c.args.sender send) c.self.view_is c.entry-waiting.ensures in
    let tells = c.emit.ensures ∙ ap (λ name. with_step (Queue name) c.args.buffer.now) (c.last_name.ensures ∙ ap (λ (p : Processor). last_name p.machine p.local c.args.sender) c.self.view_is) in
    queue_delivers c.args.self.now c.queue_send.new.self c.deliver_at_once.new.self c.args.receiver c.args.sender c.args.buffer.now c.emit.new.self c.deliver_at_once.new.buffer c.entry-waiting.result send tells (entry_is send has) c.queue_send.ensures
    (subst (λ (p : Processor). is_place (first_acceptable p.local c.args.receiver) c.args.sender ≡ true) c.self-2.view_is (sym c.is_first.ensures ∙ c.if-is_first.true)) c.deliver_at_once.ensures

pub returns-else-is_first : goal.returns-else-is_first
returns-else-is_first g c = λ send has.
    let entry_is = subst (λ (p : Processor). (send : Send) → (thread p.local c.args.sender).send ≡ Some send → c.entry-waiting.result ≡ entry p.machine c.args.receiver c.args.sender send) c.self.view_is c.entry-waiting.ensures in
    let tells = c.emit.ensures ∙ ap (λ name. with_step (Queue name) c.args.buffer.now) (c.last_name.ensures ∙ ap (λ (p : Processor). last_name p.machine p.local c.args.sender) c.self.view_is) in
    queue_waits c.args.self.now c.queue_send.new.self c.args.receiver c.args.sender c.args.buffer.now c.emit.new.self c.entry-waiting.result send tells (entry_is send has) c.queue_send.ensures
    (subst (λ (p : Processor). is_place (first_acceptable p.local c.args.receiver) c.args.sender ≡ false) c.self-2.view_is (sym c.is_first.ensures ∙ c.if-is_first.false))
