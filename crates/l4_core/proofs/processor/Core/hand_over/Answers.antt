use Rattle.std.proofs.Common.{subst, ap, sym, ◌∙◌, not}
use Rattle.std.specs.Option.{option_map}
use Rattle.l4_model.specs.Words.{word_of_tag}
use Rattle.l4_model.specs.World.{Send}
use Rattle.l4_core_model.specs.Local.{is_own, last_name, declared, thread}
use Rattle.l4_model.specs.Effects.{receives}
use Rattle.l4_thread.specs.Inner.Messages.{outgoing}
use Rattle.l4_core.specs.Inner.Parts.{AreCore}
use Rattle.l4_core.specs.Processor.{Processor}
use Rattle.l4_core.proofs.Delivering.{apart, still_sends, hand_over_does}
use Rattle.l4_core.proofs.processor.Core.hand_over.Goals as goal

pub take_message-requires-clause-apart : goal.take_message-requires-clause-apart
take_message-requires-clause-apart g c = λ same. apart c.args.self.now c.args.receiver c.args.sender (subst AreCore c.self.view_is c.is_own.ensures.core) c.requires.receiver c.requires.sender same

pub end_send-requires-clause-sender : goal.end_send-requires-clause-sender
end_send-requires-clause-sender g c = still_sends c.args.self.now c.take_message.new.self c.args.receiver c.args.sender (receives (outgoing (declared c.args.self.now.machine c.args.sender).id (thread c.args.self.now.local c.args.sender)) (word_of_tag c.tag-tag.result)) (subst AreCore c.self.view_is c.is_own.ensures.core) c.requires.receiver c.requires.sender c.take_message.ensures

pub returns-clause-does : goal.returns-clause-does
returns-clause-does g c =
    let v = c.self.view_is in
    hand_over_does c.args.self.now c.take_message.new.self c.end_send.new.self c.args.receiver c.args.sender c.args.buffer.now c.emit.new.self c.end_send.new.buffer
    (record { name = c.last_name.result; receiver = c.id.result; message = c.message.result; cross = not c.is_own.result }) (word_of_tag c.tag-tag.result) (subst AreCore c.self.view_is c.is_own.ensures.core) c.requires.receiver c.requires.sender
    (c.last_name.ensures ∙ ap (λ (p : Processor). last_name p.machine p.local c.args.sender) v)
    (c.id.ensures ∙ ap (λ (p : Processor). (declared p.machine c.args.receiver).id) v)
    (sym (ap (λ (p : Processor). option_map (λ (s : Send). s.message) (thread p.local c.args.sender).send) v) ∙ c.message.ensures.message)
    (c.message.ensures.actual ∙ ap (λ (p : Processor). (declared p.machine c.args.sender).id) v)
    (ap not (c.is_own.ensures.value ∙ ap (λ (p : Processor). is_own p.machine p.cpu c.args.sender) v))
    c.tag-tag.ensures.word c.emit.ensures c.take_message.ensures c.end_send.ensures.does
