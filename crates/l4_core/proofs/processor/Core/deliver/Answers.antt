use Rattle.std.proofs.Common.{◌≡◌, Some, None, ap, sym, ◌∙◌, subst}
use Rattle.std.specs.Option.{option_map}
use Rattle.l4_model.specs.World.{Send}
use Rattle.l4_model.specs.Rules.{owed_by}
use Rattle.l4_types.specs.Inner.OwedView.{owed_of}
use Rattle.l4_core_model.specs.Local.{declared, last_name, thread}
use Rattle.l4_core.specs.Processor.{Processor}
use Rattle.l4_core.proofs.Owing.{delivers_both, owes_nothing}
use Rattle.l4_core.proofs.Sending.{has_send}
use Rattle.l4_core.proofs.processor.Core.deliver.Goals as goal

pub returns-in-Some : goal.returns-in-Some
returns-in-Some g c =
    let s = has_send _ c.requires.sender.sends in
    let left = subst (λ (p : Processor). (send : Send) → (thread p.local c.args.sender).send ≡ Some send →
    option_map owed_of c.owed_by-owed.result ≡ owed_by p.machine (last_name p.machine p.local c.args.sender) send.message (declared p.machine c.args.receiver).id) c.self.view_is c.owed_by-owed.ensures.value s.0 s.1 in
    delivers_both c.args.self.now c.hand_over.new.self c.owe.new.self c.args.receiver c.args.sender s.0 (Some (owed_of c.in-Some.owed)) c.args.buffer.now c.hand_over.new.buffer c.owe.new.buffer s.1
    (sym (ap (option_map owed_of) c.in-Some.is) ∙ left) c.hand_over.ensures.does c.owe.ensures

pub returns-in_default : goal.returns-in_default
returns-in_default g c =
    let s = has_send _ c.requires.sender.sends in
    let left = subst (λ (p : Processor). (send : Send) → (thread p.local c.args.sender).send ≡ Some send →
    option_map owed_of c.owed_by-owed.result ≡ owed_by p.machine (last_name p.machine p.local c.args.sender) send.message (declared p.machine c.args.receiver).id) c.self.view_is c.owed_by-owed.ensures.value s.0 s.1 in
    delivers_both c.args.self.now c.hand_over.new.self c.hand_over.new.self c.args.receiver c.args.sender s.0 None c.args.buffer.now c.hand_over.new.buffer c.hand_over.new.buffer s.1
    (sym (ap (option_map owed_of) c.in_default.is) ∙ left) c.hand_over.ensures.does (owes_nothing c.hand_over.new.self c.args.receiver c.hand_over.new.buffer)
