use Rattle.std.proofs.Common.{subst, sym, ◌∙◌, ap}
use Rattle.l4_model.specs.Steps.{Begin}
use Rattle.l4_core_model.specs.Local.{last_name}
use Rattle.l4_core.specs.Inner.Parts.{AreCore}
use Rattle.l4_core.specs.Processor.{Processor}
use Rattle.l4_core.specs.EventBuffers.{with_step}
use Rattle.l4_core.specs.Inner.Turning.{IsSender}
use Rattle.l4_core.proofs.Beginning.{new_sender, act_sends, goes_there}
use Rattle.l4_core.proofs.processor.Core.ipc.Goals as goal

pub last_name-requires : goal.last_name-requires
last_name-requires g c =
    let core = subst AreCore c.self.view_is c.facts.ensures.core in
    let sender = (new_sender c.args.self.now c.begin.new.self c.args.place _ core c.requires.hand c.begin.ensures.state (sym c.in-Send.is ∙ c.begin.ensures.began)).sender in
    subst (λ (p : Processor). IsSender p c.args.place) (sym c.self-in-Send.view_is) sender

pub send-requires-clause-sender : goal.send-requires-clause-sender
send-requires-clause-sender g c =
    let core = subst AreCore c.self.view_is c.facts.ensures.core in
    new_sender c.args.self.now c.begin.new.self c.args.place _ core c.requires.hand c.begin.ensures.state (sym c.in-Send.is ∙ c.begin.ensures.began)

pub send-requires-clause-partner : goal.send-requires-clause-partner
send-requires-clause-partner g c = λ send has.
    let core = subst AreCore c.self.view_is c.facts.ensures.core in
    goes_there c.args.self.now c.begin.new.self c.args.place _ c.args.partner core c.requires.hand (sym c.in-Send.is ∙ c.begin.ensures.began) c.begin.ensures.state c.requires.instr c.requires.partner send has

pub returns-in-Send : goal.returns-in-Send
returns-in-Send g c =
    let core = subst AreCore c.self.view_is c.facts.ensures.core in
    act_sends c.args.self.now c.begin.new.self c.send.new.self c.args.place _ c.args.buffer.now c.emit-in-Send.new.self c.send.new.buffer core c.requires.hand (sym c.in-Send.is ∙ c.begin.ensures.began) c.begin.ensures.state
    (c.emit-in-Send.ensures ∙ ap (λ n. with_step (Begin n) c.args.buffer.now) (c.last_name.ensures ∙ ap (λ (p : Processor). last_name p.machine p.local c.args.place) c.self-in-Send.view_is)) c.send.ensures
