use Rattle.std.proofs.Common.{◌≡◌, Some, true, false, sym, subst, ◌∙◌}
use Rattle.l4_core_model.specs.Local.{is_own}
use Rattle.l4_core.specs.Processor.{Processor}
use Rattle.l4_core.proofs.Going.{goes_away, goes_here, stays_here}
use Rattle.l4_core.proofs.Sending.{has_send}
use Rattle.l4_core.proofs.processor.Core.send.Goals as goal

pub arrive-requires-clause-here : goal.arrive-requires-clause-here
arrive-requires-clause-here g c = λ mine.
    let s = has_send _ c.requires.sender.sender.sends in
    let goes = c.requires.partner s.0 s.1 in
    let here = subst (λ (p : Processor). is_own p.machine p.cpu c.in-Some.receiver ≡ true) c.self.view_is (sym c.is_own.ensures.value ∙ c.if-is_own.true) in
    stays_here c.args.self.now.machine c.args.self.now.cpu c.in-Some.receiver _ s.0 s.1 (sym goes ∙ c.in-Some.is) here

pub returns-in-Some : goal.returns-in-Some
returns-in-Some g c = λ send has.
    let goes = c.requires.partner send has in
    let here = subst (λ (p : Processor). is_own p.machine p.cpu c.in-Some.receiver ≡ true) c.self.view_is (sym c.is_own.ensures.value ∙ c.if-is_own.true) in
    goes_here c.args.self.now c.arrive.new.self c.in-Some.receiver c.args.sender send c.args.buffer.now c.arrive.new.buffer _ (sym goes ∙ c.in-Some.is)
    here c.arrive.ensures

pub returns-in-Some-2 : goal.returns-in-Some-2
returns-in-Some-2 g c = λ send has.
    let goes = c.requires.partner send has in
    let one : Some c.in-Some.receiver ≡ Some c.in-Some-2.receiver = sym c.in-Some.is ∙ c.in-Some-2.is in
    let same : c.in-Some.receiver ≡ c.in-Some-2.receiver = cc in
    let foreign = subst (λ r. is_own c.self.inside.known.machine c.self.inside.known.cpu r ≡ false) same (sym c.is_own.ensures.value ∙ c.if-is_own.false) in
    let away = subst (λ (p : Processor). is_own p.machine p.cpu c.in-Some-2.receiver ≡ false) c.self.view_is foreign in
    goes_away c.args.self.now c.post_send.new.self c.in-Some-2.receiver c.args.sender send c.args.buffer.now c.post_send.new.buffer _ (sym goes ∙ c.in-Some-2.is)
    away (c.post_send.ensures send has)
