use Rattle.std.proofs.Common.{◌≡◌, true, false, [], subst, sym, ◌∙◌, ap}
use Rattle.l4_model.specs.World.{PendingOrder}
use Rattle.l4_model.specs.Machine.{place_of}
use Rattle.l4_model.specs.Effects.{orders}
use Rattle.l4_core_model.specs.Local.{comes_to, declared, is_own}
use Rattle.l4_types.specs.Inner.LetterHeads.{letter_with}
use Rattle.l4_types.specs.StepView.{order_kind_of}
use Rattle.l4_core.specs.Inner.Parts.{AreCore}
use Rattle.l4_core.specs.Processor.{Processor, with_local}
use Rattle.l4_core.proofs.Ordering.{obeyed_is, still_free, still_fitting, gives_here, gives_away, gives_nobody}
use Rattle.l4_core.proofs.processor.Core.give.Goals as goal

pub apply_change-requires-in-Some-clause-free : goal.apply_change-requires-in-Some-clause-free
apply_change-requires-in-Some-clause-free g c =
    let order : PendingOrder = record { target = c.args.target; what = order_kind_of c.args.what } in
    let core = subst AreCore c.self.view_is c.facts.ensures.core in
    let given = c.apply_change.ensures ∙ ap (λ (o : PendingOrder). with_local c.args.self.now (comes_to c.args.place (orders o) c.args.self.now.local)) c.new.ensures in
    still_free c.args.self.now c.obey_order.new.self c.args.place c.in-Some.asked order core c.requires.hand
    (obeyed_is c.args.self.now c.apply_change.new.self c.obey_order.new.self c.args.place c.in-Some.asked order c.id-caller.result c.emit.new.self c.obey_order.new.buffer given c.obey_order.ensures.does)

pub apply_change-requires-in-Some-clause-fits : goal.apply_change-requires-in-Some-clause-fits
apply_change-requires-in-Some-clause-fits g c =
    let order : PendingOrder = record { target = c.args.target; what = order_kind_of c.args.what } in
    let core = subst AreCore c.self.view_is c.facts.ensures.core in
    let given = c.apply_change.ensures ∙ ap (λ (o : PendingOrder). with_local c.args.self.now (comes_to c.args.place (orders o) c.args.self.now.local)) c.new.ensures in
    still_fitting c.args.self.now c.obey_order.new.self c.args.place c.in-Some.asked order core c.requires.hand c.requires.within
    (obeyed_is c.args.self.now c.apply_change.new.self c.obey_order.new.self c.args.place c.in-Some.asked order c.id-caller.result c.emit.new.self c.obey_order.new.buffer given c.obey_order.ensures.does)

pub returns-in-Some : goal.returns-in-Some
returns-in-Some g c =
    let order : PendingOrder = record { target = c.args.target; what = order_kind_of c.args.what } in
    let given = c.apply_change.ensures ∙ ap (λ (o : PendingOrder). with_local c.args.self.now (comes_to c.args.place (orders o) c.args.self.now.local)) c.new.ensures in
    let named = c.id-caller.ensures ∙ ap (λ (p : Processor). (declared p.machine c.args.place).id) c.self.view_is in
    let now = c.self-2.view_is ∙ c.apply_change.ensures in
    let at = sym (c.place_of.ensures.value ∙ ap (λ (p : Processor). place_of p.machine c.args.target) now) ∙ c.in-Some.is in
    let own = subst (λ (p : Processor). is_own p.machine p.cpu c.in-Some.asked ≡ true) now (sym c.is_own.ensures.value ∙ c.if-is_own.true) in
    gives_here c.args.self.now c.apply_change.new.self c.obey_order.new.self c.apply_change-in-Some.new.self c.args.place c.in-Some.asked order c.id-caller.result c.args.buffer.now c.emit.new.self c.obey_order.new.buffer
    named given c.emit.ensures at own c.obey_order.ensures.does c.apply_change-in-Some.ensures

pub returns-in-Some-2 : goal.returns-in-Some-2
returns-in-Some-2 g c =
    let order : PendingOrder = record { target = c.args.target; what = order_kind_of c.args.what } in
    let given = c.apply_change.ensures ∙ ap (λ (o : PendingOrder). with_local c.args.self.now (comes_to c.args.place (orders o) c.args.self.now.local)) c.new.ensures in
    let named = c.id-caller.ensures ∙ ap (λ (p : Processor). (declared p.machine c.args.place).id) c.self.view_is in
    let now = c.self-2.view_is ∙ c.apply_change.ensures in
    let at = sym (c.place_of.ensures.value ∙ ap (λ (p : Processor). place_of p.machine c.args.target) now) ∙ c.in-Some.is in
    let away = subst (λ (p : Processor). is_own p.machine p.cpu c.in-Some.asked ≡ false) now (sym c.is_own.ensures.value ∙ c.if-is_own.false) in
    gives_away c.args.self.now c.apply_change.new.self c.args.place c.in-Some.asked order c.id-caller.result c.args.buffer.now c.emit.new.self c.post.new.self c.cpu_of.result (letter_with [] c.letter-letter.result)
    named given c.emit.ensures at away (c.cpu_of.ensures ∙ ap (λ (p : Processor). (declared p.machine c.in-Some.asked).cpu) now) (ap (letter_with []) c.letter-letter.ensures) c.post.ensures

pub returns-in-None : goal.returns-in-None
returns-in-None g c =
    let order : PendingOrder = record { target = c.args.target; what = order_kind_of c.args.what } in
    let given = c.apply_change.ensures ∙ ap (λ (o : PendingOrder). with_local c.args.self.now (comes_to c.args.place (orders o) c.args.self.now.local)) c.new.ensures in
    let named = c.id-caller.ensures ∙ ap (λ (p : Processor). (declared p.machine c.args.place).id) c.self.view_is in
    let at = sym (c.place_of.ensures.value ∙ ap (λ (p : Processor). place_of p.machine c.args.target) (c.self-2.view_is ∙ c.apply_change.ensures)) ∙ c.in-None.is in
    gives_nobody c.args.self.now c.apply_change.new.self c.args.place order c.id-caller.result c.args.buffer.now c.emit.new.self named given c.emit.ensures at
