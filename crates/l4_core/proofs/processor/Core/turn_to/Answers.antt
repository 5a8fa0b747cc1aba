use Rattle.std.proofs.Common.{◌<◌, length, sym, subst, ◌∙◌, arith}
use Rattle.l4_model.specs.Effects.{turns}
use Rattle.l4_types.specs.Inner.OwedView.{owed_of}
use Rattle.l4_core.specs.Inner.Parts.{AreCore}
use Rattle.l4_core.specs.Processor.{Processor}
use Rattle.l4_core.proofs.Noting.{covered-turned}
use Rattle.l4_core.proofs.Turned.{fits-turned}
use Rattle.l4_core.proofs.Writing.{change-written, kept-changed, state}
use Rattle.l4_core.proofs.processor.Core.turn_to.Goals as goal

pub invariant_of-known : goal.invariant_of-known
invariant_of-known c =
    let s = c.known.inside in
    let owed = owed_of c.args.owed.now in
    let within = subst (λ (p : Processor). c.args.place < length p.machine.threads) (sym (c.known.view_is ∙ c.self.view_is)) c.requires in
    kept-changed s c.args.place (turns owed) _ _ c.known.invariant c.index_mut.ensures.value (c.turn_to.ensures owed.send owed.originator) (fits-turned s.machine.now s.cpu (state s) c.args.place owed c.known.invariant.core.settled within)

pub invariant_of-self : goal.invariant_of-self
invariant_of-self c =
    let w = c.self.inside in
    let owed = owed_of c.args.owed.now in
    let within = subst (λ (p : Processor). c.args.place < length p.machine.threads) (sym c.self.view_is) c.requires in
    let here = subst (λ (p : Processor). c.args.place < length p.machine.threads) (sym c.known.view_is) within in
    let core = subst AreCore c.known.view_is c.known.invariant.core in
    covered-turned c.note_own.new.duties w.zeros w.known _ c.args.place owed (record { covers = c.note_own.ensures.covers c.self.invariant.covers; waiting = c.self.invariant.waiting })
    (omega (arith, within, core.settled.threads)) c.note_own.ensures.there
    (change-written c.known.inside c.args.place (turns owed) _ _ _ c.known.invariant here c.index_mut.ensures.value (c.turn_to.ensures owed.send owed.originator) c.known.view_is)

pub returns : goal.returns
returns c =
    let owed = owed_of c.args.owed.now in
    let v = c.known.view_is ∙ c.self.view_is in
    let within = subst (λ (p : Processor). c.args.place < length p.machine.threads) (sym v) c.requires in
    change-written c.known.inside c.args.place (turns owed) _ _ _ c.known.invariant within c.index_mut.ensures.value (c.turn_to.ensures owed.send owed.originator) v
