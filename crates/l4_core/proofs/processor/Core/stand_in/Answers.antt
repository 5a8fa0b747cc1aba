use Rattle.std.proofs.Common.{◌≡◌, ◌<◌, true, is_none, length, ap, sym, subst, ◌∙◌}
use Rattle.l4_core_model.specs.Local.{changes, declared, stand_in, stands_in, thread}
use Rattle.l4_core.specs.Inner.Parts.{AreCore}
use Rattle.l4_core.specs.Processor.{Processor, with_local}
use Rattle.l4_core.specs.Inner.Tasks.{IsForeign}
use Rattle.l4_core.proofs.Arriving.{covered-stands_in}
use Rattle.l4_core.proofs.Fitting.{fits-stands_in}
use Rattle.l4_core.proofs.Writing.{change-written, kept-changed, state}
use Rattle.l4_core.proofs.processor.Core.stand_in.Goals as goal

pub invariant_of-known : goal.invariant_of-known
invariant_of-known c =
    let s = c.known.inside in
    let v = sym (c.known.view_is ∙ c.self.view_is) in
    let sender = subst (λ (p : Processor). IsForeign p c.args.place) v c.requires.sender in
    let from = subst (λ (p : Processor). c.args.message.actual ≡ (declared p.machine c.args.place).id) v c.requires.actual in
    kept-changed s c.args.place (stands_in c.k.result (stand_in c.args.receiver c.args.message c.args.zero_timeout)) _ _ c.known.invariant c.index_mut.ensures.value c.stand_in.ensures
    (fits-stands_in s.machine.now s.cpu (state s) c.args.place c.k.result c.args.receiver c.args.message c.args.zero_timeout c.known.invariant.core.settled sender.within sender.foreign from c.k.ensures.positive)

pub invariant_of-self : goal.invariant_of-self
invariant_of-self c =
    let w = c.self.inside in
    let s = c.known.inside in
    let v = c.known.view_is in
    let sender = subst (λ (p : Processor). IsForeign p c.args.place) (sym c.self.view_is) c.requires.sender in
    let free = subst (λ (p : Processor). is_none (thread p.local c.args.place).send ≡ true) (sym c.self.view_is) c.requires.free in
    let within = subst (λ (p : Processor). c.args.place < length p.machine.threads) (sym v) sender.within in
    covered-stands_in w.duties w.zeros w.known _ c.args.place _ _ _ _ c.self.invariant (subst AreCore v c.known.invariant.core) sender.within sender.foreign free
    (change-written s c.args.place (stands_in c.k.result (stand_in c.args.receiver c.args.message c.args.zero_timeout)) _ _ _ c.known.invariant within c.index_mut.ensures.value c.stand_in.ensures v)

pub returns : goal.returns
returns c =
    let v = c.known.view_is ∙ c.self.view_is in
    let within = subst (λ (p : Processor). c.args.place < length p.machine.threads) (sym v) c.requires.sender.within in
    change-written c.known.inside c.args.place (stands_in c.k.result (stand_in c.args.receiver c.args.message c.args.zero_timeout)) _ _ _ c.known.invariant within c.index_mut.ensures.value c.stand_in.ensures v
    ∙ ap (λ k. with_local c.args.self.now (changes c.args.place (stands_in k (stand_in c.args.receiver c.args.message c.args.zero_timeout)) c.args.self.now.local)) c.k.ensures.value
