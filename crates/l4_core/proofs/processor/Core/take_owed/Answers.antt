use Rattle.std.proofs.Common.{None, sym, subst, ◌∙◌}
use Rattle.l4_core.specs.Processor.{Processor}
use Rattle.l4_core.specs.Inner.Turning.{IsOwnOf}
use Rattle.l4_core.proofs.Keeping.{beside-written, kept-beside, nothing-written}
use Rattle.l4_core.proofs.Noting.{covered-kept, covered-put, put_there}
use Rattle.l4_core.proofs.processor.Core.take_owed.Goals as goal

pub invariant_of-known : goal.invariant_of-known
invariant_of-known c =
    let own = subst (λ (p : Processor). IsOwnOf p c.args.place) (sym (c.known.view_is ∙ c.self.view_is)) c.requires in
    kept-beside c.known.inside c.args.place None c.known.invariant (sym c.retargets.ensures ∙ c.if-not-retargets.false) own.within

pub invariant_of-self : goal.invariant_of-self
invariant_of-self c =
    let w = c.self.inside in
    let own = subst (λ (p : Processor). IsOwnOf p c.args.place) (sym c.self.view_is) c.requires in
    covered-put w.duties c.insert_place.new.duties w.zeros w.known c.args.place c.self.invariant own c.insert_place.ensures.put

pub invariant_of-self-2 : goal.invariant_of-self-2
invariant_of-self-2 c =
    let w = c.self.inside in
    let own = subst (λ (p : Processor). IsOwnOf p c.args.place) (sym c.self.view_is) c.requires in
    let here = subst (λ (p : Processor). IsOwnOf p c.args.place) (sym c.known.view_is) own in
    covered-kept c.insert_place.new.duties w.zeros w.known _ c.args.place None (covered-put w.duties c.insert_place.new.duties w.zeros w.known c.args.place c.self.invariant own c.insert_place.ensures.put)
    (put_there w.duties c.insert_place.new.duties c.args.place c.insert_place.ensures.put) (beside-written c.known.inside c.args.place None _ c.known.invariant (sym c.retargets.ensures ∙ c.if-not-retargets.false) here.within c.known.view_is)

pub returns-clause-state : goal.returns-clause-state
returns-clause-state c =
    let v = c.known.view_is ∙ c.self.view_is in
    let own = subst (λ (p : Processor). IsOwnOf p c.args.place) (sym v) c.requires in
    beside-written c.known.inside c.args.place None _ c.known.invariant (sym c.retargets.ensures ∙ c.if-not-retargets.false) own.within v

pub returns-then-not-retargets-clause-state : goal.returns-then-not-retargets-clause-state
returns-then-not-retargets-clause-state c =
    c.self.view_is ∙ nothing-written c.known.inside c.args.place _ (sym c.retargets.ensures ∙ c.if-not-retargets.true) (c.known.view_is ∙ c.self.view_is)
