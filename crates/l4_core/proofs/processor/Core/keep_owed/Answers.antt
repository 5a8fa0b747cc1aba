use Rattle.std.proofs.Common.{◌≡◌, true, Some, sym, subst, ◌∙◌}
use Rattle.l4_types.specs.Inner.OwedView.{owed_of}
use Rattle.l4_core.specs.Processor.{Processor}
use Rattle.l4_core.specs.Inner.Turning.{IsOwnOf}
use Rattle.l4_core.proofs.Keeping.{beside-written, kept-beside}
use Rattle.l4_core.proofs.Noting.{covered-kept, covered-put, put_there}
use Rattle.l4_core.proofs.processor.Core.keep_owed.Goals as goal

pub invariant_of-known : goal.invariant_of-known
invariant_of-known c =
    let v = sym (c.known.view_is ∙ c.self.view_is) in
    let own = subst (λ (p : Processor). IsOwnOf p c.args.place) v c.requires.own in
    let on = subst (λ (p : Processor). p.machine.retargeting ≡ true) v c.requires.profile in
    kept-beside c.known.inside c.args.place (Some c.args.owed) c.known.invariant on own.within

pub invariant_of-self : goal.invariant_of-self
invariant_of-self c =
    let w = c.self.inside in
    let v = sym (c.known.view_is ∙ c.self.view_is) in
    let own = subst (λ (p : Processor). IsOwnOf p c.args.place) (sym c.self.view_is) c.requires.own in
    let here = subst (λ (p : Processor). IsOwnOf p c.args.place) v c.requires.own in
    let on = subst (λ (p : Processor). p.machine.retargeting ≡ true) v c.requires.profile in
    covered-kept c.insert_place.new.duties w.zeros w.known _ c.args.place (Some (owed_of c.args.owed)) (covered-put w.duties c.insert_place.new.duties w.zeros w.known c.args.place c.self.invariant own c.insert_place.ensures.put)
    (put_there w.duties c.insert_place.new.duties c.args.place c.insert_place.ensures.put) (beside-written c.known.inside c.args.place (Some c.args.owed) _ c.known.invariant on here.within c.known.view_is)

pub returns : goal.returns
returns c =
    let v = c.known.view_is ∙ c.self.view_is in
    let own = subst (λ (p : Processor). IsOwnOf p c.args.place) (sym v) c.requires.own in
    let on = subst (λ (p : Processor). p.machine.retargeting ≡ true) (sym v) c.requires.profile in
    beside-written c.known.inside c.args.place (Some c.args.owed) _ c.known.invariant on own.within v
