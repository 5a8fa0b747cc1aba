use Rattle.std.proofs.Common.{◌<◌, sym, subst, ◌∙◌}
use Rattle.l4_core.specs.Processor.{Processor}
use Rattle.l4_core.specs.Inner.Turning.{IsOwnOf}
use Rattle.l4_core.proofs.Noting.{covered-put, covered-told, put_there}
use Rattle.l4_core.proofs.Telling.{kept-told, told-written}
use Rattle.l4_core.proofs.processor.Core.note_notified.Goals as goal

pub invariant_of-known : goal.invariant_of-known
invariant_of-known c =
    let v = sym (c.known.view_is ∙ c.self.view_is) in
    let own = subst (λ (p : Processor). IsOwnOf p c.args.place) v c.requires.own in
    let below = subst (λ (p : Processor). c.args.cpu < p.machine.cpus) v c.requires.cpu in
    kept-told c.known.inside c.args.place c.args.cpu c.known.invariant below own.within

pub invariant_of-self-2 : goal.invariant_of-self-2
invariant_of-self-2 c =
    let w = c.self.inside in
    let own = subst (λ (p : Processor). IsOwnOf p c.args.place) (sym c.self.view_is) c.requires.own in
    let here = subst (λ (p : Processor). IsOwnOf p c.args.place) (sym c.known.view_is) own in
    covered-told c.insert_place.new.duties w.zeros w.known _ c.args.place c.args.cpu (covered-put w.duties c.insert_place.new.duties w.zeros w.known c.args.place c.self.invariant own c.insert_place.ensures.put)
    (put_there w.duties c.insert_place.new.duties c.args.place c.insert_place.ensures.put) (told-written c.known.inside c.args.place c.args.cpu _ c.known.invariant here.within c.known.view_is)

pub returns : goal.returns
returns c =
    let v = c.known.view_is ∙ c.self.view_is in
    let own = subst (λ (p : Processor). IsOwnOf p c.args.place) (sym v) c.requires.own in
    told-written c.known.inside c.args.place c.args.cpu _ c.known.invariant own.within v
