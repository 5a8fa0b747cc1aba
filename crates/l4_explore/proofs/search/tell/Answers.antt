use Rattle.std.proofs.Common.{[], ◌∷◌, arith, false, refl, subst}
use Rattle.l4_explore.specs.Search.{seen_at}
use Rattle.l4_explore.specs.Told.{ends_among}
use Rattle.l4_explore.proofs.Telling.{on_err, told_enough}
use Rattle.l4_explore.proofs.search.tell.Goals as goal

pub returns-in_err-tell_of-clause-refused : goal.returns-in_err-tell_of-clause-refused
returns-in_err-tell_of-clause-refused g c =
    on_err c.from_residual.result _
    (told_enough g.L.Listener.hears g.met.L.Listener.joined c.args.listener.now c.args.found.now
    c.args.from c.loop-place.place
    (omega (arith, c.loop-place-test.true, c.len-place-end.ensures.value)) c.loop-place.listener
    c.tell_of.new.listener false c.loop-place.invariant.told c.in_err-tell_of.ensures.heard refl)

pub returns-then-not-branch-clause-told : goal.returns-then-not-branch-clause-told
returns-then-not-branch-clause-told g c =
    told_enough g.L.Listener.hears g.met.L.Listener.joined c.args.listener.now c.args.found.now
    c.args.from c.loop-place.place
    (omega (arith, c.loop-place-test.true, c.len-place-end.ensures.value)) c.loop-place.listener
    c.tell_of.new.listener false c.loop-place.invariant.told
    (subst (g.L.Listener.hears c.loop-place.listener c.tell_of.new.listener
    (ends_among (seen_at c.args.found.now c.loop-place.place ∷ [])))
    c.if-not-branch.true c.in_ok-tell_of.ensures.heard) refl
