use Rattle.std.proofs.Common.{◌<◌, ◌+◌, ◌-◌, inl, inr, false, length, refl, ap, subst, sym, ◌∙◌, ◌≡◌, arith}
use Rattle.l4_explore.specs.Inner.Views.{state_from}
use Rattle.l4_explore.specs.Search.{Seen, seen_at, AreFound, AreWithin, IsSearched}
use Rattle.l4_explore.specs.Inner.Told.{IsToldOn}
use Rattle.l4_explore.proofs.Exploring.{all_shallow, cut_by_depth, cut_early, is_cut_by_depth, cut_by_states, exhausted, deep_enough, gone_before, near_next, opening_searched, opening_within}
use Rattle.l4_explore.proofs.Lasting.{after, back, gone_on_as, same, searched_as, stopped_as}
use Rattle.l4_explore.proofs.Telling.{begun, has_begun, may_all, not_begun, on_err, told_before, told_none, told_whole}
use Rattle.l4_explore.proofs.search.explore_on.Goals as goal

-- Memory was refused for the opening state.
pub returns-in_err-opening-clause-refused : goal.returns-in_err-opening-clause-refused
returns-in_err-opening-clause-refused g c =
    on_err c.from_residual.result _
    (not_begun (g.T.Tries.state_of c.args.tries.now) (g.T.Tries.offers c.args.tries.now) c.args.depth (g.L.Listener.hears c.args.listener.now c.args.listener.now)
    (g.met.L.Listener.silent c.args.listener.now))

pub returns-in_err-found-clause-refused : goal.returns-in_err-found-clause-refused
returns-in_err-found-clause-refused g c =
    on_err c.from_residual-in_err-found.result _
    (not_begun (g.T.Tries.state_of c.args.tries.now) (g.T.Tries.offers c.args.tries.now) c.args.depth (g.L.Listener.hears c.args.listener.now c.args.listener.now)
    (g.met.L.Listener.silent c.args.listener.now))

-- The opening state is told of, if it is an end.

pub tell-requires-clause-may : goal.tell-requires-clause-may
tell-requires-clause-may g c =
    let f = (g.T.Tries.state_of c.args.tries.now) in
    let offers = (g.T.Tries.offers c.args.tries.now) in
    let opening = state_from c.in_ok-opening.field-0 in
    let one = sym c.in_ok-found.ensures in
    may_all (g.L.Listener.may_hear c.args.listener.now) f c.in_ok-found.found c.args.depth
    (subst (AreFound f) one (opening_searched f offers opening c.in_ok-opening.ensures).all)
    (subst (λ found. AreWithin found c.args.depth) one
    (opening_within f offers opening c.in_ok-opening.ensures c.args.depth))
    c.requires.may

pub returns-in_err-tell-clause-refused : goal.returns-in_err-tell-clause-refused
returns-in_err-tell-clause-refused g c =
    let f = (g.T.Tries.state_of c.args.tries.now) in
    let offers = (g.T.Tries.offers c.args.tries.now) in
    let opening = state_from c.in_ok-opening.field-0 in
    let one = sym c.in_ok-found.ensures in
    let s = subst (λ found. IsSearched f offers found 0) one
    (opening_searched f offers opening c.in_ok-opening.ensures) in
    let before = told_none g.L.Listener.hears c.args.listener.now c.args.listener.now c.in_ok-found.found
    (g.met.L.Listener.silent c.args.listener.now) in
    let explored = cut_early f offers c.in_ok-found.found 0 0 s.all s.gone_on
    (subst (λ found. length (seen_at found 0).schedule ≡ 0) one refl)
    (subst (λ found. AreWithin found 1) one
    (opening_within f offers opening c.in_ok-opening.ensures 1)) in
    on_err c.from_residual-in_err-tell.result _ (
      false,
      has_begun g.L.Listener.hears c.args.listener.now c.args.listener.now c.tell.new.listener
          c.in_ok-found.found 0 false c.in_err-tell.ensures.refused before f offers c.args.depth 0 (omega arith) explored,
    )

pub returns-then-not-branch-clause-stopped : goal.returns-then-not-branch-clause-stopped
returns-then-not-branch-clause-stopped g c =
    let f = (g.T.Tries.state_of c.args.tries.now) in
    let offers = (g.T.Tries.offers c.args.tries.now) in
    let opening = state_from c.in_ok-opening.field-0 in
    let one = sym c.in_ok-found.ensures in
    let s = subst (λ found. IsSearched f offers found 0) one
    (opening_searched f offers opening c.in_ok-opening.ensures) in
    let before = told_none g.L.Listener.hears c.args.listener.now c.args.listener.now c.in_ok-found.found
    (g.met.L.Listener.silent c.args.listener.now) in
    let explored = cut_early f offers c.in_ok-found.found 0 0 s.all s.gone_on
    (subst (λ found. length (seen_at found 0).schedule ≡ 0) one refl)
    (subst (λ found. AreWithin found 1) one
    (opening_within f offers opening c.in_ok-opening.ensures 1)) in
    has_begun g.L.Listener.hears c.args.listener.now c.args.listener.now c.tell.new.listener
    c.in_ok-found.found 0 false
    (subst (IsToldOn g.L.Listener.hears c.args.listener.now c.tell.new.listener c.in_ok-found.found 0)
    c.if-not-branch.true c.in_ok-tell.ensures.told) before f offers c.args.depth 0 (omega arith) explored

pub loop-next-init : goal.loop-next-init
loop-next-init g c =
    let f = g.T.Tries.state_of c.args.tries.now in
    let offers = g.T.Tries.offers c.args.tries.now in
    let opening = state_from c.in_ok-opening.field-0 in
    let one = sym c.in_ok-found.ensures in
    record {
      searched = subst (λ found. IsSearched f offers found 0) one
          (opening_searched f offers opening c.in_ok-opening.ensures);
      same_states = refl;
      same_offers = same offers;
      few = omega (arith, c.requires.some, ap length c.in_ok-found.ensures);
      deep = subst (λ found. AreWithin found c.args.depth) one
          (opening_within f offers opening c.in_ok-opening.ensures c.args.depth);
      shallow = λ i l. absurd (omega (arith, l));
      told = told_whole g.L.Listener.hears c.args.listener.now c.args.listener.now c.tell.new.listener
          c.in_ok-found.found 0 c.in_ok-tell.field-0 c.in_ok-tell.ensures.told
          (told_none g.L.Listener.hears c.args.listener.now c.args.listener.now c.in_ok-found.found
          (g.met.L.Listener.silent c.args.listener.now)) c.if-not-branch.false;
      may = c.tell.ensures.same;
    }

pub expand-requires-clause-searched : goal.expand-requires-clause-searched
expand-requires-clause-searched g c =
    searched_as (g.T.Tries.state_of c.args.tries.now) (g.T.Tries.state_of c.loop-next.tries)
    (g.T.Tries.offers c.args.tries.now) (g.T.Tries.offers c.loop-next.tries) c.loop-next.found
    c.loop-next.next (sym c.loop-next.invariant.same_states) c.loop-next.invariant.same_offers
    c.loop-next.invariant.searched

pub returns-then-reached-depth-clause-explored : goal.returns-then-reached-depth-clause-explored
returns-then-reached-depth-clause-explored g c =
    cut_by_depth (g.T.Tries.state_of c.args.tries.now) (g.T.Tries.offers c.args.tries.now)
    c.loop-next.found c.loop-next.next c.args.depth c.loop-next.invariant.searched
    (omega (arith, c.len.ensures.value, c.loop-next-test.true))
    (omega (arith, c.if-reached-depth.true, c.depth-reached.ensures))
    c.loop-next.invariant.deep

pub returns-then-reached-depth-clause-cut : goal.returns-then-reached-depth-clause-cut
returns-then-reached-depth-clause-cut g c = λ _. inl
    (is_cut_by_depth (g.T.Tries.state_of c.args.tries.now) (g.T.Tries.offers c.args.tries.now)
    c.loop-next.found c.loop-next.next c.args.depth c.loop-next.invariant.searched
    (omega (arith, c.len.ensures.value, c.loop-next-test.true))
    (omega (arith, c.if-reached-depth.true, c.depth-reached.ensures))
    c.loop-next.invariant.deep)

-- Memory was refused on the way.
pub returns-in_err-are_all-clause-refused : goal.returns-in_err-are_all-clause-refused
returns-in_err-are_all-clause-refused g c =
    let f = (g.T.Tries.state_of c.args.tries.now) in
    let offers = (g.T.Tries.offers c.args.tries.now) in
    let s = c.loop-next.invariant.searched in
    let inside : c.loop-next.next < length c.loop-next.found =
    omega (arith, c.len.ensures.value, c.loop-next-test.true) in
    on_err c.from_residual-in_err-are_all.result _
    (begun f offers c.args.depth (g.L.Listener.hears c.args.listener.now c.loop-next.listener)
    c.loop-next.found (length (seen_at c.loop-next.found c.loop-next.next).schedule)
    (omega (arith, c.if-reached-depth.false, c.depth-reached.ensures))
    (cut_early f offers c.loop-next.found c.loop-next.next
    (length (seen_at c.loop-next.found c.loop-next.next).schedule) s.all s.gone_on refl
    (near_next f offers c.loop-next.found c.loop-next.next s inside))
    c.loop-next.invariant.told)

pub tell-requires-in-loop-next-clause-may : goal.tell-requires-in-loop-next-clause-may
tell-requires-in-loop-next-clause-may g c =
    let short : length (seen_at c.loop-next.found c.loop-next.next).schedule < c.args.depth =
    omega (arith, c.if-reached-depth.false, c.depth-reached.ensures) in
    may_all (g.L.Listener.may_hear c.loop-next.listener) (g.T.Tries.state_of c.args.tries.now) c.expand.new.found c.args.depth
    (subst (λ f. AreFound f c.expand.new.found) c.loop-next.invariant.same_states
    c.in_ok-are_all.ensures.found)
    (deep_enough c.expand.new.found
    (length (seen_at c.loop-next.found c.loop-next.next).schedule) c.args.depth short
    c.in_ok-are_all.ensures.near)
    (λ s leads near. c.loop-next.invariant.may s (c.requires.may s leads near))

pub returns-in_err-tell-2-clause-refused : goal.returns-in_err-tell-2-clause-refused
returns-in_err-tell-2-clause-refused g c =
    let f = (g.T.Tries.state_of c.args.tries.now) in
    let offers = (g.T.Tries.offers c.args.tries.now) in
    let before = told_before g.L.Listener.hears c.args.listener.now c.loop-next.listener
    c.loop-next.found c.expand.new.found c.len-before.result c.len-before.ensures.value
    c.in_ok-are_all.ensures.more c.loop-next.invariant.told in
    let near = length (seen_at c.loop-next.found c.loop-next.next).schedule in
    let all = subst (λ f. AreFound f c.expand.new.found) c.loop-next.invariant.same_states
    c.in_ok-are_all.ensures.found in
    let gone = gone_before (g.T.Tries.state_of c.loop-next.tries) (g.T.Tries.offers c.loop-next.tries)
    c.expand.new.found c.loop-next.next c.in_ok-are_all.are_all c.in_ok-are_all.ensures.all
    c.in_ok-are_all.ensures.stopped in
    let explored = cut_early f offers c.expand.new.found c.loop-next.next near all
    (λ i less. gone_on_as (g.T.Tries.offers c.loop-next.tries) offers c.expand.new.found i
    (back offers (g.T.Tries.offers c.loop-next.tries) c.loop-next.invariant.same_offers)
    (gone i less))
    (ap (λ (s : Seen). length s.schedule) c.in_ok-are_all.ensures.same)
    c.in_ok-are_all.ensures.near in
    on_err c.from_residual-in_err-tell-2.result _ (
      false,
      has_begun g.L.Listener.hears c.args.listener.now c.loop-next.listener
          c.tell-in-loop-next.new.listener c.expand.new.found c.len-before.result false
          c.in_err-tell-2.ensures.refused before f offers c.args.depth near
          (omega (arith, c.if-reached-depth.false, c.depth-reached.ensures)) explored,
    )

pub returns-then-not-branch-2-clause-stopped : goal.returns-then-not-branch-2-clause-stopped
returns-then-not-branch-2-clause-stopped g c =
    let f = (g.T.Tries.state_of c.args.tries.now) in
    let offers = (g.T.Tries.offers c.args.tries.now) in
    let before = told_before g.L.Listener.hears c.args.listener.now c.loop-next.listener
    c.loop-next.found c.expand.new.found c.len-before.result c.len-before.ensures.value
    c.in_ok-are_all.ensures.more c.loop-next.invariant.told in
    let near = length (seen_at c.loop-next.found c.loop-next.next).schedule in
    let all = subst (λ f. AreFound f c.expand.new.found) c.loop-next.invariant.same_states
    c.in_ok-are_all.ensures.found in
    let gone = gone_before (g.T.Tries.state_of c.loop-next.tries) (g.T.Tries.offers c.loop-next.tries)
    c.expand.new.found c.loop-next.next c.in_ok-are_all.are_all c.in_ok-are_all.ensures.all
    c.in_ok-are_all.ensures.stopped in
    let explored = cut_early f offers c.expand.new.found c.loop-next.next near all
    (λ i less. gone_on_as (g.T.Tries.offers c.loop-next.tries) offers c.expand.new.found i
    (back offers (g.T.Tries.offers c.loop-next.tries) c.loop-next.invariant.same_offers)
    (gone i less))
    (ap (λ (s : Seen). length s.schedule) c.in_ok-are_all.ensures.same)
    c.in_ok-are_all.ensures.near in
    has_begun g.L.Listener.hears c.args.listener.now c.loop-next.listener
    c.tell-in-loop-next.new.listener c.expand.new.found c.len-before.result false
    (subst (IsToldOn g.L.Listener.hears c.loop-next.listener c.tell-in-loop-next.new.listener
    c.expand.new.found c.len-before.result) c.if-not-branch-2.true c.in_ok-tell-2.ensures.told)
    before f offers c.args.depth near
    (omega (arith, c.if-reached-depth.false, c.depth-reached.ensures)) explored

pub loop-next-preserved : goal.loop-next-preserved
loop-next-preserved g c =
    let short : length (seen_at c.loop-next.found c.loop-next.next).schedule < c.args.depth =
    omega (arith, c.if-reached-depth.false, c.depth-reached.ensures) in
    let same = ap (λ (s : Seen). length s.schedule) c.in_ok-are_all.ensures.same in
    let searched =
    searched_as (g.T.Tries.state_of c.loop-next.tries) (g.T.Tries.state_of c.args.tries.now)
    (g.T.Tries.offers c.loop-next.tries) (g.T.Tries.offers c.args.tries.now) c.expand.new.found
    (c.loop-next.next + 1) c.loop-next.invariant.same_states
    (back (g.T.Tries.offers c.args.tries.now) (g.T.Tries.offers c.loop-next.tries) c.loop-next.invariant.same_offers)
    (c.in_ok-are_all.ensures.all c.if-not-are_all.false) in
    let before = told_before g.L.Listener.hears c.args.listener.now c.loop-next.listener
    c.loop-next.found c.expand.new.found c.len-before.result c.len-before.ensures.value
    c.in_ok-are_all.ensures.more c.loop-next.invariant.told in
    record {
      searched = searched;
      same_states = c.expand.ensures.same_states ∙ c.loop-next.invariant.same_states;
      same_offers = after (g.T.Tries.offers c.args.tries.now) (g.T.Tries.offers c.loop-next.tries)
          (g.T.Tries.offers c.expand.new.tries) c.loop-next.invariant.same_offers
          c.expand.ensures.same_offers;
      few = c.in_ok-are_all.ensures.few;
      deep = deep_enough c.expand.new.found
          (length (seen_at c.loop-next.found c.loop-next.next).schedule) c.args.depth short
          c.in_ok-are_all.ensures.near;
      shallow = all_shallow (g.T.Tries.state_of c.args.tries.now)
          (g.T.Tries.offers c.args.tries.now) c.expand.new.found c.loop-next.next c.args.depth
          searched (omega (arith, short, same));
      told = told_whole g.L.Listener.hears c.args.listener.now c.loop-next.listener
          c.tell-in-loop-next.new.listener c.expand.new.found c.len-before.result c.in_ok-tell-2.field-0
          c.in_ok-tell-2.ensures.told before c.if-not-branch-2.false;
      may = λ s hears. c.tell-in-loop-next.ensures.same s (c.loop-next.invariant.may s hears);
    }

pub returns-then-not-are_all-clause-explored : goal.returns-then-not-are_all-clause-explored
returns-then-not-are_all-clause-explored g c =
    cut_by_states (g.T.Tries.state_of c.args.tries.now) (g.T.Tries.offers c.args.tries.now)
    c.expand.new.found c.loop-next.next c.args.depth c.args.most c.depth-reached.result
    (stopped_as (g.T.Tries.state_of c.loop-next.tries) (g.T.Tries.state_of c.args.tries.now)
    (g.T.Tries.offers c.loop-next.tries) (g.T.Tries.offers c.args.tries.now) c.expand.new.found
    c.loop-next.next c.loop-next.invariant.same_states
    (back (g.T.Tries.offers c.args.tries.now) (g.T.Tries.offers c.loop-next.tries) c.loop-next.invariant.same_offers)
    (c.in_ok-are_all.ensures.stopped c.if-not-are_all.true))
    (subst (λ f. AreFound f c.expand.new.found) c.loop-next.invariant.same_states
    c.in_ok-are_all.ensures.found)
    (ap (λ (s : Seen). length s.schedule) c.in_ok-are_all.ensures.same ∙ sym c.depth-reached.ensures)
    (subst (λ n. AreWithin c.expand.new.found (n + 1)) (sym c.depth-reached.ensures)
    c.in_ok-are_all.ensures.near)

pub returns-then-not-are_all-clause-cut : goal.returns-then-not-are_all-clause-cut
returns-then-not-are_all-clause-cut g c = λ _. inr
    (record {
      shallow = omega (arith, c.if-reached-depth.false);
      full = c.in_ok-are_all.ensures.full c.if-not-are_all.true;
      place = c.loop-next.next;
      far = ap (λ (s : Seen). length s.schedule) c.in_ok-are_all.ensures.same
          ∙ sym c.depth-reached.ensures;
      stopped = stopped_as (g.T.Tries.state_of c.loop-next.tries)
          (g.T.Tries.state_of c.args.tries.now) (g.T.Tries.offers c.loop-next.tries)
          (g.T.Tries.offers c.args.tries.now) c.expand.new.found c.loop-next.next
          c.loop-next.invariant.same_states
          (back (g.T.Tries.offers c.args.tries.now) (g.T.Tries.offers c.loop-next.tries)
          c.loop-next.invariant.same_offers)
          (c.in_ok-are_all.ensures.stopped c.if-not-are_all.true);
    })

pub returns-then-not-are_all-clause-told : goal.returns-then-not-are_all-clause-told
returns-then-not-are_all-clause-told g c =
    let before = told_before g.L.Listener.hears c.args.listener.now c.loop-next.listener
    c.loop-next.found c.expand.new.found c.len-before.result c.len-before.ensures.value
    c.in_ok-are_all.ensures.more c.loop-next.invariant.told in
    told_whole g.L.Listener.hears c.args.listener.now c.loop-next.listener
    c.tell-in-loop-next.new.listener c.expand.new.found c.len-before.result c.in_ok-tell-2.field-0
    c.in_ok-tell-2.ensures.told before c.if-not-branch-2.false

pub returns-clause-explored : goal.returns-clause-explored
returns-clause-explored g c =
    exhausted (g.T.Tries.state_of c.args.tries.now) (g.T.Tries.offers c.args.tries.now)
    c.loop-next.found c.loop-next.next c.depth-deepest.result c.loop-next.invariant.searched
    (omega (arith, c.len.ensures.value, c.loop-next-test.false))
    (c.depth-deepest.ensures
    ∙ ap (λ n. length (seen_at c.loop-next.found (n - 1)).schedule) c.len-2.ensures.value)
