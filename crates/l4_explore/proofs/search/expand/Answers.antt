use Rattle.std.proofs.Common.{map, ap, sym, subst, ◌∙◌}
use Rattle.l4_explore.specs.Search.{seen_at}
use Rattle.l4_explore.specs.Inner.Views.{next_from}
use Rattle.l4_explore.proofs.Trying.{HasMet, one_tried, goes_on, all_tried, going_near, no_items, stopped, stopped_near}
use Rattle.l4_explore.proofs.Telling.{more_on}
use Rattle.l4_explore.proofs.search.expand.Goals as goal

pub returns-then-not-branch-clause-near : goal.returns-then-not-branch-clause-near
returns-then-not-branch-clause-near g c =
    let f = g.T.Tries.state_of c.args.tries.now in
    let offers = g.T.Tries.offers c.args.tries.now in
    let coded = g.met.T.Tries.coded c.args.tries.now in
    let seen = seen_at c.args.found.now c.args.next in
    let going = c.loop-choice.invariant.going in
    let n = next_from c.in-Some.choice in
    let h = one_tried f offers coded c.args.next c.args.most seen c.loop-choice.found
    c.meet.new.found n (map next_from c.loop-choice.choice-iterator.rest.items)
    (map next_from c.next.new.self.rest.items) c.in_ok-meet.field-0
    going (ap (map next_from) c.in-Some.ensures.steps.0) c.loop-choice.invariant.few
    c.in_ok-meet.ensures in
    stopped_near f offers coded c.args.next c.args.most seen c.loop-choice.found
    c.meet.new.found n going.same
    (subst (HasMet f offers c.loop-choice.found c.meet.new.found c.args.next c.args.most n)
    c.if-not-branch.true h)

pub returns-then-not-branch-clause-stopped : goal.returns-then-not-branch-clause-stopped
returns-then-not-branch-clause-stopped g c = λ _.
    let f = g.T.Tries.state_of c.args.tries.now in
    let offers = g.T.Tries.offers c.args.tries.now in
    let coded = g.met.T.Tries.coded c.args.tries.now in
    let seen = seen_at c.args.found.now c.args.next in
    let going = c.loop-choice.invariant.going in
    let n = next_from c.in-Some.choice in
    let left = map next_from c.loop-choice.choice-iterator.rest.items in
    let others = map next_from c.next.new.self.rest.items in
    let is = ap (map next_from) c.in-Some.ensures.steps.0 in
    let h = one_tried f offers coded c.args.next c.args.most seen c.loop-choice.found
    c.meet.new.found n left others c.in_ok-meet.field-0 going is c.loop-choice.invariant.few
    c.in_ok-meet.ensures in
    stopped f offers coded c.args.next c.args.most seen c.loop-choice.found
    c.meet.new.found n left others going is
    (subst (HasMet f offers c.loop-choice.found c.meet.new.found c.args.next c.args.most n)
    c.if-not-branch.true h)

pub loop-choice-preserved : goal.loop-choice-preserved
loop-choice-preserved g c =
    let f = g.T.Tries.state_of c.args.tries.now in
    let offers = g.T.Tries.offers c.args.tries.now in
    let coded = g.met.T.Tries.coded c.args.tries.now in
    let seen = seen_at c.args.found.now c.args.next in
    let going = c.loop-choice.invariant.going in
    let n = next_from c.in-Some.choice in
    let left = map next_from c.loop-choice.choice-iterator.rest.items in
    let others = map next_from c.next.new.self.rest.items in
    let is = ap (map next_from) c.in-Some.ensures.steps.0 in
    let h = one_tried f offers coded c.args.next c.args.most seen c.loop-choice.found
    c.meet.new.found n left others c.in_ok-meet.field-0 going is c.loop-choice.invariant.few
    c.in_ok-meet.ensures in
    let s = subst (HasMet f offers c.loop-choice.found c.meet.new.found c.args.next c.args.most n)
    c.if-not-branch.false h in
    record {
      going = goes_on f offers coded c.args.next c.args.most seen c.loop-choice.found
          c.meet.new.found n left others going is s;
      more = more_on c.args.found.now c.loop-choice.found c.meet.new.found c.args.next c.args.most n
          c.in_ok-meet.field-0 c.loop-choice.invariant.more c.in_ok-meet.ensures;
      few = s.few;
    }

pub returns-clause-near : goal.returns-clause-near
returns-clause-near g c =
    going_near (g.T.Tries.state_of c.args.tries.now) (g.T.Tries.offers c.args.tries.now)
    (g.met.T.Tries.coded c.args.tries.now) c.args.next c.args.most
    (seen_at c.args.found.now c.args.next) c.loop-choice.found
    (map next_from c.loop-choice.choice-iterator.rest.items) c.loop-choice.invariant.going

pub returns-clause-all : goal.returns-clause-all
returns-clause-all g c = λ _.
    all_tried (g.T.Tries.state_of c.args.tries.now) (g.T.Tries.offers c.args.tries.now)
    (g.met.T.Tries.coded c.args.tries.now) c.args.next c.args.most
    (seen_at c.args.found.now c.args.next) c.loop-choice.found
    (map next_from c.loop-choice.choice-iterator.rest.items) c.loop-choice.invariant.going
    (ap (map next_from) (no_items c.loop-choice.choice-iterator.rest.items
    (sym c.loop-choice.choice-iterator.rest.ok.0 ∙ c.in-None.ensures.steps.0)))
