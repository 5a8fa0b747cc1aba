use Rattle.std.proofs.Common.{◌≡◌, ◌≤◌, inl, inr, length, ap, refl, subst, ◌∙◌, arith}
use Rattle.l4_model.specs.Machine.{Machine}
use Rattle.l4_core_model.specs.Runs.{opening_run}
use Rattle.l4_replay.specs.UnderWay.{IsRun}
use Rattle.l4_walks.specs.Inner.Placed.{IsChoice}
use Rattle.l4_walks.proofs.Resting.{comes, started, went_on}
use Rattle.l4_walks.proofs.placed.PlacedWalks.next_walk.Goals as goal

pub loop-init : goal.loop-init
loop-init c = record {
  same = refl;
  under_way =
      started c.args.self.now c.new-entries.result.items c.in_ok-walk.walk
      c.new-entries.ensures.items
      (subst (λ (m : Machine). IsRun m (opening_run m) c.in_ok-walk.walk) c.self.view_is
      c.in_ok-walk.ensures);
  count = ap length c.new-entries.ensures.items;
}

-- No choice can be made.
pub returns-in_default-clause-walked : goal.returns-in_default-clause-walked
returns-in_default-clause-walked c =
    let m = c.args.self.now in
    let u = c.loop.invariant.under_way in
    let walked = u.walked in
    let near : length c.loop.entries.items ≤ c.args.most
    = omega (arith, c.loop.invariant.count, c.loop-test.true) in
    comes m c.args.most c.loop.entries c.loop.walk u c.if_at_rest.result near
    (inr (subst (IsChoice m walked.run.system) c.in_default.is
    (c.in_ok-number.ensures.choice m walked.run walked.is)))
    (c.if_at_rest.ensures m walked.run walked.is)

pub loop-preserved : goal.loop-preserved
loop-preserved c =
    let m = c.args.self.now in
    let u = c.loop.invariant.under_way in
    let walked = u.walked in
    let chosen = subst (IsChoice m walked.run.system) c.in-Some.is
    (c.in_ok-number.ensures.choice m walked.run walked.is) in
    record {
      same = c.in_ok-number.ensures.same ∙ c.loop.invariant.same;
      under_way =
          went_on m c.loop.entries.items c.push.new.self.items c.choice-in-loop.result c.loop.walk
          c.make.new.walk c.in-Some.number c.cpus-cpus.result u
          (c.cpus-cpus.ensures.value ∙ ap (λ (x : Machine). x.cpus) c.self.view_is) chosen.1
          c.in_ok-push.ensures.items c.choice-in-loop.ensures.value c.in_ok-make.ensures.goes
          c.in_ok-make.ensures.near;
      count = grind (arith, c.in_ok-push.ensures.items, c.loop.invariant.count);
    }

-- As many events came as may.
pub returns-clause-walked : goal.returns-clause-walked
returns-clause-walked c =
    let m = c.args.self.now in
    let u = c.loop.invariant.under_way in
    let walked = u.walked in
    let all : length c.loop.entries.items ≡ c.args.most
    = omega (arith, c.loop.invariant.count, c.loop-test.false, c.loop.auto.counter-end) in
    let near : length c.loop.entries.items ≤ c.args.most = omega (arith, all) in
    comes m c.args.most c.loop.entries c.loop.walk u c.if_at_rest-2.result near (inl all)
    (c.if_at_rest-2.ensures m walked.run walked.is)
