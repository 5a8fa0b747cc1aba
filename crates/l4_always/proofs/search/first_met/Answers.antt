use Rattle.std.proofs.Common.{ap, arith, subst, sym, ◌∙◌}
use Rattle.l4_futures.specs.Choices.{world_after}
use Rattle.l4_outlooks.specs.Inner.Foreseen.{IsLed}
use Rattle.l4_condition_lines.specs.Conditions.{meets}
use Rattle.l4_always.proofs.Saying.{first_here, none_more}
use Rattle.l4_always.proofs.search.first_met.Goals as goal

pub returns-then-branch-clause-some : goal.returns-then-branch-clause-some
returns-then-branch-clause-some c =
    let m = c.args.machine.now in
    let l = c.loop-place in
    let o = c.in_ok-outlook.outlook in
    let led = subst (λ n. IsLed n c.deref.result.now o) l.invariant.same c.in_ok-outlook.ensures.led in
    first_here m c.args.found.now (meets m c.args.condition.now) l.place o.world c.requires.found
    (record {
      inside = omega (arith, c.loop-place-test.true, c.len-place-end.ensures.value);
      leads = ap (world_after m) (sym (c.deref.ensures.value ∙ c.in_ok-entries.ensures)) ∙ led.leads;
    })
    (sym c.in_ok-is_met.ensures ∙ c.if-branch.true) l.invariant.none

pub loop-place-preserved : goal.loop-place-preserved
loop-place-preserved c =
    let m = c.args.machine.now in
    let l = c.loop-place in
    let o = c.in_ok-outlook.outlook in
    let led = subst (λ n. IsLed n c.deref.result.now o) l.invariant.same c.in_ok-outlook.ensures.led in
    record {
      same = c.outlook.ensures.same ∙ l.invariant.same;
      none =
          none_more m c.args.found.now (meets m c.args.condition.now) l.place o.world
          (record {
            inside = omega (arith, c.loop-place-test.true, c.len-place-end.ensures.value);
            leads = ap (world_after m) (sym (c.deref.ensures.value ∙ c.in_ok-entries.ensures))
                ∙ led.leads;
          })
          (sym c.in_ok-is_met.ensures ∙ c.if-branch.false) l.invariant.none;
    }
