use Rattle.std.proofs.Common.{◌≤◌, length, sym, subst, ◌∙◌, arith}
use Rattle.l4_worlds.specs.Histories.{IsTimed}
use Rattle.l4_outlooks.specs.Inner.Foreseen.{IsLed}
use Rattle.l4_outlooks.proofs.Leading.{led}
use Rattle.l4_walks.proofs.Comings.{chose_none, comes}
use Rattle.l4_walks.proofs.walks.Walks.next_walk.Goals as goal

pub returns-in_default-clause-walked : goal.returns-in_default-clause-walked
returns-in_default-clause-walked c =
    let o = c.loop.outlook in
    let few : length c.loop.entries.items ≤ c.args.most
    = omega (arith, c.loop.invariant.count, c.loop-test.true) in
    comes c.args.self.now c.args.most c.loop.entries.items o (subst IsTimed c.self.view_is c.know_times.ensures)
    c.requires.short few c.loop.invariant.led
    (chose_none o.machine o.world c.in_ok-entry.field-0 c.in_default.is c.in_ok-entry.ensures.choice)

pub loop-preserved : goal.loop-preserved
loop-preserved c =
    let m = c.args.self.now in
    record {
      same = c.in_ok-entry.ensures.same ∙ c.loop.invariant.same;
      led =
          subst (λ es. IsLed m es c.take.new.self) (sym c.in_ok-push.ensures.items)
          (led m c.loop.entries.items c.in-Some.entry c.loop.outlook c.take.new.self
          c.loop.invariant.led c.in_ok-take.ensures.ok);
      count = grind (arith, c.in_ok-push.ensures.items, c.loop.invariant.count);
    }

pub returns-then-is_end-clause-walked : goal.returns-then-is_end-clause-walked
returns-then-is_end-clause-walked c =
    let few : length c.loop.entries.items ≤ c.args.most
    = omega (arith, c.loop.invariant.count, c.loop.auto.counter-end) in
    comes c.args.self.now c.args.most c.loop.entries.items c.loop.outlook
    (subst IsTimed c.self.view_is c.know_times.ensures) c.requires.short few c.loop.invariant.led (sym c.is_end.ensures ∙ c.if-is_end.true)
