use Rattle.std.proofs.Common.{◌-◌, length, ap, subst, sym, ◌∙◌}
use Rattle.std.specs.Option.{option_copied}
use Rattle.l4_outlooks.specs.Inner.Foreseen.{opens}
use Rattle.l4_all_endings.specs.Inner.Way.{AreStops, IsOnWay}
use Rattle.l4_all_endings.proofs.Stopping.{opens_here, stop_at, stops_before, stops_here}
use Rattle.l4_all_endings.proofs.way.Way.nearest.Goals as goal

pub returns-then-is_on_way-clause-on_way : goal.returns-then-is_on_way-clause-on_way
returns-then-is_on_way-clause-on_way c =
    let m = c.args.self.now in
    let stop = c.in-Some.stop.now in
    let stops = c.deref.result.now in
    let are = subst (AreStops m) (sym c.deref.ensures.value) c.loop-stop.invariant.stops in
    let same = stop_at m stops (length stops - 1) stop are
    (sym c.last.ensures.value ∙ ap option_copied c.in-Some.is) in
    subst (IsOnWay m c.args.entries.now c.in_ok-outlook.field-0) (sym c.len.ensures)
    (stops_here m c.args.entries.now stop c.in_ok-outlook.field-0 same
    (c.is_on_way.ensures.inside c.if-is_on_way.true)
    (c.is_on_way.ensures.first c.if-is_on_way.true) c.in_ok-outlook.ensures)

pub loop-stop-preserved : goal.loop-stop-preserved
loop-stop-preserved c = record {
  same = c.loop-stop.invariant.same;
  stops = subst (AreStops c.args.self.now) (sym c.pop.ensures.rest)
      (stops_before c.args.self.now c.loop-stop.self-inside.stops.items _
      c.loop-stop.invariant.stops);
}

pub returns-clause-on_way : goal.returns-clause-on_way
returns-clause-on_way c = opens_here c.args.self.now c.args.entries.now c.in_ok-new.field-0
    (c.in_ok-new.ensures ∙ ap opens c.loop-stop.invariant.same)
