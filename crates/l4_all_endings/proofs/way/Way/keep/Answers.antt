use Rattle.std.proofs.Common.{subst, sym, ◌∙◌}
use Rattle.l4_all_endings.specs.Inner.Way.{AreStops}
use Rattle.l4_all_endings.proofs.Stopping.{stops_before, stops_more}
use Rattle.l4_all_endings.proofs.way.Way.keep.Goals as goal

pub invariant_of-self-2 : goal.invariant_of-self-2
invariant_of-self-2 c =
    let m = c.self.inside.machine.now in
    subst (AreStops m) (sym c.push_reserved.ensures.items)
    (stops_more m c.truncate.new.self.items c.in_ok-stop.stop
    (subst (AreStops m) (sym c.truncate.ensures.items)
    (stops_before m c.reserve.new.self.items _
    (subst (AreStops m) (sym c.reserve.ensures.items) c.self.invariant)))
    (c.in_ok-stop.ensures ∙ c.requires.led.machine ∙ sym c.self.view_is))
