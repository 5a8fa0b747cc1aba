use Rattle.std.proofs.Common.{ap, sym, ◌∙◌}
use Rattle.std.specs.Result.{result_err}
use Rattle.l4_audit.proofs.Taking.{ticks_on}
use Rattle.l4_audit.proofs.Taking.{clock_within}
use Rattle.l4_audit.proofs.world.World.tick.Goals as goal

pub set_clock-requires : goal.set_clock-requires
set_clock-requires c =
    let a = c.args.self.now in
    clock_within a.machine a.world c.args.tick.cpu c.args.tick.clock (sym c.may_tick.ensures.reason ∙ ap result_err c.in_ok-may_tick.was)

pub returns : goal.returns
returns c =
    let a = c.args.self.now in
    let none = sym c.may_tick.ensures.reason ∙ ap result_err c.in_ok-may_tick.was in
    ticks_on a _ c.args.tick.cpu c.args.tick.clock none c.set_clock.ensures
