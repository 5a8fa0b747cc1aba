use Rattle.std.proofs.Common.{ap, sym, ◌∙◌}
use Rattle.std.specs.Result.{result_err}
use Rattle.l4_model.specs.World.{change}
use Rattle.l4_model.specs.Effects.{obeyed}
use Rattle.l4_audit.specs.Inner.Audited.{with_world}
use Rattle.l4_audit.proofs.Taking.{obeys_on}
use Rattle.l4_audit.proofs.Obeying.{room_to_obey, target_within}
use Rattle.l4_audit.proofs.world.World.obey_order.Goals as goal

pub ask-requires : goal.ask-requires
ask-requires c = target_within c.args.self.now.machine _ _ _ c.in_ok-thread.ensures.order

pub obey-requires : goal.obey-requires
obey-requires c =
    rw (c.ask.ensures, c.place-place.ensures)
    (room_to_obey c.args.self.now c.args.caller _ _ _ c.requires c.in_ok-thread.ensures.thread c.in_ok-thread.ensures.order)

pub returns : goal.returns
returns c =
    let a = c.args.self.now in
    let none = sym c.may_obey.ensures.reason ∙ ap result_err c.in_ok-thread.was in
    obeys_on a c.ask.new.self _ c.args.caller _ _ _ c.in_ok-thread.ensures.thread c.in_ok-thread.ensures.order none c.ask.ensures
    (c.obey.ensures ∙ ap (λ x. with_world c.ask.new.self (change c.ask.new.self.world x obeyed)) c.place-place.ensures)
