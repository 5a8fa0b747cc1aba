use Rattle.std.proofs.Common.{ap, sym, ◌∙◌}
use Rattle.std.specs.Result.{result_err}
use Rattle.l4_model.specs.World.{change}
use Rattle.l4_model.specs.Effects.{orders}
use Rattle.l4_types.specs.StepView.{order_kind_of}
use Rattle.l4_audit.specs.Inner.Audited.{with_world}
use Rattle.l4_audit.proofs.Taking.{orders_on}
use Rattle.l4_audit.proofs.Places.{found_within}
use Rattle.l4_audit.proofs.world.World.order.Goals as goal

pub give_order-requires : goal.give_order-requires
give_order-requires c = rw c.place-place.ensures (found_within c.args.self.now.machine c.args.self.now.world c.args.caller _ c.in_ok-thread.ensures.thread)

pub returns : goal.returns
returns c =
    let a = c.args.self.now in
    let none = sym c.may_order.ensures.reason ∙ ap result_err c.in_ok-thread.was in
    orders_on a _ c.args.caller c.args.target (order_kind_of c.args.what) _ _ c.in_ok-thread.ensures.thread c.in_ok-thread.ensures.order none
    (c.give_order.ensures ∙ ap (λ x. with_world a (change a.world x (orders c.in_ok-thread.order))) c.place-place.ensures)
