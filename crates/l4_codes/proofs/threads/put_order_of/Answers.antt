use Rattle.l4_states.specs.Inner.Codes.{asked_code, global_code, number_code, optional}
use Rattle.l4_model.specs.Steps.{order_kind_code}
use Rattle.l4_model.specs.World.{PendingOrder}
use Rattle.std.proofs.Common.{Option, ap, sym}
use Rattle.l4_codes.proofs.Writing.{last, same_last, then}
use Rattle.l4_codes.proofs.threads.put_order_of.Goals as goal

pub returns-in_ok-put_global-in-Some : goal.returns-in_ok-put_global-in-Some
returns-in_ok-put_global-in-Some c =
    same_last c.put_order_kind.result (λ rest. number_code 1 (global_code c.in-Some.order.target
    (number_code (order_kind_code c.in-Some.order.what) rest))) (optional asked_code c.args.order)
    c.args.code.now c.put_order_kind.new.code (λ rest. ap (λ (o : Option PendingOrder). optional asked_code o
    rest) (sym c.in-Some.is))
    (last c.put_order_kind.result (λ rest. number_code 1 (global_code c.in-Some.order.target rest))
    (number_code (order_kind_code c.in-Some.order.what)) c.args.code.now c.put_global.new.code
    c.put_order_kind.new.code (then (number_code 1) (global_code c.in-Some.order.target) c.args.code.now
    c.put-in-Some.new.self c.put_global.new.code c.in_ok-put-in-Some.ensures (rw c.target.ensures at
    c.in_ok-put_global-in-Some.ensures)) (rw c.what.ensures at c.put_order_kind.ensures))
