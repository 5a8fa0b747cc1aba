use Rattle.std.proofs.Common.{codes, rules}
use Rattle.l4_model.specs.Steps.{Local, Begin, Queue, Wait, SendTimeout, ReceiveTimeout, SendNobody, ReceiveNobody, SendCancel, ReceiveCancel, Drop, Order, Obey, Tick, Retarget}
use Rattle.l4_types.specs.StepView.{seen, order_kind_of}
use Rattle.l4_trace.specs.Reading.{step_behind}
use Rattle.l4_trace.proofs.KeywordRows.{by_row, other_line, is_made, as_found}
use Rattle.l4_trace.proofs.steps.other_step.Goals as goal

pub returns-in-Some : goal.returns-in-Some
unfolding step_behind
returns-in-Some c = rw (by_row c.args.line.now (codes "local") c.in-Some.operands c.in-Some.ensures) (is_made seen Local _ _ _ _ (as_found Local _ _ c.made.ensures.1) (λ x y p. search rules) c.made.ensures.2)

pub returns-in-Some-behind : goal.returns-in-Some-behind
unfolding step_behind
returns-in-Some-behind c = rw (by_row c.args.line.now (codes "begin") c.in-Some-behind.operands c.in-Some-behind.ensures) (is_made seen Begin _ _ _ _ (as_found Begin _ _ c.made-in-Some-behind.ensures.1) (λ x y p. search rules) c.made-in-Some-behind.ensures.2)

pub returns-in-Some-behind-2 : goal.returns-in-Some-behind-2
unfolding step_behind
returns-in-Some-behind-2 c = rw (by_row c.args.line.now (codes "queue") c.in-Some-behind-2.operands c.in-Some-behind-2.ensures) (is_made seen Queue _ _ _ _ (as_found Queue _ _ c.made-in-Some-behind-2.ensures.1) (λ x y p. search rules) c.made-in-Some-behind-2.ensures.2)

pub returns-in-Some-behind-3 : goal.returns-in-Some-behind-3
unfolding step_behind
returns-in-Some-behind-3 c = rw (by_row c.args.line.now (codes "wait") c.in-Some-behind-3.operands c.in-Some-behind-3.ensures) (is_made seen Wait _ _ _ _ (as_found Wait _ _ c.made-in-Some-behind-3.ensures.1) (λ x y p. search rules) c.made-in-Some-behind-3.ensures.2)

pub returns-in-Some-behind-4 : goal.returns-in-Some-behind-4
unfolding step_behind
returns-in-Some-behind-4 c = rw (by_row c.args.line.now (codes "stimeout") c.in-Some-behind-4.operands c.in-Some-behind-4.ensures) (is_made seen SendTimeout _ _ _ _ (as_found SendTimeout _ _ c.made-in-Some-behind-4.ensures.1) (λ x y p. search rules) c.made-in-Some-behind-4.ensures.2)

pub returns-in-Some-behind-5 : goal.returns-in-Some-behind-5
unfolding step_behind
returns-in-Some-behind-5 c = rw (by_row c.args.line.now (codes "rtimeout") c.in-Some-behind-5.operands c.in-Some-behind-5.ensures) (is_made seen ReceiveTimeout _ _ _ _ (as_found ReceiveTimeout _ _ c.made-in-Some-behind-5.ensures.1) (λ x y p. search rules) c.made-in-Some-behind-5.ensures.2)

pub returns-in-Some-behind-6 : goal.returns-in-Some-behind-6
unfolding step_behind
returns-in-Some-behind-6 c = rw (by_row c.args.line.now (codes "snobody") c.in-Some-behind-6.operands c.in-Some-behind-6.ensures) (is_made seen SendNobody _ _ _ _ (as_found SendNobody _ _ c.made-in-Some-behind-6.ensures.1) (λ x y p. search rules) c.made-in-Some-behind-6.ensures.2)

pub returns-in-Some-behind-7 : goal.returns-in-Some-behind-7
unfolding step_behind
returns-in-Some-behind-7 c = rw (by_row c.args.line.now (codes "rnobody") c.in-Some-behind-7.operands c.in-Some-behind-7.ensures) (is_made seen ReceiveNobody _ _ _ _ (as_found ReceiveNobody _ _ c.made-in-Some-behind-7.ensures.1) (λ x y p. search rules) c.made-in-Some-behind-7.ensures.2)

pub returns-in-Some-behind-8 : goal.returns-in-Some-behind-8
unfolding step_behind
returns-in-Some-behind-8 c = rw (by_row c.args.line.now (codes "scancel") c.in-Some-behind-8.operands c.in-Some-behind-8.ensures) (is_made seen SendCancel _ _ _ _ (as_found SendCancel _ _ c.made-in-Some-behind-8.ensures.1) (λ x y p. search rules) c.made-in-Some-behind-8.ensures.2)

pub returns-in-Some-behind-9 : goal.returns-in-Some-behind-9
unfolding step_behind
returns-in-Some-behind-9 c = rw (by_row c.args.line.now (codes "rcancel") c.in-Some-behind-9.operands c.in-Some-behind-9.ensures) (is_made seen ReceiveCancel _ _ _ _ (as_found ReceiveCancel _ _ c.made-in-Some-behind-9.ensures.1) (λ x y p. search rules) c.made-in-Some-behind-9.ensures.2)

pub returns-in-Some-behind-10 : goal.returns-in-Some-behind-10
unfolding step_behind
returns-in-Some-behind-10 c = rw (by_row c.args.line.now (codes "drop") c.in-Some-behind-10.operands c.in-Some-behind-10.ensures) (is_made seen Drop _ _ _ _ (as_found Drop _ _ c.made-in-Some-behind-10.ensures.1) (λ x y p. search rules) c.made-in-Some-behind-10.ensures.2)

pub returns-in-Some-behind-11 : goal.returns-in-Some-behind-11
unfolding step_behind
returns-in-Some-behind-11 c = rw (by_row c.args.line.now (codes "order") c.in-Some-behind-11.operands c.in-Some-behind-11.ensures) (is_made seen (λ order. Order order.0 order.1 (order_kind_of order.2)) _ _ _ _ c.made-in-Some-behind-11.ensures.1 (λ x y p. search rules) c.made-in-Some-behind-11.ensures.2)

pub returns-in-Some-behind-12 : goal.returns-in-Some-behind-12
unfolding step_behind
returns-in-Some-behind-12 c = rw (by_row c.args.line.now (codes "obey") c.in-Some-behind-12.operands c.in-Some-behind-12.ensures) (is_made seen Obey _ _ _ _ (as_found Obey _ _ c.made-in-Some-behind-12.ensures.1) (λ x y p. search rules) c.made-in-Some-behind-12.ensures.2)

pub returns-in-Some-behind-13 : goal.returns-in-Some-behind-13
unfolding step_behind
returns-in-Some-behind-13 c = rw (by_row c.args.line.now (codes "tick") c.in-Some-behind-13.operands c.in-Some-behind-13.ensures) (is_made seen (λ tick. Tick tick.cpu tick.clock) _ _ _ _ c.made-in-Some-behind-13.ensures.1 (λ x y p. search rules) c.made-in-Some-behind-13.ensures.2)

pub returns-in-Some-behind-14 : goal.returns-in-Some-behind-14
unfolding step_behind
returns-in-Some-behind-14 c = rw (by_row c.args.line.now (codes "retarget") c.in-Some-behind-14.operands c.in-Some-behind-14.ensures) (is_made seen Retarget _ _ _ _ (as_found Retarget _ _ c.made-in-Some-behind-14.ensures.1) (λ x y p. search rules) c.made-in-Some-behind-14.ensures.2)

pub returns : goal.returns
returns c =
    other_line c.args.line.now c.in_default.ensures c.in_default-behind.ensures c.in_default-behind-2.ensures c.requires c.in_default-behind-3.ensures c.in_default-behind-4.ensures
    c.in_default-behind-5.ensures c.in_default-behind-6.ensures c.in_default-behind-7.ensures c.in_default-behind-8.ensures c.in_default-behind-9.ensures c.in_default-behind-10.ensures
    c.in_default-behind-11.ensures c.in_default-behind-12.ensures c.in_default-behind-13.ensures c.in_default-behind-14.ensures
