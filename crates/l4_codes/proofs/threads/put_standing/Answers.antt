use Rattle.l4_states.specs.Inner.Codes.{asked_code, flag_code, optional, phase_code, send_code}
use Rattle.l4_codes.proofs.Writing.{last, then}
use Rattle.l4_codes.proofs.threads.put_standing.Goals as goal

pub returns : goal.returns
returns c =
    let t = c.args.block.now.thread in
    last c.put_flag-2.result (λ rest. phase_code t.phase (optional send_code t.send (optional
    asked_code t.order (flag_code t.cancel_send rest)))) (flag_code t.cancel_receive)
    c.args.code.now c.put_flag.new.self c.put_flag-2.new.self (then (λ rest. phase_code
    t.phase (optional send_code t.send (optional asked_code t.order rest))) (flag_code
    t.cancel_send) c.args.code.now c.put_order_of.new.code c.put_flag.new.self
    (then (λ rest. phase_code t.phase (optional send_code t.send rest)) (optional
    asked_code t.order) c.args.code.now c.put_send_of.new.code
    c.put_order_of.new.code (then (phase_code t.phase) (optional send_code t.send)
    c.args.code.now c.put_phase.new.code c.put_send_of.new.code c.in_ok-put_phase.ensures
    (rw c.send.ensures at c.in_ok-put_send_of.ensures)) (rw
    c.order.ensures at c.in_ok-put_order_of.ensures)) (rw c.is_send_cancelled.ensures at
    c.in_ok-put_flag.ensures)) (rw c.is_receive_cancelled.ensures at c.put_flag-2.ensures)
