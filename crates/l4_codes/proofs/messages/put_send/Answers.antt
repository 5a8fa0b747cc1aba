use Rattle.l4_states.specs.Inner.Codes.{id_code, message_code, number_code, optional, receive_code}
use Rattle.l4_codes.proofs.Writing.{last, then}
use Rattle.l4_codes.proofs.messages.put_send.Goals as goal

pub returns : goal.returns
returns c =
    let s = c.args.send.now in
    last c.put_receive_of.result
    (λ rest. id_code s.to (message_code s.message (optional number_code s.period rest)))
    (optional receive_code s.receive) c.args.code.now c.put_period.new.code
    c.put_receive_of.new.code
    (then (λ rest. id_code s.to (message_code s.message rest)) (optional number_code s.period)
    c.args.code.now c.put_message.new.code c.put_period.new.code
    (then (id_code s.to) (message_code s.message) c.args.code.now c.put_id.new.code
    c.put_message.new.code (rw c.to.ensures at c.in_ok-put_id.ensures)
    (rw c.message.ensures at c.in_ok-put_message.ensures))
    (rw c.period.ensures.value at c.in_ok-put_period.ensures))
    (rw c.receive.ensures at c.put_receive_of.ensures)
