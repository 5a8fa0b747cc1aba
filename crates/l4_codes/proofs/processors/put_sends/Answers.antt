use Rattle.l4_core_model.specs.Plain.{list_of}
use Rattle.l4_states.specs.Inner.Codes.{waiting_code}
use Rattle.l4_codes.proofs.Writing.{first_told}
use Rattle.l4_codes.proofs.processors.put_sends.Goals as goal

pub loop-send-preserved : goal.loop-send-preserved
loop-send-preserved c =
    first_told waiting_code c.loop-send.send-iterator c.next.new.self c.in-Some.send
    (list_of c.args.lists.now c.args.receiver) c.args.code.now c.loop-send.code c.put.new.self
    c.put_send.new.code c.loop-send.invariant c.in_ok-put.ensures c.in_ok-put_send.ensures
    c.in-Some.ensures.steps
