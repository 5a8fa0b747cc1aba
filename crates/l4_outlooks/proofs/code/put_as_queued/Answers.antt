use Rattle.l4_model.specs.World.{list_at}
use Rattle.l4_states.specs.Inner.Codes.{number_code}
use Rattle.l4_codes.proofs.Writing.{first_told}
use Rattle.l4_outlooks.proofs.code.put_as_queued.Goals as goal

pub loop-sender-preserved : goal.loop-sender-preserved
loop-sender-preserved c =
    first_told number_code c.loop-sender.sender-iterator c.next.new.self c.in-Some.sender
    (list_at c.args.world.now.world.waiting c.args.receiver) c.args.code.now c.loop-sender.code c.put.new.self
    c.put-in-loop-sender.new.self c.loop-sender.invariant c.in_ok-put.ensures c.in_ok-put-2.ensures
    c.in-Some.ensures.steps
