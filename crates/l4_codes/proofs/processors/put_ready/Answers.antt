use Rattle.l4_states.specs.Inner.Codes.{number_code}
use Rattle.l4_codes.proofs.Writing.{first_told}
use Rattle.l4_codes.proofs.processors.put_ready.Goals as goal

pub loop-block-preserved : goal.loop-block-preserved
loop-block-preserved c =
    first_told number_code c.loop-block.block-iterator c.next.new.self c.in-Some.block
    c.args.lists.now.ready c.args.code.now c.loop-block.code c.put.new.self
    c.put-in-loop-block.new.self c.loop-block.invariant c.in_ok-put.ensures c.in_ok-put-2.ensures
    c.in-Some.ensures.steps
