use Rattle.l4_states.specs.Inner.Codes.{context_code}
use Rattle.l4_codes.specs.Inner.States.{standing_code}
use Rattle.l4_codes.proofs.Writing.{last}
use Rattle.l4_codes.proofs.threads.put_thread.Goals as goal

pub returns : goal.returns
returns c =
    let t = c.args.block.now.thread in
    last c.put_standing.result (context_code t.context) (standing_code t) c.args.code.now
    c.put_context.new.code c.put_standing.new.code
    (rw c.thread.ensures at c.in_ok-put_context.ensures) c.put_standing.ensures
