use Rattle.std.proofs.Common.{length}
use Rattle.l4_states.specs.Inner.Codes.{armed_code, chained, number_code, sized, waiting_code}
use Rattle.l4_codes.proofs.Writing.{last, then}
use Rattle.l4_codes.proofs.processors.put_lists.Goals as goal

pub returns : goal.returns
returns c =
    let n = length c.args.core.now.machine.threads in
    let s = c.args.core.now.local.lists in
    last c.put_armed.result
    (λ rest. sized n (chained waiting_code) s.waiting (chained number_code s.ready rest))
    (chained (armed_code c.args.core.now.local.clock) s.armed) c.args.code.now c.put_ready.new.code c.put_armed.new.code
    (then (sized n (chained waiting_code) s.waiting) (chained number_code s.ready) c.args.code.now
    c.put_waiting.new.code c.put_ready.new.code c.in_ok-put_waiting.ensures
    (rw c.lists.ensures at c.in_ok-put_ready.ensures))
    (rw (c.clock.ensures.value, c.lists-2.ensures) at c.put_armed.ensures)
