use Rattle.std.proofs.Common.{◌-◌}
use Rattle.l4_states.specs.Inner.Codes.{armed_code, number_code}
use Rattle.l4_codes.proofs.Writing.{first_told, then}
use Rattle.l4_codes.proofs.processors.put_armed.Goals as goal

pub loop-deadline-preserved : goal.loop-deadline-preserved
loop-deadline-preserved c =
    first_told (armed_code c.args.clock) c.loop-deadline.deadline-iterator c.next.new.self
    (c.in-Some.deadline, c.in-Some.block) c.args.lists.now.armed c.args.code.now
    c.loop-deadline.code c.put.new.self c.put-in-loop-deadline-2.new.self c.loop-deadline.invariant
    c.in_ok-put.ensures
    (then (number_code (c.in-Some.deadline - c.args.clock)) (number_code c.in-Some.block)
    c.put.new.self c.put-in-loop-deadline.new.self c.put-in-loop-deadline-2.new.self
    (rw c.saturating_sub.ensures at c.in_ok-put-2.ensures) c.in_ok-put-3.ensures)
    c.in-Some.ensures.steps
