use Rattle.std.proofs.Common.{refl, arith}
use Rattle.l4_proc.proofs.Going.{taken_none, taken_more, all_taken, some_taken}
use Rattle.l4_proc.proofs.processor.Processor.take_turns.Goals as goal

pub loop-init : goal.loop-init
loop-init g c = (taken_none c.args.self.now, λ is. refl)

pub loop-preserved : goal.loop-preserved
loop-preserved g c = (
  taken_more c.loop.counter 1 c.args.self.now c.loop.self c.take_turn.new.self c.loop.invariant.1 c.loop.invariant.0 c.in_default.ensures.ok,
  λ is. absurd (omega arith),
)

pub returns-in-Err : goal.returns-in-Err
returns-in-Err g c = some_taken c.args.turns c.loop.counter c.args.self.now c.loop.self c.take_turn.new.self _ (omega arith) c.loop.invariant.0
    c.in-Err.ensures.err c.in-Err.ensures.unused c.in-Err.ensures.stopped c.loop.invariant.1 c.in-Err.ensures.nothing

pub returns : goal.returns
returns g c = all_taken c.args.turns c.loop.counter c.args.self.now c.loop.self (omega arith) c.loop.invariant.0
