use Rattle.l4_stuck.specs.Stuck.{stuck_of, AreStuckBelow}
use Rattle.l4_stuck.proofs.search.stuck_threads.Given as goal

-- The threads before the next one are known.
abbrev pub invariant-loop-thread : goal.invariant-loop-thread
invariant-loop-thread g l =
    AreStuckBelow l.machine (stuck_of l.threads.items) l.explored.is_whole l.thread
