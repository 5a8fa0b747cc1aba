use Rattle.std.proofs.Common.{◌≡◌, ◌++◌, drop}
use Rattle.l4_stuck.specs.Stuck.{stuck_of}
use Rattle.l4_questions.specs.Stuck.{stuck_text}
use Rattle.l4_questions.proofs.stuck.stuck_lines.Given as goal

-- With the lines of the threads that are left they are all lines.
abbrev pub invariant-loop-stuck : goal.invariant-loop-stuck
invariant-loop-stuck l =
    l.lines.items ++ stuck_text l.machine (stuck_of (drop l.stuck-index l.found.threads.items))
    ≡ stuck_text l.machine (stuck_of l.found.threads.items)
