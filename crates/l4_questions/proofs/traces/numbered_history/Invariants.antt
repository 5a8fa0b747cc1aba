use Rattle.std.proofs.Common.{◌≡◌, ◌++◌, drop}
use Rattle.std.specs.Prelude.{slice_get}
use Rattle.l4_questions.specs.Answers.{asked_traces, numbered, traces_along}
use Rattle.l4_questions.specs.Stuck.{stuck_traces}
use Rattle.l4_questions.proofs.traces.numbered_history.Given as goal
use Rattle.l4_stuck.specs.Stuck.{stuck_of}

-- So many come before it from the next ending on.
abbrev pub invariant-loop-entries : goal.invariant-loop-entries
invariant-loop-entries l =
    numbered l.number
    (asked_traces l.machine l.question (traces_along l.machine l.endings)
    ++ stuck_traces l.machine (stuck_of l.stuck))
    ≡ slice_get
    (asked_traces l.machine l.question (traces_along l.machine (drop l.entries-index l.endings))
    ++ stuck_traces l.machine (stuck_of l.stuck)) l.before
