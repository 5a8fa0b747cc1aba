use Rattle.std.proofs.Common.{◌≤◌, ◌+◌, drop}
use Rattle.l4_proc.specs.Logs.{events}
use Rattle.l4_replay.specs.Inner.Waiting.{count_sought, sought}
use Rattle.l4_machine.specs.Inner.Waiting.{at_end}
use Rattle.l4_machine.specs.Inner.EventsLeft.{left}
use Rattle.l4_machine.proofs.searching.missing_after.Given as goal

abbrev pub invariant-loop-i : goal.invariant-loop-i
invariant-loop-i l =
    l.initial.missing + count_sought (sought l.search) (drop l.i (events l.events))
    ≤ l.missing + count_sought (sought l.search) (at_end l.most (left l.processors l.log))
