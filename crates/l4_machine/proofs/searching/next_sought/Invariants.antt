use Rattle.std.proofs.Common.{drop}
use Rattle.l4_proc.specs.Logs.{events}
use Rattle.l4_replay.specs.Inner.Waiting.{sought}
use Rattle.l4_machine.specs.Inner.Waiting.{HasPassed}
use Rattle.l4_machine.proofs.searching.next_sought.Given as goal

abbrev pub invariant-loop-i : goal.invariant-loop-i
invariant-loop-i l = HasPassed (sought l.search) (drop l.from (events l.log)) (drop l.i (events l.log))
