use Rattle.std.proofs.Common.{◌≡◌, ◌+◌, drop}
use Rattle.l4_machine.specs.Inner.Teams.{count_events}
use Rattle.l4_machine.proofs.team.events.Given as goal

abbrev pub invariant-loop-processor : goal.invariant-loop-processor
invariant-loop-processor l = count_events l.processors ≡ l.events + count_events (drop l.processor-index l.processors)
