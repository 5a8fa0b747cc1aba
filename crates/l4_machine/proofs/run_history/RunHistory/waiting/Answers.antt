use Rattle.std.proofs.Common.{subst}
use Rattle.l4_machine.specs.Outcomes.{steps_of}
use Rattle.l4_replay.specs.Inner.Waiting.{AreBegunOnce}
use Rattle.l4_machine.specs.declared.run_history.RunHistory.{RunHistory}
use Rattle.l4_machine.proofs.run_history.RunHistory.waiting.Goals as goal

pub of_history-requires-clause-once : goal.of_history-requires-clause-once
of_history-requires-clause-once c = subst (λ (history : RunHistory). AreBegunOnce (steps_of history)) c.in-Steps.is c.requires.once

pub waiting-requires-clause-once : goal.waiting-requires-clause-once
waiting-requires-clause-once c = subst (λ (history : RunHistory). AreBegunOnce (steps_of history)) c.in-Logs.is c.requires.once
