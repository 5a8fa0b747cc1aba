use Rattle.std.proofs.Common.{◌≡◌}
use Rattle.l4_proc.specs.Working.{HasTaken}
use Rattle.l4_proc.proofs.processor.Processor.take_turns.Given as goal

abbrev pub invariant-loop : goal.invariant-loop
invariant-loop g l = HasTaken l.counter l.initial.self l.self × (l.counter ≡ 0 → l.self ≡ l.initial.self)
