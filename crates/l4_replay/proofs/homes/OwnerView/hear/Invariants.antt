use Rattle.l4_replay.proofs.Hearing.{HearsOn}
use Rattle.l4_replay.proofs.homes.OwnerView.hear.Given as goal

abbrev pub invariant-loop-letter : goal.invariant-loop-letter
invariant-loop-letter l = HearsOn l.machine l.core l.fn.letters l.letter-iterator l.fn.self l.self
