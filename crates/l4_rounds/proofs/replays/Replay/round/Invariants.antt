use Rattle.l4_rounds.specs.Inner.Replays.{HasGoneOn}
use Rattle.l4_rounds.proofs.Replaying.{turns_below}
use Rattle.l4_rounds.proofs.replays.Replay.round.Given as goal

abbrev pub invariant-loop-cpu : goal.invariant-loop-cpu
invariant-loop-cpu l = HasGoneOn (turns_below l.cpu) l.initial.self l.self
