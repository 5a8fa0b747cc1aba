use Rattle.l4_rounds.specs.Inner.Replays.{HasGoneOn}
use Rattle.l4_rounds.proofs.Replaying.{ticks_below}
use Rattle.l4_rounds.proofs.replays.Replay.tick_to.Given as goal

abbrev pub invariant-loop-cpu : goal.invariant-loop-cpu
invariant-loop-cpu l = HasGoneOn (ticks_below l.clock l.cpu) l.initial.self l.self
