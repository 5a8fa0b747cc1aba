use Rattle.l4_streams.specs.Streams.{HasAppended}
use Rattle.l4_streams.proofs.streams.write_whole.Given as goal

abbrev pub invariant-loop : goal.invariant-loop
invariant-loop g l = HasAppended (g.W.Write.contents l.initial.out) (g.W.Write.contents l.out) l.bytes l.left
