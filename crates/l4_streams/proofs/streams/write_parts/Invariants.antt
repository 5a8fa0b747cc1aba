use Rattle.std.specs.Prelude.{flat_map, drop}
use Rattle.l4_streams.specs.Streams.{HasAppended}
use Rattle.l4_streams.proofs.streams.write_parts.Given as goal

abbrev pub invariant-loop-part : goal.invariant-loop-part
invariant-loop-part g l = HasAppended (g.W.Write.contents l.initial.out) (g.W.Write.contents l.out) (flat_map (λ part. part.now) l.parts) (flat_map (λ part. part.now) (drop l.part-index l.parts))
