use Rattle.std.proofs.Common.{◌≡◌, flat_map, take}
use Rattle.l4_colours.proofs.outputs.joined.Given as goal

abbrev pub invariant-loop-part : goal.invariant-loop-part
invariant-loop-part l = l.joined.items ≡ flat_map (λ part. part.now) (take l.part-index l.parts)
