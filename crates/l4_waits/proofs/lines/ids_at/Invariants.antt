use Rattle.std.proofs.Common.{◌≡◌, map, take}
use Rattle.l4_waits.specs.Lines.{id_at}
use Rattle.l4_waits.proofs.lines.ids_at.Given as goal

abbrev pub invariant-loop-place : goal.invariant-loop-place
invariant-loop-place l = l.ids.items ≡ map (id_at l.waits) (take l.place-index l.places)
