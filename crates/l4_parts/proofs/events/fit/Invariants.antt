use Rattle.std.proofs.Common.{take}
use Rattle.l4_parts.specs.Inner.Known.{Fit}
use Rattle.l4_parts.proofs.events.fit.Given as goal

-- Those before the next one fit.
abbrev pub invariant-loop-write : goal.invariant-loop-write
invariant-loop-write l = Fit (take l.write-index l.writes) l.row
