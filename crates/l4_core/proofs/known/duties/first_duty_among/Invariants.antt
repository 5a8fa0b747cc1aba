use Rattle.l4_core.specs.Inner.Places.{count}
use Rattle.l4_core.specs.Inner.Covered.{Covers, CoversZeros}
use Rattle.l4_core.proofs.known.duties.first_duty_among.Given as goal

abbrev pub invariant-places : goal.invariant-places
invariant-places l = Covers l.duties l.known.machine l.known.cpu l.known.local × CoversZeros l.zeros l.known.local

abbrev pub decreases-places : goal.decreases-places
decreases-places l = count l.duties 1024
