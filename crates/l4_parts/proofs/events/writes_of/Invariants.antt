use Rattle.l4_parts.specs.Inner.Known.{AreWrites}
use Rattle.l4_parts.proofs.events.writes_of.Given as goal

-- The places before the next one were looked at.
abbrev pub invariant-loop-place : goal.invariant-loop-place
invariant-loop-place l = AreWrites l.old l.new l.place l.writes.items
