use Rattle.std.proofs.Common.{take}
use Rattle.l4_parts.specs.Inner.Known.{AreKnown, IsRowBehind}
use Rattle.l4_parts.specs.Inner.Numbers.{AreLonger}
use Rattle.l4_endings.proofs.learning.row_behind.Given as goal

-- The row is that of the state behind the choices before the next one.
abbrev pub invariant-loop-place : goal.invariant-loop-place
invariant-loop-place l = record {
  longer : AreLonger l.fn.parts.parts.items l.parts.parts.items;
  known : AreKnown l.aims l.parts.parts.items l.events.events.items;
  behind : IsRowBehind l.aims (take l.place l.schedule) l.parts.parts.items l.row.items;
}
