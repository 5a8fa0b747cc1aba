use Rattle.std.proofs.Common.{take}
use Rattle.l4_all_endings.proofs.Telling.{IsToldTo}
use Rattle.l4_all_endings.proofs.traces.trace_of.Given as goal

-- The entries before the next one were taken, and their history was told.
abbrev pub invariant-loop-entry : goal.invariant-loop-entry
invariant-loop-entry l = IsToldTo l.machine (take l.entry-index l.entries) l.outlook l.telling
