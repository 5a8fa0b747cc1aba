use Rattle.std.proofs.Common.{◌≡◌, drop, map}
use Rattle.l4_condition_lines.specs.Inner.Reading.{columns_read}
use Rattle.l4_always.specs.Inner.Parts.{part_of}
use Rattle.l4_always.proofs.reading.columns_read.Given as goal

-- The words and the columns that are left decide.
abbrev pub invariant-loop-column : goal.invariant-loop-column
invariant-loop-column l =
    columns_read l.initial.asked (map part_of l.columns) (part_of l.part)
    ≡ columns_read l.asked (map part_of (drop l.column-index l.columns)) (part_of l.part)
