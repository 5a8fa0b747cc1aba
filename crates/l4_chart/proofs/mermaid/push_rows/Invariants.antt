use Rattle.std.proofs.Common.{◌≡◌, ◌++◌, map, take}
use Rattle.std.specs.Prelude.{flat_map}
use Rattle.std.specs.String.{string_bytes}
use Rattle.l4_chart.specs.Charts.{row_of}
use Rattle.l4_chart.specs.Diagrams.{row_line}
use Rattle.l4_chart.proofs.mermaid.push_rows.Given as goal

abbrev pub invariant-loop-row : goal.invariant-loop-row
invariant-loop-row l =
    string_bytes l.out ≡ string_bytes l.initial.out ++ flat_map (row_line l.columns) (map row_of (take l.row-index l.rows))
