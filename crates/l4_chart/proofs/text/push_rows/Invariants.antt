use Rattle.std.proofs.Common.{◌≡◌, ◌++◌, map, take}
use Rattle.std.specs.Prelude.{flat_map}
use Rattle.l4_chart.specs.Charts.{row_of}
use Rattle.l4_chart.specs.Texts.{row_text}
use Rattle.l4_chart.proofs.text.push_rows.Given as goal

abbrev pub invariant-loop-row : goal.invariant-loop-row
invariant-loop-row l =
    l.out.items ≡ l.initial.out.items ++ flat_map (row_text l.glyphs l.layout l.chart.columns.items) (map row_of (take l.row-index l.chart.rows.items))
