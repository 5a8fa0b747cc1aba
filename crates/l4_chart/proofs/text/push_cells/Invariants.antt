use Rattle.std.proofs.Common.{◌≡◌, ◌++◌, drop}
use Rattle.std.specs.List.{enumerate_from}
use Rattle.l4_chart.specs.Texts.{cells_text}
use Rattle.l4_chart.proofs.text.push_cells.Given as goal

-- The cells so far, and those of the columns to come.
abbrev pub invariant-loop-place : goal.invariant-loop-place
invariant-loop-place l =
    l.out.items ++ cells_text l.glyphs l.width l.stroke l.waits (enumerate_from l.place (drop l.place l.columns))
    ≡ l.initial.out.items ++ cells_text l.glyphs l.width l.stroke l.waits (enumerate_from 0 l.columns)
