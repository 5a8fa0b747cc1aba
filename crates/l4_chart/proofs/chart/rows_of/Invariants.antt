use Rattle.std.proofs.Common.{map, take}
use Rattle.l4_chart.specs.Charts.{row_of, is_in}
use Rattle.l4_chart.proofs.Walking.{Walked}
use Rattle.l4_chart.proofs.chart.rows_of.Given as goal

abbrev pub invariant-loop-place : goal.invariant-loop-place
invariant-loop-place l =
    Walked l.initial.world.machine l.listing l.watched (is_in l.window l.columns) (take l.count l.history.steps) l.place l.world (map row_of l.rows.items)
