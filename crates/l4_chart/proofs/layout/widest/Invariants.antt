use Rattle.std.proofs.Common.{◌≡◌, ◌≤◌, take}
use Rattle.l4_chart.specs.Layouts.{widest}
use Rattle.l4_chart.proofs.layout.widest.Given as goal

abbrev pub invariant-loop-column : goal.invariant-loop-column
invariant-loop-column l = record { longest : l.widest ≡ widest (take l.column-index l.columns); few : l.widest ≤ 81 }
