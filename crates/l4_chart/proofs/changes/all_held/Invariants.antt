use Rattle.std.proofs.Common.{◌≡◌, take}
use Rattle.l4_chart.specs.Changes.{all_held}
use Rattle.l4_chart.proofs.changes.all_held.Given as goal

abbrev pub invariant-loop-column : goal.invariant-loop-column
invariant-loop-column l = l.all.items ≡ all_held l.world.machine l.world.world (take l.column-index l.columns)
