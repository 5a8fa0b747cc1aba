use Rattle.std.proofs.Common.{◌≡◌, take}
use Rattle.l4_chart.specs.Waiting.{all_waits}
use Rattle.l4_chart.proofs.waiting.all_waits.Given as goal

abbrev pub invariant-loop-column : goal.invariant-loop-column
invariant-loop-column l = l.all.items ≡ all_waits l.world.machine l.world.world (take l.column-index l.columns)
