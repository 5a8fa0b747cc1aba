use Rattle.std.proofs.Common.{◌≡◌}
use Rattle.std.specs.Prelude.{flat_map}
use Rattle.std.specs.List.{range_with_len}
use Rattle.l4_chart.specs.Charts.{columns_on}
use Rattle.l4_chart.proofs.columns.columns_of.Given as goal

abbrev pub invariant-loop-cpu : goal.invariant-loop-cpu
invariant-loop-cpu l = l.columns.items ≡ flat_map (columns_on l.machine l.window.threads) (range_with_len 0 l.cpu)
