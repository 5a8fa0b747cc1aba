use Rattle.std.proofs.Common.{◌≡◌, ◌++◌, take}
use Rattle.std.specs.Prelude.{filter_map}
use Rattle.l4_chart.specs.Charts.{column_on}
use Rattle.l4_chart.proofs.columns.push_columns.Given as goal

abbrev pub invariant-loop-declared : goal.invariant-loop-declared
invariant-loop-declared l =
    l.columns.items ≡ l.initial.columns.items ++ filter_map (column_on l.window.threads l.cpu) (take l.declared-index l.declared-items)
