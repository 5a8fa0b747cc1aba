use Rattle.std.proofs.Common.{◌≡◌, None, drop}
use Rattle.l4_chart.specs.Diagrams.{ends_from}
use Rattle.l4_chart.proofs.mermaid.ends_of.Given as goal

abbrev pub invariant-loop-column : goal.invariant-loop-column
invariant-loop-column l =
    ends_from l.cpu l.ends (drop l.column-index l.columns) ≡ ends_from l.cpu None l.columns
