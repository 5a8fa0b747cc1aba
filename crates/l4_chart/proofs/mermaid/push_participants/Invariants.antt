use Rattle.std.proofs.Common.{◌≡◌, ◌++◌, None, drop}
use Rattle.std.specs.String.{string_bytes}
use Rattle.l4_chart.specs.Diagrams.{participants}
use Rattle.l4_chart.proofs.mermaid.push_participants.Given as goal

-- What stands so far, and the threads to come.
abbrev pub invariant-loop-column : goal.invariant-loop-column
invariant-loop-column l =
    string_bytes l.out ++ participants l.before (drop l.column-index l.columns)
    ≡ string_bytes l.initial.out ++ participants None l.columns
