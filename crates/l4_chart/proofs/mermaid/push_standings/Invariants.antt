use Rattle.std.proofs.Common.{◌≡◌, ◌++◌, take}
use Rattle.std.specs.Prelude.{flat_map}
use Rattle.std.specs.String.{string_bytes}
use Rattle.l4_chart.specs.Diagrams.{standing_line}
use Rattle.l4_chart.proofs.mermaid.push_standings.Given as goal

abbrev pub invariant-loop-standing : goal.invariant-loop-standing
invariant-loop-standing l =
    string_bytes l.out ≡ string_bytes l.initial.out ++ flat_map standing_line (take l.standing-index l.standings)
