use Rattle.std.proofs.Common.{◌≡◌, ◌++◌, drop}
use Rattle.std.specs.String.{string_bytes}
use Rattle.l4_chart.specs.Pictures.{standings_picture}
use Rattle.l4_chart.proofs.svg.push_standings.Given as goal

-- What stands so far, and the threads to come.
abbrev pub invariant-loop-standing : goal.invariant-loop-standing
invariant-loop-standing l =
    string_bytes l.svg ++ standings_picture l.scene l.columns l.place (drop l.standing-index l.standings)
    ≡ string_bytes l.initial.svg ++ standings_picture l.scene l.columns l.first l.standings
