use Rattle.std.proofs.Common.{◌≡◌, ◌++◌, None, drop, map}
use Rattle.std.specs.String.{string_bytes}
use Rattle.l4_chart.specs.Charts.{row_of}
use Rattle.l4_chart.specs.Pictures.{waits_from}
use Rattle.l4_chart.proofs.svg.push_waits_of.Given as goal

-- The stretches so far, and those of the rows to come.
abbrev pub invariant-loop-at : goal.invariant-loop-at
invariant-loop-at l =
    string_bytes l.svg ++ waits_from l.scene l.place l.since l.at (map row_of (drop l.at l.rows))
    ≡ string_bytes l.initial.svg ++ waits_from l.scene l.place None 0 (map row_of l.rows)
