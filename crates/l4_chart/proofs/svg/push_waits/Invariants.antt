use Rattle.std.proofs.Common.{◌≡◌, ◌++◌, map}
use Rattle.std.specs.String.{string_bytes}
use Rattle.l4_chart.specs.Charts.{row_of}
use Rattle.l4_chart.specs.Pictures.{waits_picture}
use Rattle.l4_chart.proofs.svg.push_waits.Given as goal

abbrev pub invariant-loop-place : goal.invariant-loop-place
invariant-loop-place l =
    string_bytes l.svg ≡ string_bytes l.initial.svg ++ waits_picture l.scene l.place (map row_of l.rows)
