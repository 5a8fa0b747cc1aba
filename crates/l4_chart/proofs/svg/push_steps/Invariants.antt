use Rattle.std.proofs.Common.{◌≡◌, ◌++◌, drop, map}
use Rattle.std.specs.Prelude.{flat_map}
use Rattle.std.specs.List.{enumerate_from}
use Rattle.std.specs.String.{string_bytes}
use Rattle.l4_chart.specs.Charts.{row_of}
use Rattle.l4_chart.specs.Pictures.{row_picture}
use Rattle.l4_chart.proofs.svg.push_steps.Given as goal

-- What stands so far, and the rows to come.
abbrev pub invariant-loop-place : goal.invariant-loop-place
invariant-loop-place l =
    string_bytes l.svg ++ flat_map (row_picture l.scene l.columns) (enumerate_from l.place (map row_of (drop l.place l.rows)))
    ≡ string_bytes l.initial.svg ++ flat_map (row_picture l.scene l.columns) (enumerate_from 0 (map row_of l.rows))
