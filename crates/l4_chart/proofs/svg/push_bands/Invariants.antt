use Rattle.std.proofs.Common.{◌≡◌, ◌++◌, None, drop}
use Rattle.std.specs.String.{string_bytes}
use Rattle.l4_chart.specs.Pictures.{bands}
use Rattle.l4_chart.proofs.svg.push_bands.Given as goal

-- What stands so far, and the bands to come.
abbrev pub invariant-loop-place : goal.invariant-loop-place
invariant-loop-place l =
    string_bytes l.svg ++ bands l.scene l.columns l.before l.place (drop l.place l.columns)
    ≡ string_bytes l.initial.svg ++ bands l.scene l.columns None 0 l.columns
