use Rattle.std.proofs.Common.{◌≡◌, ◌++◌, drop}
use Rattle.std.specs.Prelude.{flat_map}
use Rattle.std.specs.List.{enumerate_from}
use Rattle.std.specs.String.{string_bytes}
use Rattle.l4_chart.specs.Pictures.{thread_line}
use Rattle.l4_chart.proofs.svg.push_threads.Given as goal

-- What stands so far, and the threads to come.
abbrev pub invariant-loop-place : goal.invariant-loop-place
invariant-loop-place l =
    string_bytes l.svg ++ flat_map (thread_line l.scene) (enumerate_from l.place (drop l.place l.columns))
    ≡ string_bytes l.initial.svg ++ flat_map (thread_line l.scene) (enumerate_from 0 l.columns)
