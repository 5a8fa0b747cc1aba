use Rattle.std.proofs.Common.{◌≡◌, map}
use Rattle.std.specs.List.{range_with_len}
use Rattle.l4_types.specs.ReportView.{report_of_view}
use Rattle.l4_refines.specs.Laws.{home_report}
use Rattle.l4_replay.specs.Inner.Homes.{locals_of}
use Rattle.l4_replay.proofs.homes.threads.Given as goal

abbrev pub invariant-loop-place : goal.invariant-loop-place
invariant-loop-place l =
    map report_of_view l.views.items ≡ map (home_report l.machine (locals_of (map (λ c. c.now) l.cores))) (range_with_len 0 l.place)
