use Rattle.std.proofs.Common.{◌≡◌, take}
use Rattle.std.specs.Prelude.{filter_map}
use Rattle.l4_chart.specs.Standings.{standing_in}
use Rattle.l4_chart.proofs.standings.standings_in.Given as goal

abbrev pub invariant-loop-column : goal.invariant-loop-column
invariant-loop-column l =
    l.standings.items ≡ filter_map (standing_in l.world.machine l.listing l.world.world) (take l.column-index l.columns)
