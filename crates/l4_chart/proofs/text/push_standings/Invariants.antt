use Rattle.std.proofs.Common.{◌≡◌, ◌++◌, map, take}
use Rattle.std.specs.Prelude.{flat_map}
use Rattle.l4_chart.specs.Texts.{standing_text, standing_waits}
use Rattle.l4_chart.proofs.text.push_standings.Given as goal

abbrev pub invariant-loop-standing : goal.invariant-loop-standing
invariant-loop-standing l =
    l.out.items ≡ l.initial.out.items ++ flat_map (standing_text l.glyphs l.layout l.chart.columns.items (map standing_waits l.chart.standings.items)) (take l.standing-index l.chart.standings.items)
