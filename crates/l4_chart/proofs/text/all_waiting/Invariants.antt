use Rattle.std.proofs.Common.{◌≡◌, map, take}
use Rattle.l4_chart.specs.Texts.{standing_waits}
use Rattle.l4_chart.proofs.text.all_waiting.Given as goal

abbrev pub invariant-loop-standing : goal.invariant-loop-standing
invariant-loop-standing l = l.waits.items ≡ map standing_waits (take l.standing-index l.standings)
