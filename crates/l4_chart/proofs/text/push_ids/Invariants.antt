use Rattle.std.proofs.Common.{◌≡◌, ◌++◌, take}
use Rattle.l4_chart.specs.Texts.{ids_text}
use Rattle.l4_chart.proofs.text.push_ids.Given as goal

abbrev pub invariant-loop-column : goal.invariant-loop-column
invariant-loop-column l = l.out.items ≡ l.initial.out.items ++ ids_text l.width (take l.column-index l.columns)
