use Rattle.std.proofs.Common.{◌≡◌, ◌++◌, drop, None}
use Rattle.l4_chart.specs.Texts.{heads_text}
use Rattle.l4_chart.proofs.text.push_heads.Given as goal

-- What stands so far, and what is to come.
abbrev pub invariant-loop-column : goal.invariant-loop-column
invariant-loop-column l =
    l.out.items ++ heads_text l.glyphs l.width l.before (drop l.column-index l.columns)
    ≡ l.initial.out.items ++ heads_text l.glyphs l.width None l.columns
