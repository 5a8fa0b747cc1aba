use Rattle.std.proofs.Common.{◌≡◌, ◌++◌}
use Rattle.std.specs.Char.{encode_utf8}
use Rattle.std.specs.List.{repeat}
use Rattle.l4_chart.proofs.ink.push_chars.Given as goal

abbrev pub invariant-loop-done : goal.invariant-loop-done
invariant-loop-done l = l.out.items ≡ l.initial.out.items ++ repeat l._done (encode_utf8 l.character)
