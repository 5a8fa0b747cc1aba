use Rattle.std.proofs.Common.{◌≡◌, ◌++◌, replicate}
use Rattle.l4_chart.proofs.ink.push_spaces.Given as goal

abbrev pub invariant-loop-done : goal.invariant-loop-done
invariant-loop-done l = l.out.items ≡ l.initial.out.items ++ replicate l._done 32
