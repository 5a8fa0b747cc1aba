use Rattle.std.proofs.Common.{◌≡◌, ◌++◌, replicate}
use Rattle.l4_lint.proofs.excerpts.push_times.Given as goal

abbrev pub invariant-loop-done : goal.invariant-loop-done
invariant-loop-done l = l.out.items ≡ l.initial.out.items ++ replicate l._done l.byte
