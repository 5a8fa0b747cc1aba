use Rattle.std.proofs.Common.{◌≡◌, ◌≤◌, drop, length}
use Rattle.l4_lint.specs.Walks.{walk}
use Rattle.l4_lint.specs.Inner.Views.{context_of}
use Rattle.l4_lint.proofs.walks.walk.Given as goal

abbrev pub invariant-loop-operand : goal.invariant-loop-operand
invariant-loop-operand l =
    record {
      whole : walk l.test (context_of l.context) (drop l.operand-index l.operands) l.rest ≡ walk l.test (context_of l.context) l.operands l.words;
      within : length l.rest ≤ length l.words;
    }
