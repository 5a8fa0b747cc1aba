use Rattle.std.proofs.Common.{◌≡◌, ◌+◌, drop, true}
use Rattle.l4_lint.specs.Bytes.{clear}
use Rattle.l4_lint.proofs.bytes.clear.Given as goal

abbrev pub invariant-loop-index : goal.invariant-loop-index
invariant-loop-index l = l.index + clear l.spaced (drop l.index l.line) ≡ clear true l.line
