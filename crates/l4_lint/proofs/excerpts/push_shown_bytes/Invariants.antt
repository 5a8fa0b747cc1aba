use Rattle.std.proofs.Common.{◌≡◌, ◌++◌, take, map}
use Rattle.l4_lint.specs.Excerpts.{shown_byte}
use Rattle.l4_lint.proofs.excerpts.push_shown_bytes.Given as goal

abbrev pub invariant-loop-byte : goal.invariant-loop-byte
invariant-loop-byte l = l.out.items ≡ l.initial.out.items ++ map shown_byte (take l.byte-index l.line)
