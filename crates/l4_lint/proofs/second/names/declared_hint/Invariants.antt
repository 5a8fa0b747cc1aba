use Rattle.std.proofs.Common.{◌≡◌, ◌+◌, ◌≤◌, None, length}
use Rattle.l4_lint.specs.Lines.{lines_of}
use Rattle.l4_lint.specs.Second.Names.{declared_hint}
use Rattle.l4_lint.proofs.second.names.declared_hint.Given as goal

-- The lines that are left decide.
abbrev pub invariant-lines : goal.invariant-lines
invariant-lines l = record {
  whole : declared_hint l.word (lines_of l.rest) l.number l.near ≡ declared_hint l.word (lines_of l.text) 1 None;
  counted : l.number + length l.rest ≤ 1 + length l.text;
}

abbrev pub decreases-lines : goal.decreases-lines
decreases-lines l = length l.rest
