use Rattle.std.proofs.Common.{◌≡◌, ◌+◌, ◌≤◌, length}
use Rattle.l4_words.specs.Lines.{parts_of}
use Rattle.l4_expect.specs.Expected.{expectations_of, read}
use Rattle.l4_expect.proofs.expectations.Expectations.parse.Given as goal

-- What was read so far, with the lines that are left, is the whole text.
abbrev pub invariant-lines : goal.invariant-lines
invariant-lines l = record {
  whole : read l.scope (parts_of l.left) (l.before + 1) l.expected ≡ expectations_of l.scope l.text;
  within : l.before + length l.left ≤ length l.text;
}

abbrev pub decreases-lines : goal.decreases-lines
decreases-lines l = length l.left
