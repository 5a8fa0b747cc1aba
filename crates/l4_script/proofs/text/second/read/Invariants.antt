use Rattle.std.proofs.Common.{◌≡◌, ◌+◌, ◌≤◌, length}
use Rattle.l4_words.specs.Lines.{parts_of}
use Rattle.l4_script.specs.Inner.Second.{stage_of}
use Rattle.l4_script.specs.Second.Texts.{Start, read}
use Rattle.l4_script.proofs.text.second.read.Given as goal

abbrev pub invariant-lines : goal.invariant-lines
invariant-lines l =
    record {
      whole : read (parts_of l.rest) (stage_of l.stage) l.number ≡ read (parts_of l.text) Start 1;
      counted : l.number + length l.rest ≤ 1 + length l.text;
    }

abbrev pub decreases-lines : goal.decreases-lines
decreases-lines l = length l.rest
