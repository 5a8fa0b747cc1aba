use Rattle.std.proofs.Common.{◌≡◌, length}
use Rattle.l4_words.specs.Lines.{parts_of}
use Rattle.l4_script.specs.Second.Texts.{begins_second}
use Rattle.l4_script.proofs.text.second.begins_second.Given as goal

abbrev pub invariant-lines : goal.invariant-lines
invariant-lines l = begins_second (parts_of l.rest) ≡ begins_second (parts_of l.text)

abbrev pub decreases-lines : goal.decreases-lines
decreases-lines l = length l.rest
