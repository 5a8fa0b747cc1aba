use Rattle.std.proofs.Common.{◌≡◌, length}
use Rattle.l4_words.specs.Words.{words_in}
use Rattle.l4_lines.specs.Lines.{fits}
use Rattle.l4_lines.proofs.lines.fits_line.Given as goal

-- It is to be seen of the words that are left.
abbrev pub invariant-words : goal.invariant-words
invariant-words l = fits (words_in l.asked) (words_in l.line) ≡ fits l.asked_words l.words

abbrev pub decreases-words : goal.decreases-words
decreases-words l = length l.asked_words
