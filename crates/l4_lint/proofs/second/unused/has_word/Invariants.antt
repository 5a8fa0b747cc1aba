use Rattle.std.proofs.Common.{◌≡◌, length}
use Rattle.std.specs.List.{list_any}
use Rattle.std.specs.Str.{bytes_eq}
use Rattle.l4_lint.specs.Second.Unused.{has_word}
use Rattle.l4_lint.proofs.second.unused.has_word.Given as goal

-- The words that are left decide.
abbrev pub invariant-words : goal.invariant-words
invariant-words l = list_any (bytes_eq l.word) l.words ≡ has_word l.word l.line

abbrev pub decreases-words : goal.decreases-words
decreases-words l = length l.words
