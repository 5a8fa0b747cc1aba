use Rattle.std.proofs.Common.{◌≡◌, ◌∷◌, length}
use Rattle.l4_words.specs.Words.{words_in}
use Rattle.l4_expect.specs.Judging.{has_early_rest}
use Rattle.l4_expect.proofs.judging.has_early_rest.Given as goal

-- This word and those behind it decide.
abbrev pub invariant-words : goal.invariant-words
invariant-words l = has_early_rest (words_in l.asked) ≡ has_early_rest (l.word ∷ l.words)

abbrev pub decreases-words : goal.decreases-words
decreases-words l = length l.words
