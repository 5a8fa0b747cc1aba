use Rattle.std.proofs.Common.{◌≡◌, length}
use Rattle.l4_model.specs.Words.{last_register}
use Rattle.l4_expect.specs.Columns.{are_registers}
use Rattle.l4_expect.proofs.columns.are_registers.Given as goal

-- The words that are left decide.
abbrev pub invariant-words : goal.invariant-words
invariant-words l = are_registers last_register l.initial.words ≡ are_registers l.most l.words

abbrev pub decreases-words : goal.decreases-words
decreases-words l = length l.words
