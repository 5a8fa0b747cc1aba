use Rattle.std.proofs.Common.{◌≡◌, drop}
use Rattle.l4_words.specs.Words.{words_in}
use Rattle.l4_expect.specs.Columns.{fits_columns}
use Rattle.l4_expect.proofs.columns.fits_columns.Given as goal

-- The words and the columns that are left decide.
abbrev pub invariant-loop-column : goal.invariant-loop-column
invariant-loop-column l =
    fits_columns l.has_registers l.columns (words_in l.asked)
    ≡ fits_columns l.has_registers (drop l.column-index l.columns) l.words
