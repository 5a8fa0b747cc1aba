use Rattle.std.proofs.Common.{sym, ◌∙◌}
use Rattle.l4_words.specs.Words.{words_in}
use Rattle.l4_json.specs.Rows.{fits, plain_row}
use Rattle.l4_json.specs.Inner.Views.{row_view}
use Rattle.l4_json.proofs.Fitting.{found_here, not_here}
use Rattle.l4_json.proofs.rows.first_of.Goals as goal

pub returns-then-fits : goal.returns-then-fits
returns-then-fits c = found_here (λ row. fits row.parts (words_in c.args.line.now)) row_view c.args.rows.now _ _ plain_row c.loop-row.invariant c.loop-row-test.true (sym c.fits.ensures ∙ c.if-fits.true)

pub loop-row-preserved : goal.loop-row-preserved
loop-row-preserved c = not_here (λ row. fits row.parts (words_in c.args.line.now)) row_view c.args.rows.now _ _ c.loop-row.invariant c.loop-row-test.true (sym c.fits.ensures ∙ c.if-fits.false)
