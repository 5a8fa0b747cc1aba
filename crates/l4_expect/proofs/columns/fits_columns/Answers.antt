use Rattle.std.proofs.Common.{◌≡◌, ap, drop, refl, sym, ◌∙◌, true, ◌∷◌}
use Rattle.l4_lines.specs.Lines.{is_rest}
use Rattle.l4_expect.specs.Columns.{fits_columns}
use Rattle.l4_expect.proofs.Walking.{no_word_left, rest_left}
use Rattle.l4_expect.proofs.columns.fits_columns.Goals as goal

pub returns-in_default : goal.returns-in_default
returns-in_default c =
    let l = c.loop-column in
    let has = c.args.has_registers in
    let columns = c.args.columns.now in
    sym (l.invariant
    ∙ ap (fits_columns has (drop l.column-index columns)) c.in_default.ensures.0
    ∙ no_word_left has columns l.column-index c.loop-column-test.true)

pub returns-then-is_done : goal.returns-then-is_done
returns-then-is_done c =
    let l = c.loop-column in
    let has = c.args.has_registers in
    let columns = c.args.columns.now in
    let word = c.in-Some.word.now in
    let is : is_rest word ≡ true = sym c.is_rest.ensures ∙ c.if-is_rest.true in
    sym (l.invariant
    ∙ ap (fits_columns has (drop l.column-index columns)) (c.in-Some.ensures ∙ ap (λ left. word ∷ left) (c.if-is_done.ensures.done refl))
    ∙ rest_left has columns l.column-index word c.loop-column-test.true is)
