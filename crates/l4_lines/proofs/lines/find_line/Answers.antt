use Rattle.std.proofs.Common.{◌≡◌, Bool, true, Some, cond, ap, sym, ◌∙◌}
use Rattle.std.specs.Prelude.{find}
use Rattle.l4_lines.specs.Lines.{fits_line, lines_of}
use Rattle.l4_lines.proofs.Fitting.{first_line}
use Rattle.l4_lines.proofs.lines.find_line.Goals as goal

pub returns-then-fits_line : goal.returns-then-fits_line
returns-then-fits_line c =
    let asked = c.args.asked.now in
    let line = c.in-Some.line.now in
    let rest = c.in-Some.rest.now in
    let fits : fits_line asked line ≡ true = sym c.fits_line.ensures ∙ c.if-fits_line.true in
    sym (c.lines.invariant
    ∙ ap (find (fits_line asked)) (first_line line rest c.lines.left.now c.in-Some.ensures.parts)
    ∙ ap (λ (b : Bool). cond b (Some line) (find (fits_line asked) (lines_of rest))) fits)
