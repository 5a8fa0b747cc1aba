use Rattle.std.proofs.Common.{◌≡◌, Bool, true, Some, cond, ap, sym, ◌∙◌}
use Rattle.std.specs.Prelude.{find}
use Rattle.l4_lines.specs.Lines.{lines_of}
use Rattle.l4_lines.proofs.Fitting.{first_line}
use Rattle.l4_expect.specs.Unmet.{is_beside}
use Rattle.l4_expect.specs.Inner.Views.{expected_of}
use Rattle.l4_expect.proofs.unmet.found_beside.Goals as goal

pub returns-then-is_beside : goal.returns-then-is_beside
returns-then-is_beside c =
    let e = expected_of c.args.expected.now in
    let line = c.in-Some.line.now in
    let rest = c.in-Some.rest.now in
    let is : is_beside e line ≡ true = sym c.is_beside.ensures ∙ c.if-is_beside.true in
    sym (c.lines.invariant
    ∙ ap (find (is_beside e)) (first_line line rest c.lines.left.now c.in-Some.ensures.parts)
    ∙ ap (λ (b : Bool). cond b (Some line) (find (is_beside e) (lines_of rest))) is)
