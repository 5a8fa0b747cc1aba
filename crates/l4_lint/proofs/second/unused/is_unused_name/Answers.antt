use Rattle.std.proofs.Common.{sym, ◌∙◌}
use Rattle.l4_lint.proofs.Looking.{used_here, used_later}
use Rattle.l4_lint.proofs.second.unused.is_unused_name.Goals as goal

pub returns-then-has_word : goal.returns-then-has_word
returns-then-has_word c =
    sym
    (used_here c.args.name.now c.in-Some.line.now c.in-Some.others.now c.lines.rest.now c.in-Some.ensures.parts
    (sym c.has_word.ensures ∙ c.if-has_word.true))
    ∙ c.lines.invariant

pub lines-preserved : goal.lines-preserved
lines-preserved c =
    used_later c.args.name.now c.in-Some.line.now c.in-Some.others.now c.lines.rest.now c.in-Some.ensures.parts
    (sym c.has_word.ensures ∙ c.if-has_word.false)
    ∙ c.lines.invariant
