use Rattle.std.proofs.Common.{◌+◌, ◌∙◌, Option, ℕ, ap, sym, arith}
use Rattle.l4_lint.specs.Lines.{lines_of}
use Rattle.l4_lint.specs.Second.Names.{declared_hint}
use Rattle.l4_lint.proofs.Looking.{declares, declares_none, declares_other}
use Rattle.l4_lint.proofs.second.names.declared_hint.Goals as goal
use Rattle.l4_lint.proofs.second.names.declared_hint.Goals.{in-Some-declared_by+else-eq, in_default-declared_by}

pub returns-then-eq : goal.returns-then-eq
returns-then-eq c =
    declares c.args.word.now c.in-Some.line.now c.in-Some.others.now c.lines.rest.now c.lines.number c.lines.near c.in-Some.ensures.parts c.in-Some-declared_by.name.now
    (sym c.in-Some-declared_by.ensures) (sym c.eq.ensures ∙ c.if-eq.true)
    ∙ c.lines.invariant.whole

pub lines-preserved : goal.lines-preserved
lines-preserved c =
    let word = c.args.word.now in
    let line = c.in-Some.line.now in
    let rest = c.in-Some.others.now in
    let behind : Option ℕ → _ = λ near. declared_hint word (lines_of rest) (c.lines.number + 1) near in
    record {
      whole =
          elim c.match-declared_by.branch [
            | in-Some-declared_by+else-eq w ↦
                ap behind (w.near-is ∙ w.first_near-near.ensures)
                ∙ declares_other word line rest c.lines.rest.now c.lines.number c.lines.near c.in-Some.ensures.parts w.in-Some-declared_by.name.now
                (sym w.in-Some-declared_by.ensures) (sym w.eq.ensures ∙ w.if-eq.false)
                ∙ c.lines.invariant.whole
            | in_default-declared_by w ↦
                ap behind w.near-is
                ∙ declares_none word line rest c.lines.rest.now c.lines.number c.lines.near c.in-Some.ensures.parts (sym w.in_default-declared_by.ensures)
                ∙ c.lines.invariant.whole
          ];
      counted = omega (arith, c.lines.invariant.counted, c.in-Some.ensures.sizes);
    }
