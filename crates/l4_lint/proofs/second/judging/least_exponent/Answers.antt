use Rattle.std.proofs.Common.{◌≡◌, ℕ, ◌-◌, ◌<◌, ap, sym, ◌∙◌, arith}
use Rattle.std.specs.Prelude.{find}
use Rattle.std.specs.List.{range_with_len}
use Rattle.l4_lint.specs.Second.Judging.{is_low}
use Rattle.l4_lint.proofs.Looking.{low_here, low_later}
use Rattle.l4_lint.proofs.second.judging.least_exponent.Goals as goal

pub loop-exponent-preserved : goal.loop-exponent-preserved
loop-exponent-preserved c =
    let within : c.loop-exponent.exponent < 32 = omega arith in
    c.loop-exponent.invariant ∙ low_later c.args.ticks c.loop-exponent.exponent within (sym c.is_low.ensures ∙ c.if-is_low.false)

pub returns-then-is_low-clause-value : goal.returns-then-is_low-clause-value
returns-then-is_low-clause-value c =
    let within : c.loop-exponent.exponent < 32 = omega arith in
    sym (c.loop-exponent.invariant ∙ low_here c.args.ticks c.loop-exponent.exponent within (sym c.is_low.ensures ∙ c.if-is_low.true))

pub returns-clause-value : goal.returns-clause-value
returns-clause-value c =
    let none : 32 - c.loop-exponent.exponent ≡ 0 = omega (arith, c.loop-exponent-test.false) in
    sym (c.loop-exponent.invariant ∙ ap (λ (n : ℕ). find (is_low c.args.ticks) (range_with_len c.loop-exponent.exponent n)) none)
