use Rattle.std.proofs.Common.{◌<◌, sym, ◌∙◌, arith}
use Rattle.l4_script.proofs.Endings.{exponent_here, exponent_later}
use Rattle.l4_script.proofs.text.second.operands.has_time.Goals as goal

pub returns-then-is_exponent : goal.returns-then-is_exponent
returns-then-is_exponent c =
    let within : c.loop-exponent.exponent < 32 = omega arith in
    sym (c.loop-exponent.invariant ∙ exponent_here c.args.ticks c.loop-exponent.exponent within (sym c.is_exponent.ensures ∙ c.if-is_exponent.true))

pub loop-exponent-preserved : goal.loop-exponent-preserved
loop-exponent-preserved c =
    let within : c.loop-exponent.exponent < 32 = omega arith in
    c.loop-exponent.invariant ∙ exponent_later c.args.ticks c.loop-exponent.exponent within (sym c.is_exponent.ensures ∙ c.if-is_exponent.false)
