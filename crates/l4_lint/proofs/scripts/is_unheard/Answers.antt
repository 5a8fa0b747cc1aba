use Rattle.std.proofs.Common.{sym, map, ap, ◌-◌, ◌∙◌, arith}
use Rattle.l4_model.specs.Machine.{Instr}
use Rattle.l4_script.specs.Inner.Scripts.{instr_of}
use Rattle.l4_lint.specs.Scripts.{is_mute, is_unheard}
use Rattle.l4_lint.proofs.Ways.{by_before}
use Rattle.l4_lint.proofs.scripts.is_unheard.Goals as goal

pub back-preserved : goal.back-preserved
back-preserved c =
    let own = c.args.own in
    let script = map instr_of c.args.script.now in
    let before = is_unheard own script (c.back.at - 1) in
    sym
    (by_before own script c.back.at (omega (arith, c.back-test.true)) (sym c.is_led_to.ensures ∙ c.if-is_led_to.false)
    ∙ ap (λ (i : Instr). is_mute own i before) (sym c.instruction_at.ensures)
    ∙ c.in_default.ensures before)
    ∙ c.back.invariant
