use Rattle.std.proofs.Common.{◌∙◌}
use Rattle.std.proofs.lemmas.Result.{on_ok_weaker}
use Rattle.l4_types.specs.StepView.{seen}
use Rattle.l4_json.proofs.Going.{step_told}
use Rattle.l4_json.proofs.steps.push_step.Goals as goal

pub returns-clause-told : goal.returns-clause-told
returns-clause-told c =
    on_ok_weaker c.push_both.result
    (step_told c.args.world.now c.take.new.world c.args.lines.now (seen c.args.step.now) _ _ _ c.args.out.now.items _ c.in_ok-take.ensures c.step_line-number.ensures
    c.step_destination-to.ensures (c.as_slice.ensures.value ∙ c.in_ok-line.ensures.line))
    c.push_both.ensures

pub returns-clause-spelled : goal.returns-clause-spelled
returns-clause-spelled c = on_ok_weaker c.push_both.result (λ told. c.in_ok-line.ensures.spelled) c.push_both.ensures
