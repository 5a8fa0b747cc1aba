use Rattle.std.proofs.Common.{◌∙◌, map, take}
use Rattle.std.proofs.lemmas.Result.{err_from_is_err_and}
use Rattle.l4_types.specs.StepView.{step_of}
use Rattle.l4_history.proofs.sink.tell.Goals as goal

pub returns-in_err-reserve-clause-err : goal.returns-in_err-reserve-clause-err
returns-in_err-reserve-clause-err g c =
    let failed = err_from_is_err_and c.from_residual.result c.from_residual.ensures.1 in
    rw failed.1 (map step_of (take c.loop-step.step-index c.args.steps.now), c.in_err-reserve.ensures.told ∙ c.loop-step.invariant)
