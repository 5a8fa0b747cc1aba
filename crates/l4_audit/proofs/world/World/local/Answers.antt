use Rattle.std.proofs.Common.{ap, sym, ◌∙◌}
use Rattle.std.specs.Result.{result_err}
use Rattle.l4_model.specs.World.{change}
use Rattle.l4_model.specs.Effects.{runs}
use Rattle.l4_script.specs.Inner.Scripts.{instr_of}
use Rattle.l4_audit.specs.Inner.Audited.{with_world}
use Rattle.l4_audit.proofs.Taking.{runs_on}
use Rattle.l4_audit.proofs.world.World.local.Goals as goal

pub returns : goal.returns
returns c =
    let a = c.args.self.now in
    let none = sym c.may_run.ensures.reason ∙ ap result_err c.in_ok-thread.was in
    runs_on a _ c.args.id c.in_ok-thread.thread (instr_of c.instruction-instr.result) c.in_ok-thread.ensures.thread none c.instruction-instr.ensures.value
    (c.run.ensures ∙ ap (λ i. with_world a (change a.world i (runs (instr_of c.instruction-instr.result)))) c.place-place.ensures)
