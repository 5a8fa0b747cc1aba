use Rattle.std.proofs.Common.{ap, ◌∙◌}
use Rattle.std.specs.Prelude.{filter_map}
use Rattle.l4_model.specs.History.{view}
use Rattle.l4_audit.specs.Inner.Auditing.{waiting_send}
use Rattle.l4_audit.proofs.Auditing.{waiting_begun}
use Rattle.l4_audit.proofs.audit.check_history.Goals as goal

pub returns-clause-passed : goal.returns-clause-passed
returns-clause-passed c =
    let m = c.args.machine.now in
    let h = c.args.history.now.steps in
    let a = c.in_ok-auditor.auditor in
    let is = c.in_ok-auditor.ensures.reached in
    record {
      world = a.at.world;
      reached_by = is.reached_by;
      threads = c.in_ok-threads.ensures ∙ ap (λ x. view x a.at.world) is.machine;
      waiting_are = c.in_ok-waiting.ensures ∙ ap (λ x. filter_map (waiting_send x a.at.world) a.begun) is.machine ∙ ap (filter_map (waiting_send m a.at.world)) is.begun ∙ waiting_begun m a.at.world h;
      ending = rw (← is.machine) c.in_ok-ending.ensures;
    }
