use Rattle.std.proofs.Common.{subst, sym}
use Rattle.l4_audit.specs.Audits.{Blames}
use Rattle.l4_chart.proofs.Ended.{all_possible, before_first, before_none, some_possible}
use Rattle.l4_chart.proofs.refused.refused_step.Goals as goal
use Rattle.l4_chart.proofs.refused.refused_step.Goals.{in-Ok, in-Err-Refused, in-Err-NoMemory}

pub returns-clause-place : goal.returns-clause-place
returns-clause-place c =
    let m = c.args.machine.now in
    let h = c.args.history.now.steps in
    elim c.match-check_history.branch [
      | in-Ok w ↦ rw w.result-is (sym (all_possible m h w.in-Ok.ensures.passed.world w.in-Ok.ensures.passed.reached_by))
      | in-Err-Refused w ↦
          rw w.result-is (sym (some_possible m h w.in-Err-Refused.place (subst (Blames m h) w.in-Err-Refused.field-0-is w.in-Err-Refused.ensures.refused)))
      | in-Err-NoMemory w ↦ rw w.result-is tt
    ]

pub returns-clause-before : goal.returns-clause-before
returns-clause-before c =
    let m = c.args.machine.now in
    let h = c.args.history.now.steps in
    elim c.match-check_history.branch [
      | in-Ok w ↦ rw w.result-is (λ part. before_none m h part (all_possible m h w.in-Ok.ensures.passed.world w.in-Ok.ensures.passed.reached_by))
      | in-Err-Refused w ↦
          rw w.result-is (λ part. before_first m h part w.in-Err-Refused.place (subst (Blames m h) w.in-Err-Refused.field-0-is w.in-Err-Refused.ensures.refused))
      | in-Err-NoMemory w ↦ rw w.result-is tt
    ]
