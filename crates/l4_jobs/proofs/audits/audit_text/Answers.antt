use Rattle.std.proofs.Common.{ap, inr, ◌∙◌}
use Rattle.std.proofs.lemmas.Result.{err_from_is_err_and}
use Rattle.l4_types.specs.StepView.{seen}
use Rattle.l4_trace.specs.Inner.Forward.{Ahead}
use Rattle.l4_trace.proofs.ReadingOn.{next_line, none_left, stays}
use Rattle.l4_jobs.proofs.Audited.{opened, went_on, line_faulty, not_taken, all_read, all_counted}
use Rattle.l4_jobs.proofs.audits.audit_text.Goals as goal

pub steps-init : goal.steps-init
steps-init c = opened c.args.machine.now c.args.text.now _ _ c.of-reader.ensures c.in_ok-auditor.ensures

pub returns-in_err-step-clause-err : goal.returns-in_err-step-clause-err
returns-in_err-step-clause-err c =
    let p = err_from_is_err_and c.from_residual-in_err-step.result c.from_residual-in_err-step.ensures.1 in
    let l = c.steps in
    let e = c.in_err-step.ensures in
    rw p.1 (inr (line_faulty c.args.machine.now c.args.text.now l.reader l.auditor _ p.0 l.invariant e.0 e.1 p.2))

pub returns-in-Err-clause-err : goal.returns-in-Err-clause-err
returns-in-Err-clause-err c =
    let l = c.steps in
    not_taken c.args.machine.now c.args.text.now l.reader c.next.new.self l.auditor (seen c.in-Some.step) c.in-Err.refused c.fault_behind.result l.invariant
    (next_line l.reader c.next.new.self c.in_ok-step.field-0 c.in-Some.step c.in_ok-step.ensures c.in-Some.is) c.in-Err.ensures.0 c.fault_behind.ensures

pub steps-preserved : goal.steps-preserved
steps-preserved c =
    let l = c.steps in
    went_on c.args.machine.now c.args.text.now l.reader c.next.new.self l.auditor c.step.new.self (seen c.in-Some.step) l.invariant
    (next_line l.reader c.next.new.self c.in_ok-step.field-0 c.in-Some.step c.in_ok-step.ensures c.in-Some.is) c.in-Ok.ensures

pub returns-clause-ok : goal.returns-clause-ok
returns-clause-ok c =
    let l = c.steps in
    let j = l.invariant in
    let m = c.args.machine.now in
    let text = c.args.text.now in
    let found = c.in_ok-step.ensures in
    let end = c.next.new.self in
    record {
      steps = j.steps;
      reads = all_read m text l.reader l.auditor j (none_left l.reader end c.in_ok-step.field-0 found c.in_default.is);
      counted =
          all_counted m text l.reader l.auditor j c.count.result
          (c.count.ensures ∙ ap (λ (a : Ahead). a.read) (stays l.reader end c.in_ok-step.field-0 found c.in_default.is));
      world = l.auditor.at.world;
      reaches = j.reached_by;
      quiet = rw (← j.machine) c.in_ok-ending.ensures;
    }
