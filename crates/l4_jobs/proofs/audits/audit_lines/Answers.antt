use Rattle.std.proofs.Common.{◌≡◌, false, rules}
use Rattle.std.specs.Prelude.{IfErr}
use Rattle.l4_commands.specs.declared.job.TheConstants.{NO_EXTRAS}
use Rattle.l4_trace.proofs.ReadTexts.{written}
use Rattle.l4_jobs.specs.Audits.{fault_of_reading}
use Rattle.l4_jobs.proofs.Behind.{nothing_behind, passed_behind, passed_history}
use Rattle.l4_jobs.proofs.Spelled.{line_fault}
use Rattle.l4_jobs.proofs.audits.audit_lines.Goals as goal

pub returns-then-eq-clause-ok : goal.returns-then-eq-clause-ok
returns-then-eq-clause-ok c =
    let none : c.args.judged.extras ≡ NO_EXTRAS = search rules in
    let passed = c.in_ok-passed.ensures.ok in
    passed_behind c.args.judged c.args.machine.now c.args.trace.now _ _ c.in_ok-passed.passed passed.steps c.requires passed c.in_ok-lines.ensures
    passed.reads (λ w reaches. nothing_behind c.args.judged.extras c.args.machine.now w passed.steps _ none)

pub write_extras-requires : goal.write_extras-requires
write_extras-requires c =
    passed_history c.args.machine.now c.args.trace.now c.in_ok-passed.passed _ c.in_ok-passed.ensures.ok
    (written c.args.trace.now _ c.in_ok-history.ensures)

pub returns-clause-ok : goal.returns-clause-ok
returns-clause-ok c =
    passed_behind c.args.judged c.args.machine.now c.args.trace.now _ _ c.in_ok-passed.passed _ c.requires c.in_ok-passed.ensures.ok c.in_ok-lines.ensures
    (written c.args.trace.now _ c.in_ok-history.ensures) c.in_ok-write_extras.ensures

pub returns-in_err-history-clause-err : goal.returns-in_err-history-clause-err
returns-in_err-history-clause-err c =
    let e = c.in_err-history.field-0.0 in
    let is : IfErr c.from_residual-in_err-history.result (λ f. f ≡ fault_of_reading e) = search rules in
    line_fault false c.args.machine.now c.args.trace.now c.from_residual-in_err-history.result e is c.in_err-history.ensures
