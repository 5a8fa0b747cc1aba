use Rattle.std.proofs.Common.{◌≡◌, rules}
use Rattle.std.specs.Prelude.{IfErr}
use Rattle.l4_jobs.specs.Schedules.{fault_of_run}
use Rattle.l4_jobs.proofs.Listed.{file_read, list_fault}
use Rattle.l4_jobs.proofs.schedules.entries_in_file.Goals as goal

pub returns-in_err-schedule_in_file-clause-err : goal.returns-in_err-schedule_in_file-clause-err
returns-in_err-schedule_in_file-clause-err g c =
    let e = c.in_err-schedule_in_file.field-0.0 in
    let is : IfErr c.from_residual-in_err-schedule_in_file.result (λ f. f ≡ fault_of_run e) = search rules in
    list_fault c.args.machine.now c.args.name.now (g.L.Source.gives c.args.list.now) _ _ c.from_residual-in_err-schedule_in_file.result e is
    c.in_ok-text.ensures.ok c.as_slice.ensures.value c.in_err-schedule_in_file.ensures.err

pub returns-clause-ok : goal.returns-clause-ok
returns-clause-ok g c =
    file_read c.args.machine.now (g.L.Source.gives c.args.list.now) _ _ _ c.in_ok-text.ensures.ok c.as_slice.ensures.value
    c.in_ok-schedule_in_file.ensures.ok
