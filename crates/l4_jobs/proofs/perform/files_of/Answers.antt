use Rattle.std.proofs.Common.{Some, rules}
use Rattle.std.proofs.lemmas.Result.{err_from_is_err_and}
use Rattle.l4_commands.specs.Files.{expected_of, file_of, second_file_of}
use Rattle.l4_jobs.specs.Performing.{AreUnopened, IsOpened, IsUnopened}
use Rattle.l4_jobs.proofs.Opening.{last_unopened}
use Rattle.l4_jobs.proofs.perform.files_of.Goals as goal

pub returns-in_err-given_file-3-clause-err : goal.returns-in_err-given_file-3-clause-err
returns-in_err-given_file-3-clause-err g c =
    let opens = g.F.Folder.opens c.args.folder.now in
    let job = c.args.job.now in
    let machine : IsOpened opens (Some (file_of job)) c.in_ok-given_file.field-0 = search rules in
    let second : IsOpened opens (second_file_of job) c.in_ok-given_file-2.field-0 = search rules in
    let fault = c.in_err-given_file-3.field-0.0 in
    let unopened : IsUnopened opens (expected_of job) fault = search rules in
    let last : AreUnopened opens job fault
    = last_unopened opens job c.in_ok-given_file.field-0 c.in_ok-given_file-2.field-0 fault machine second unopened in
    let told = err_from_is_err_and c.from_residual-in_err-given_file-3.result
    c.from_residual-in_err-given_file-3.ensures.1 in
    rw (told.1, told.2) last
