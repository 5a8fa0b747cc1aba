use Rattle.std.proofs.Common.{◌≡◌, rules, subst, sym}
use Rattle.std.specs.Prelude.{IfErr}
use Rattle.std.proofs.lemmas.Result.{IfErr-weaker}
use Rattle.std.specs.Option.{option_copied}
use Rattle.l4_jobs.specs.Jobs.{IsFault}
use Rattle.l4_c.specs.Files.{files_in, gives_in}
use Rattle.l4_c.proofs.Doing.{done_over, fault_over}
use Rattle.l4_c.proofs.answers.performed.Goals as goal

pub returns-clause-ok : goal.returns-clause-ok
returns-clause-ok c =
    let sources = c.in_ok-machine.ensures in
    done_over c.args.job.now c.in_rounds.result (files_in c.args.files.now) _ _ _ _ _ sources.there c.in_rounds.ensures sources.machine sources.second sources.expects
    c.in_ok-done.ensures.ok c.text_of.ensures

pub returns-in_err-done-clause-err : goal.returns-in_err-done-clause-err
returns-in_err-done-clause-err c =
    let given = c.in_ok-machine.ensures in
    let sources = c.in_ok-machine.field-0 in
    let machine = option_copied sources.machine.bytes in
    let second = option_copied sources.second.bytes in
    let expects = option_copied sources.expects.bytes in
    let e = c.in_err-done.field-0.0 in
    let same : IfErr c.from_residual-in_err-done.result (λ f. f ≡ e) = search rules in
    IfErr-weaker c.from_residual-in_err-done.result (λ f. f ≡ e) _
    (λ f is.
    fault_over c.args.job.now c.in_rounds.result (files_in c.args.files.now) machine second expects given.there c.in_rounds.ensures given.machine given.second given.expects f
    (subst (IsFault c.in_rounds.result (gives_in machine) (gives_in second) (gives_in expects)) (sym is) c.in_err-done.ensures.err))
    same
