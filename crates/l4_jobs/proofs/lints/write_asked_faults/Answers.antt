use Rattle.std.proofs.Common.{sym}
use Rattle.std.proofs.lemmas.Result.{IfOk-weaker}
use Rattle.l4_jobs.proofs.Linting.{named_told}
use Rattle.l4_jobs.proofs.lints.write_asked_faults.Goals as goal

pub returns-in-Some-clause-ok : goal.returns-in-Some-clause-ok
returns-in-Some-clause-ok g c =
    IfOk-weaker c.write_named_faults.result _ _ (λ none read. named_told c.args.machine.now c.args.schedule.now c.in-Some.name.now
    (g.L.Source.gives c.args.list.now) _ _ none (sym c.in-Some.ensures) read) c.write_named_faults.ensures.ok
