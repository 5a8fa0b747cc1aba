use Rattle.std.proofs.lemmas.Result.{IfOk-weaker}
use Rattle.l4_jobs.proofs.ReadAs.{read_as}
use Rattle.l4_jobs.proofs.reading.read_text.Goals as goal

pub returns-clause-ok : goal.returns-clause-ok
returns-clause-ok g c =
    IfOk-weaker c.read_most.result _ _ (λ text is. read_as (g.M.Source.gives c.args.machine.now) text.items is) c.read_most.ensures.ok
