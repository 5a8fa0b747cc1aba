use Rattle.std.proofs.lemmas.Result.{IfOk-weaker}
use Rattle.l4_jobs.proofs.Making.{done_given}
use Rattle.l4_jobs.proofs.jobs.done.Goals as goal

pub returns-clause-ok : goal.returns-clause-ok
returns-clause-ok g c =
    IfOk-weaker c.done_for_text.result _ _ (λ done is. done_given c.args.job.now (g.M.Source.gives c.args.machine.now) (g.S.Source.gives c.args.second.now)
    (g.X.Source.gives c.args.expects.now) _ _ _ c.in_ok-text.ensures.ok c.as_slice.ensures.value is) c.done_for_text.ensures.ok
