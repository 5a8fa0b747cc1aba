use Rattle.std.proofs.Common.{inl, inr}
use Rattle.l4_jobs.specs.Searches.{fault_of_limits}
use Rattle.l4_jobs.proofs.searches.condition_done.Goals as goal

pub returns-in-Err-clause-err : goal.returns-in-Err-clause-err
returns-in-Err-clause-err g c =
    elim c.in-Err.ensures.err [ inl none ↦ inl none | inr faulty ↦ inr (faulty (fault_of_limits c.args.search.now)) ]
