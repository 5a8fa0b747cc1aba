use Rattle.l4_jobs.proofs.searches.answer_by.Goals as goal

pub returns-in-Any-clause-ok : goal.returns-in-Any-clause-ok
returns-in-Any-clause-ok g c = rw c.in-Any.is c.answer.ensures.ok

pub returns-in-Placed-clause-ok : goal.returns-in-Placed-clause-ok
returns-in-Placed-clause-ok g c = rw c.in-Placed.is c.placed_answer.ensures.ok
