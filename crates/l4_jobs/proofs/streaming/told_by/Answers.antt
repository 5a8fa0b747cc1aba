use Rattle.l4_jobs.proofs.streaming.told_by.Goals as goal

pub returns-in-Any-clause-ok : goal.returns-in-Any-clause-ok
returns-in-Any-clause-ok g c = rw c.in-Any.is c.told_answer.ensures.ok

pub returns-in-Any-clause-err : goal.returns-in-Any-clause-err
returns-in-Any-clause-err g c = rw c.in-Any.is c.told_answer.ensures.err

pub returns-in-Placed-clause-ok : goal.returns-in-Placed-clause-ok
returns-in-Placed-clause-ok g c = rw c.in-Placed.is c.told_placed_answer.ensures.ok

pub returns-in-Placed-clause-err : goal.returns-in-Placed-clause-err
returns-in-Placed-clause-err g c = rw c.in-Placed.is c.told_placed_answer.ensures.err
