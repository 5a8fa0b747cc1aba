use Rattle.l4_jobs.proofs.Faults.{no_fault}
use Rattle.l4_jobs.proofs.laws.law_faulty.Goals as goal

pub returns : goal.returns
returns c = λ job text read asked o fault done faulty. no_fault job text read asked o fault done faulty
