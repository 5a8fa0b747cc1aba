use Rattle.l4_jobs.proofs.Traces.{objects_pass}
use Rattle.l4_jobs.proofs.laws.law_objects_pass.Goals as goal

pub returns : goal.returns
returns c = λ text m o lines is_true written. objects_pass text m o lines is_true written
