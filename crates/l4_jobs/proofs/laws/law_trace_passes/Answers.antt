use Rattle.l4_jobs.proofs.Traces.{passes}
use Rattle.l4_jobs.proofs.laws.law_trace_passes.Goals as goal

pub returns : goal.returns
returns c = λ text m o lines is_true written. passes text m o lines is_true written
