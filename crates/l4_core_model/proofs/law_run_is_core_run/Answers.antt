use Rattle.l4_core_model.proofs.CoreRuns.{run_is_core_run}
use Rattle.l4_core_model.proofs.law_run_is_core_run.Goals as goal

pub returns : goal.returns
returns c = λ m turns. run_is_core_run m turns
