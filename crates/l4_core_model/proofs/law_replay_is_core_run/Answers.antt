use Rattle.l4_core_model.proofs.CoreRuns.{replay_is_core_run}
use Rattle.l4_core_model.proofs.law_replay_is_core_run.Goals as goal

pub returns : goal.returns
returns c = λ m schedule. replay_is_core_run m schedule
