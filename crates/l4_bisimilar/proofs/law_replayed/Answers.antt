use Rattle.l4_core_model.specs.Runs.{opening_run}
use Rattle.l4_bisimilar.proofs.Replayed.{replayed}
use Rattle.l4_bisimilar.proofs.law_replayed.Goals as goal

pub returns : goal.returns
returns c = λ m actions r h. replayed m actions (opening_run m) r h
