use Rattle.l4_model.proofs.Stillness.{still_exactly}
use Rattle.l4_model.proofs.law_still.Goals as goal

pub returns : goal.returns
returns c = still_exactly
