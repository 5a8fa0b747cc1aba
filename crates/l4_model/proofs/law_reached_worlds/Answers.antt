use Rattle.l4_model.proofs.Worlds.{reached_facts}
use Rattle.l4_model.proofs.law_reached_worlds.Goals as goal

pub returns : goal.returns
returns c = reached_facts
