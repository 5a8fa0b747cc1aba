use Rattle.l4_worlds.proofs.LateWorlds.{late_facts}
use Rattle.l4_worlds.proofs.law_late_worlds.Goals as goal

pub returns : goal.returns
returns c = late_facts
