use Rattle.l4_worlds.proofs.Telling.{told_late}
use Rattle.l4_worlds.proofs.law_told.Goals as goal

pub returns : goal.returns
returns c = told_late
