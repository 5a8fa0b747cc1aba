use Rattle.l4_persistent.proofs.Endings.{looked_at}
use Rattle.l4_persistent.proofs.law_looked_at.Goals as goal

pub returns : goal.returns
returns c = λ m found depth is_whole machine ex. looked_at m machine found depth is_whole ex
