use Rattle.l4_futures.proofs.Endings.{all_endings}
use Rattle.l4_futures.proofs.law_all_endings.Goals as goal

pub returns : goal.returns
returns c = λ m found depth is_whole timed low explored. all_endings m timed found depth is_whole low explored
