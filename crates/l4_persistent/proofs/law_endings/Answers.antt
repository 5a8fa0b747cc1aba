use Rattle.l4_persistent.proofs.Endings.{all_endings}
use Rattle.l4_persistent.proofs.law_endings.Goals as goal

pub returns : goal.returns
returns c =
    λ m endings states asked most depth is_whole e.
    all_endings m endings states asked most depth is_whole e
