use Rattle.l4_persistent.proofs.Endings.{cut_off}
use Rattle.l4_persistent.proofs.law_cut_off.Goals as goal

pub returns : goal.returns
returns c =
    λ m found asked most depth is_whole machine ex cut.
    cut_off m machine found depth is_whole ex asked most cut
