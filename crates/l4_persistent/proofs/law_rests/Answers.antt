use Rattle.l4_persistent.proofs.Rests.{rests_listed}
use Rattle.l4_persistent.proofs.law_rests.Goals as goal

pub returns : goal.returns
returns c = λ m found depth is_whole machine ex. rests_listed m machine found depth is_whole ex
