use Rattle.l4_futures.proofs.Looked.{looked}
use Rattle.l4_futures.proofs.law_looked.Goals as goal

pub returns : goal.returns
returns c = λ m found asked most depth is_whole timed low explored few whole cut.
    looked m timed found asked most depth is_whole low explored few whole cut
