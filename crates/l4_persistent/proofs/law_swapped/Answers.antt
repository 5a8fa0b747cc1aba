use Rattle.l4_persistent.proofs.Swaps.{swapped}
use Rattle.l4_persistent.proofs.law_swapped.Goals as goal

pub returns : goal.returns
returns c = λ m g a b h k other may next there. swapped m g a b h k other may next there
