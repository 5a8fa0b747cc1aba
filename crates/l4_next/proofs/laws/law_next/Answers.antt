use Rattle.l4_next.proofs.Telling.{as_goes_on}
use Rattle.l4_next.proofs.laws.law_next.Goals as goal

pub returns : goal.returns
returns c = λ m g e. as_goes_on m g e
