use Rattle.l4_model.proofs.FromBegins.{unaltered_from_begin}
use Rattle.l4_model.proofs.Lawful.{begun_then_ended}
use Rattle.l4_model.proofs.Unaltered.{unaltered}
use Rattle.l4_model.proofs.law_unaltered_from_begin.Goals as goal

pub returns : goal.returns
returns c = λ m h is. unaltered_from_begin m h (unaltered m h is.0 is.1) (begun_then_ended m h is.0 is.1)
