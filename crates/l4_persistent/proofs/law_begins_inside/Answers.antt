use Rattle.l4_persistent.proofs.Sets.{begins_inside}
use Rattle.l4_persistent.proofs.law_begins_inside.Goals as goal

pub returns : goal.returns
returns c =
    λ m g set b x es end persistent inside can leads idle.
    begins_inside m g set b x es end persistent inside can leads idle
