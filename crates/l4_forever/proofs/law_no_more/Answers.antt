use Rattle.l4_forever.proofs.Getting.{never}
use Rattle.l4_forever.proofs.law_no_more.Goals as goal

pub returns : goal.returns
returns c = λ m found edges thread moves timed reached graph just all.
    never m found edges thread moves timed reached graph just all
