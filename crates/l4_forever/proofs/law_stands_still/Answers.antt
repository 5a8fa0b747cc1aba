use Rattle.l4_forever.proofs.Holding.{for_ever}
use Rattle.l4_forever.proofs.law_stands_still.Goals as goal

pub returns : goal.returns
returns c = λ m found edges thread moves place w timed reached still free at.
    for_ever m timed found edges thread moves reached still place w free at
