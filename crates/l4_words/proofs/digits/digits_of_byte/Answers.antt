use Rattle.l4_words.proofs.Hexadecimal.{pair_at}
use Rattle.l4_words.proofs.digits.digits_of_byte.Goals as goal

pub returns : goal.returns
returns c = pair_at c.args.byte _ c.requires
