use Rattle.l4_script.proofs.WordBytes.{byte_at}
use Rattle.l4_script.proofs.text.second.lines.is_word_byte.Goals as goal

pub returns : goal.returns
returns c = rw c.from.ensures (byte_at c.args.byte c.ranges.byte.fits)
