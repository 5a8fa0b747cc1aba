use Rattle.std.proofs.Common.{arith, sym}
use Rattle.l4_words.proofs.Hexadecimal.{length_one, length_by_zeros}
use Rattle.l4_words.proofs.digits.count_digits.Goals as goal

pub returns-then-number-eq0 : goal.returns-then-number-eq0
returns-then-number-eq0 c = sym (length_one c.args.number (omega arith))

pub returns : goal.returns
returns c = length_by_zeros c.args.number (omega arith) c.ranges.number.fits
