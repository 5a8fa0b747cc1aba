use Rattle.l4_words.proofs.Hexadecimal.{pairs_written}
use Rattle.std.proofs.Common.{arith}
use Rattle.l4_words.proofs.digits.write_bounded.Goals as goal

pub overflow_sub-result : goal.overflow_sub-result
overflow_sub-result c =
    let written = pairs_written c.args.bytes c.args.number c.args.end c.args.line.now c.write_pairs.new.line c.requires.some c.requires.fits c.ranges.number.fits c.requires.room.0 c.write_pairs.ensures in
    rw c.count_digits.ensures written.0

pub returns-clause-start : goal.returns-clause-start
returns-clause-start c =
    let written = pairs_written c.args.bytes c.args.number c.args.end c.args.line.now c.write_pairs.new.line c.requires.some c.requires.fits c.ranges.number.fits c.requires.room.0 c.write_pairs.ensures in
    omega (arith, written.0, c.count_digits.ensures)

pub returns-clause-written : goal.returns-clause-written
returns-clause-written c =
    let written = pairs_written c.args.bytes c.args.number c.args.end c.args.line.now c.write_pairs.new.line c.requires.some c.requires.fits c.ranges.number.fits c.requires.room.0 c.write_pairs.ensures in
    rw c.count_digits.ensures written.1
