use Rattle.l4_words.proofs.Faces.{face_most, face_few, face_digit}
use Rattle.l4_words.proofs.numbers.face.Goals as goal

pub returns-clause-most : goal.returns-clause-most
returns-clause-most c = rw c.from.ensures (face_most c.args.byte c.ranges.byte.fits)

pub returns-clause-few : goal.returns-clause-few
returns-clause-few c = rw c.from.ensures (face_few c.args.byte c.ranges.byte.fits)

pub returns-clause-digit : goal.returns-clause-digit
returns-clause-digit c = rw c.from.ensures (face_digit c.args.byte c.ranges.byte.fits)
