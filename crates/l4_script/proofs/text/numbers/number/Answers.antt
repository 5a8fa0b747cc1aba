use Rattle.std.proofs.Common.{refl}
use Rattle.l4_script.specs.Numbers.{number_of}
use Rattle.l4_script.proofs.text.numbers.number.Goals as goal

pub returns-in-Some : goal.returns-in-Some
unfolding number_of
returns-in-Some c = rw (c.padded_hexadecimal.ensures, c.in-Some.ensures.cases.0, c.in-Some.ensures.cases.1) refl

pub returns-in-None : goal.returns-in-None
unfolding number_of
returns-in-None c = rw (c.decimal.ensures, c.in-None.ensures.cases) refl
