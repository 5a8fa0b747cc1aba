use Rattle.std.proofs.Common.{◌≡◌, drop}
use Rattle.l4_words.specs.Numbers.{number_onto}
use Rattle.l4_words.proofs.numbers.value_of_many.Given as goal

abbrev pub invariant-loop-byte : goal.invariant-loop-byte
invariant-loop-byte l = number_onto l.radix l.value (drop l.byte-index l.digits) ≡ number_onto l.radix 0 l.digits
