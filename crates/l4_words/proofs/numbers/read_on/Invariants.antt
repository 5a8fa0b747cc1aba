use Rattle.std.proofs.Common.{◌≡◌, ◌<◌, ◌≤◌, ◌^◌, Some, drop, length, take}
use Rattle.l4_words.specs.Numbers.{number_onto}
use Rattle.l4_words.proofs.numbers.read_on.Given as goal

abbrev pub invariant-loop-count : goal.invariant-loop-count
invariant-loop-count l = record {
  within : l.count ≤ length l.text;
  read : number_onto l.radix 0 (take l.count l.text) ≡ Some l.value;
  small : l.value < 16 ^ l.count;
}

abbrev pub decreases-loop-count : goal.decreases-loop-count
decreases-loop-count l = length (drop l.count l.text)
