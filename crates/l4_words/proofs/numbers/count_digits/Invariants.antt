use Rattle.std.proofs.Common.{◌≡◌, ◌+◌, ◌≤◌, drop, is_some, length}
use Rattle.std.specs.List.{prefix_len}
use Rattle.l4_words.specs.Numbers.{digit_of}
use Rattle.l4_words.proofs.numbers.count_digits.Given as goal

abbrev pub invariant-loop-count : goal.invariant-loop-count
invariant-loop-count l = record {
  within : l.count ≤ length l.text;
  counted : l.count + prefix_len (λ byte. is_some (digit_of l.radix byte)) (drop l.count l.text) ≡ prefix_len (λ byte. is_some (digit_of l.radix byte)) l.text;
}

abbrev pub decreases-loop-count : goal.decreases-loop-count
decreases-loop-count l = length (drop l.count l.text)
