use Rattle.std.proofs.Common.{◌≡◌, ◌-◌, ◌<◌, ◌≤◌, ◌^◌, Some, take}
use Rattle.l4_words.specs.Numbers.{number_onto}
use Rattle.l4_trace.proofs.frequent.Front.decimal.Given as goal

abbrev pub invariant-loop-count : goal.invariant-loop-count
invariant-loop-count l = record {
  some : 0 < l.count;
  within : l.count ≤ l.most;
  read : number_onto 10 0 (take l.count l.text) ≡ Some l.value;
  small : l.value < 10 ^ l.count;
}

abbrev pub decreases-loop-count : goal.decreases-loop-count
decreases-loop-count l = l.most - l.count
