use Rattle.std.proofs.Common.{◌≡◌, length}
use Rattle.l4_outlooks.specs.Inner.Foreseen.{IsLed}
use Rattle.l4_walks.proofs.walks.Walks.next_walk.Given as goal

-- As many steps were taken as were counted.
abbrev pub invariant-loop : goal.invariant-loop
invariant-loop l = record {
  same : l.self ≡ l.fn.self;
  led : IsLed l.fn.self l.entries.items l.outlook;
  count : length l.entries.items ≡ l.counter;
}
