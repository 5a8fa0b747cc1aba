use Rattle.std.proofs.Common.{◌≡◌, length}
use Rattle.l4_walks.specs.Inner.Placed.{IsUnderWay}
use Rattle.l4_walks.proofs.placed.PlacedWalks.next_walk.Given as goal

-- An event came for each that was counted.
abbrev pub invariant-loop : goal.invariant-loop
invariant-loop l = record {
  same : l.self ≡ l.fn.self;
  under_way : IsUnderWay l.fn.self l.entries.items l.walk;
  count : length l.entries.items ≡ l.counter;
}
