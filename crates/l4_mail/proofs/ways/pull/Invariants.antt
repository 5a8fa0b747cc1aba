use Rattle.std.proofs.Common.{◌≡◌, ◌++◌, ◌+◌, length, List}
use Rattle.std.specs.VecDeque.{deque_len, deque_capacity}
use Rattle.rtrb.specs.Ring.{received, known_items, SameConsumer}
use Rattle.l4_mail.proofs.ways.pull.Given as goal

abbrev pub invariant-loop : goal.invariant-loop
invariant-loop l = record {
  same : SameConsumer l.fn.ring l.ring;
  capacity : deque_capacity l.kept ≡ deque_capacity l.fn.kept;
  gone : (more : List _) × (length more ≡ l.counter) × (received l.ring ≡ received l.fn.ring ++ more) × (known_items l.fn.ring ≡ more ++ known_items l.ring) × (l.kept.items ≡ l.fn.kept.items ++ more) × (deque_len l.kept ≡ deque_len l.fn.kept + l.counter);
}
