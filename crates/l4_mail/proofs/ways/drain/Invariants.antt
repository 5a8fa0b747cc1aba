use Rattle.std.proofs.Common.{◌≡◌, ◌++◌, ◌≤◌, ◌+◌, List}
use Rattle.std.specs.VecDeque.{deque_len, deque_capacity}
use Rattle.rtrb.specs.Ring.{sent, received, IsPair, SameProducer, SameConsumer}
use Rattle.l4_mail.proofs.ways.drain.Given as goal

abbrev pub invariant-loop-letter : goal.invariant-loop-letter
invariant-loop-letter l = record {
  pair : IsPair l.producer l.consumer;
  producer : SameProducer l.fn.producer l.producer;
  consumer : SameConsumer l.fn.consumer l.consumer;
  posted : sent l.producer ++ l.outbox.items ≡ sent l.fn.producer ++ l.fn.outbox.items;
  empty : received l.consumer ≡ sent l.producer;
  kept : (more : List _) × (received l.consumer ≡ received l.fn.consumer ++ more) × (l.kept.items ≡ l.fn.kept.items ++ more);
  room : deque_len l.kept + deque_len l.outbox ≤ deque_capacity l.kept;
}

abbrev pub decreases-loop-letter : goal.decreases-loop-letter
decreases-loop-letter l = deque_len l.outbox
