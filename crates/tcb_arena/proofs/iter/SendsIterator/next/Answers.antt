use Rattle.std.proofs.Common.{ℕ, ◌<◌, length}
use Rattle.std.proofs.lemmas.List.Elements.{All-rest}
use Rattle.tcb_arena.proofs.iter.SendsIterator.next.Goals as goal

pub invariant_of-self-2 : goal.invariant_of-self-2
invariant_of-self-2 c =
    All-rest (λ (block : ℕ). block < length c.self.inside.senders.now.items) c.in_ok-block.block c.next.new.self c.self.inside.blocks c.in_ok-block.ensures.steps c.self.invariant
