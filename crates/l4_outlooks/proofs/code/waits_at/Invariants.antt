use Rattle.std.proofs.Common.{◌≡◌}
use Rattle.l4_model.specs.World.{is_in, list_at}
use Rattle.l4_outlooks.proofs.code.waits_at.Given as goal

-- The senders that are left decide.
abbrev pub invariant-loop-waiting : goal.invariant-loop-waiting
invariant-loop-waiting l = is_in l.sender (list_at l.world.world.waiting l.receiver) ≡ is_in l.sender l.waiting-iterator
