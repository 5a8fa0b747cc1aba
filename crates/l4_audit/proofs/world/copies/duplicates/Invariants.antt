use Rattle.std.proofs.Common.{◌≡◌, take}
use Rattle.l4_audit.proofs.world.copies.duplicates.Given as goal

-- The threads before the next one are copied.
abbrev pub invariant-loop-thread : goal.invariant-loop-thread
invariant-loop-thread l = l.copies.items ≡ take l.thread-index l.threads
