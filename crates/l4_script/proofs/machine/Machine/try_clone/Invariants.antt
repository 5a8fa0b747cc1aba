use Rattle.std.proofs.Common.{◌≡◌, take}
use Rattle.l4_script.proofs.machine.Machine.try_clone.Given as goal

abbrev pub invariant-loop-thread : goal.invariant-loop-thread
invariant-loop-thread l = l.threads.items ≡ take l.thread-index l.self.threads
