use Rattle.std.proofs.Common.{◌≡◌, take}
use Rattle.std.specs.Prelude.{filter_map}
use Rattle.l4_audit.proofs.Waited.{waiting_block}
use Rattle.l4_audit.proofs.world.World.waits.Given as goal

abbrev pub invariant-loop-tcb : goal.invariant-loop-tcb
invariant-loop-tcb l = l.waits.items ≡ filter_map (waiting_block l.self.machine l.self.world) (take l.tcb-index l.tcb-items)
