use Rattle.std.proofs.Common.{◌≡◌, take}
use Rattle.std.specs.Prelude.{filter_map}
use Rattle.l4_audit.specs.Inner.Auditing.{waiting_send}
use Rattle.l4_audit.proofs.world.World.waiting.Given as goal

abbrev pub invariant-loop-name : goal.invariant-loop-name
invariant-loop-name l = l.sends.items ≡ filter_map (waiting_send l.self.machine l.self.world) (take l.name-index l.begun)
