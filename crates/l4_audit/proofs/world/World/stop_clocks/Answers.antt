use Rattle.std.proofs.Common.{arith}
use Rattle.std.proofs.lemmas.Grind.{common_steps}
use Rattle.l4_audit.specs.Inner.Audited.{senders_of}
use Rattle.l4_audit.proofs.Stilling.{stopped}
use Rattle.l4_audit.proofs.world.World.stop_clocks.Goals as goal

pub returns : goal.returns
returns c =
    let i = c.self.inside in
    let items = c.in_ok-resize.ensures.items in
    let empty = c.clear.ensures.items in
    stopped i.machine.now i.threads.items (senders_of i.lists.waiting) i.clocks.items c.resize.new.self.items _ c.args.self.now c.self.view_is (grind (arith, common_steps))
