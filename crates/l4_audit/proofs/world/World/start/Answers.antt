use Rattle.std.proofs.Common.{ap}
use Rattle.l4_thread.specs.Inner.Parts.{Block}
use Rattle.l4_script.specs.Inner.Scripts.{instr_of}
use Rattle.l4_audit.specs.Inner.Audited.{senders_of}
use Rattle.l4_audit.proofs.Starting.{start_shown, started, started_block}
use Rattle.l4_audit.proofs.Writing.{still_of}
use Rattle.l4_audit.proofs.world.World.start.Goals as goal

pub ipc-requires-clause-shown : goal.ipc-requires-clause-shown
ipc-requires-clause-shown c =
    let i = c.self.inside in
    start_shown i.machine.now i.threads.items (senders_of i.lists.waiting) i.clocks.items _ c.args.self.now c.args.place (instr_of c.args.instr.now) c.args.permitted _ c.self.view_is c.self.invariant c.requires
    c.index_mut.ensures.value

pub invariant_of-self : goal.invariant_of-self
invariant_of-self c =
    let i = c.self.inside in
    let block = started_block i.machine.now i.threads.items (senders_of i.lists.waiting) i.clocks.items _ c.args.self.now c.args.place (instr_of c.args.instr.now) c.args.permitted c.args.now _ _ c.self.view_is c.self.invariant c.requires
    c.index_mut.ensures.value c.ipc.ensures.thread in
    still_of i.machine.now i.threads.items i.lists.waiting c.args.place _ _ c.self.invariant c.index_mut.ensures.value (ap (λ (b : Block). b.id) block)

pub returns : goal.returns
returns c =
    let i = c.self.inside in
    started i.machine.now i.threads.items (senders_of i.lists.waiting) i.clocks.items _ c.args.self.now c.args.place (instr_of c.args.instr.now) c.args.permitted c.args.now _ _ c.self.view_is c.self.invariant c.requires
    c.index_mut.ensures.value c.ipc.ensures.thread
