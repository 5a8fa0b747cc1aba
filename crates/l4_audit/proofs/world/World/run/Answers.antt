use Rattle.std.proofs.Common.{ap}
use Rattle.std.proofs.Common.{◌≡◌, ◌+◌, ◌<◌, ◌^◌, false}
use Rattle.l4_model.specs.Effects.{runs}
use Rattle.l4_script.specs.Inner.Scripts.{instr_of}
use Rattle.l4_thread.specs.Inner.Requests.{is_end}
use Rattle.l4_thread.specs.Inner.Parts.{Block}
use Rattle.l4_audit.specs.Inner.Audited.{senders_of}
use Rattle.l4_audit.proofs.Writing.{written, still_of, is_within}
use Rattle.l4_audit.proofs.world.World.run.Goals as goal

pub invariant_of-self : goal.invariant_of-self
invariant_of-self c =
    let s = c.self.inside in
    still_of s.machine.now s.threads.items s.lists.waiting c.args.place _ _ c.self.invariant c.index_mut.ensures.value (ap (λ (b : Block). b.id) c.run.ensures)

pub returns : goal.returns
returns c =
    let s = c.self.inside in
    written s.machine.now s.threads.items (senders_of s.lists.waiting) s.clocks.items _ c.args.self.now c.args.place (runs (instr_of c.args.instr.now)) _ _ c.self.view_is
    (is_within (λ t. is_end (instr_of c.args.instr.now) ≡ false → t.context.place + 1 < 2 ^ 64) _ _ c.requires) c.index_mut.ensures.value c.run.ensures
