use Rattle.std.proofs.Common.{ap}
use Rattle.std.proofs.Common.{refl, ◌∙◌}
use Rattle.l4_model.specs.Rules.{received_tag}
use Rattle.l4_model.specs.Effects.{receives}
use Rattle.l4_thread.specs.Inner.Parts.{Block}
use Rattle.l4_audit.specs.Inner.Audited.{senders_of}
use Rattle.l4_audit.proofs.Writing.{written, still_of}
use Rattle.l4_audit.proofs.world.World.receive.Goals as goal

pub invariant_of-self : goal.invariant_of-self
invariant_of-self c =
    let s = c.self.inside in
    still_of s.machine.now s.threads.items s.lists.waiting c.args.place _ _ c.self.invariant c.index_mut.ensures.value (ap (λ (b : Block). b.id) c.receive_words.ensures)

pub returns : goal.returns
returns c =
    let s = c.self.inside in
    written s.machine.now s.threads.items (senders_of s.lists.waiting) s.clocks.items _ c.args.self.now c.args.place (receives c.args.delivery.now.message (received_tag c.args.delivery.now.cross c.args.delivery.now.message)) _ _ c.self.view_is
    c.requires c.index_mut.ensures.value (c.receive_words.ensures ∙ rw (c.words.ensures.value, c.shown.ensures, c.actual.ensures, c.tag.ensures.word) refl)
