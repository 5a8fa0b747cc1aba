use Rattle.std.proofs.Common.{◌<◌, length, ap, sym, ◌∙◌, arith}
use Rattle.std.proofs.lemmas.List.{length-map}
use Rattle.l4_model.specs.Effects.{asked}
use Rattle.l4_types.specs.StepView.{order_kind_of}
use Rattle.l4_thread.specs.Inner.Parts.{Block}
use Rattle.l4_audit.specs.Inner.Audited.{Audited, senders_of}
use Rattle.l4_audit.proofs.Writing.{as_many, written, still_of}
use Rattle.l4_audit.proofs.world.World.ask.Goals as goal

pub index_mut-requires : goal.index_mut-requires
index_mut-requires c =
    let s = c.self.inside in
    let lt : c.args.place < length c.args.self.now.world.threads =
    omega (arith, c.requires, as_many s.machine.now s.threads.items (senders_of s.lists.waiting) s.clocks.items _ c.args.self.now c.self.view_is c.self.invariant) in
    let size = sym (length-map s.threads.items (λ (b : Block). b.thread)) ∙ ap (λ (x : Audited). length x.world.threads) c.self.view_is in
    omega (arith, lt, size)

pub invariant_of-self : goal.invariant_of-self
invariant_of-self c =
    let s = c.self.inside in
    still_of s.machine.now s.threads.items s.lists.waiting c.args.place _ _ c.self.invariant c.index_mut.ensures.value (ap (λ (b : Block). b.id) c.ask.ensures)

pub returns : goal.returns
returns c =
    let s = c.self.inside in
    written s.machine.now s.threads.items (senders_of s.lists.waiting) s.clocks.items _ c.args.self.now c.args.place (asked (order_kind_of c.args.what)) _ _ c.self.view_is
    (omega (arith, c.requires, as_many s.machine.now s.threads.items (senders_of s.lists.waiting) s.clocks.items _ c.args.self.now c.self.view_is c.self.invariant)) c.index_mut.ensures.value c.ask.ensures
