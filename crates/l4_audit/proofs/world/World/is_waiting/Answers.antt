use Rattle.std.proofs.Common.{ap, sym, ◌∙◌}
use Rattle.std.proofs.lemmas.Option.{slice_get_within}
use Rattle.l4_model.specs.World.{is_queued}
use Rattle.l4_core_model.proofs.Waiting.{queued_same}
use Rattle.l4_audit.specs.Inner.Audited.{Audited}
use Rattle.l4_audit.proofs.Lists.{senders_within}
use Rattle.l4_audit.proofs.world.World.is_waiting.Goals as goal

pub is_queued-requires : goal.is_queued-requires
is_queued-requires c =
    let i = c.self.inside in
    let a = c.args.self.now in
    let p = c.args.pending.now in
    rw (c.place.ensures, c.sender.ensures)
    (senders_within i.machine.now i.threads.items i.lists.waiting i.clocks.items _ a p.sender.at c.self.view_is c.self.invariant (slice_get_within a.world.threads p.sender.at p.sender.now c.requires))

pub returns : goal.returns
returns c =
    let i = c.self.inside in
    let p = c.args.pending.now in
    c.is_queued.ensures ∙ rw (c.place.ensures, c.sender.ensures)
    (sym (queued_same p.sender.at i.lists.waiting) ∙ ap (λ (b : Audited). is_queued b.world.waiting p.sender.at) c.self.view_is)
