use Rattle.std.proofs.Common.{length, ap, ◌∙◌}
use Rattle.std.specs.Prelude.{◌==◌}
use Rattle.l4_audit.specs.Inner.Audited.{senders_of}
use Rattle.l4_audit.proofs.Owing.{as_many_owed}
use Rattle.l4_audit.proofs.world.World.owes_nothing.Goals as goal

pub returns : goal.returns
returns c =
    let i = c.self.inside in
    c.is_empty.ensures
    ∙ ap (λ n. n == 0) (ap length c.as_slice.ensures.value ∙ as_many_owed i.machine.now i.threads.items (senders_of i.lists.waiting) i.clocks.items i.owed.items c.args.self.now c.self.view_is)
