use Rattle.std.proofs.Common.{ap, ◌∙◌}
use Rattle.std.specs.List.{list_any}
use Rattle.l4_model.specs.World.{must_wait}
use Rattle.l4_audit.specs.Inner.Audited.{Audited}
use Rattle.l4_audit.specs.Inner.Owing.{holds_up}
use Rattle.l4_audit.proofs.Owing.{any_holds_up}
use Rattle.l4_audit.proofs.world.World.must_wait.Goals as goal

pub returns : goal.returns
returns c =
    let i = c.self.inside in
    c.is_held_up.ensures ∙ ap (list_any (holds_up c.args.sender c.args.to)) c.as_slice.ensures.value ∙ any_holds_up c.args.sender c.args.to i.owed.items
    ∙ ap (λ (a : Audited). must_wait a.world.owed c.args.sender c.args.to) c.self.view_is
