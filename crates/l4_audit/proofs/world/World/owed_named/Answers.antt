use Rattle.std.proofs.Common.{ap, ◌∙◌}
use Rattle.std.specs.Prelude.{find}
use Rattle.std.specs.Option.{option_map}
use Rattle.l4_model.specs.World as world
use Rattle.l4_types.specs.Inner.OwedView.{owed_of}
use Rattle.l4_audit.specs.Inner.Audited.{Audited}
use Rattle.l4_audit.specs.Inner.Owing.{is_of_name}
use Rattle.l4_audit.proofs.Owing.{named_is}
use Rattle.l4_audit.proofs.world.World.owed_named.Goals as goal

pub returns : goal.returns
returns c =
    let i = c.self.inside in
    ap (option_map owed_of) (c.copied.ensures ∙ c.named.ensures ∙ ap (find (is_of_name c.args.name)) c.as_slice.ensures.value) ∙ named_is c.args.name i.owed.items
    ∙ ap (λ (a : Audited). world.owed_of a.world.owed c.args.name) c.self.view_is
