use Rattle.std.proofs.Common.{ap, subst, sym, ◌∙◌}
use Rattle.l4_core_model.specs.Runs.{IsMachine}
use Rattle.l4_outlooks.specs.Inner.Foreseen.{Foreseen}
use Rattle.l4_outlooks.specs.Inner.Named.{if_told, open_step}
use Rattle.l4_outlooks.proofs.Leading.{knows}
use Rattle.l4_outlooks.proofs.Opening.{opens_never}
use Rattle.l4_outlooks.proofs.outlook.Outlook.open_step.Goals as goal

pub returns-else-may_name : goal.returns-else-may_name
returns-else-may_name c =
    let i = c.self.inside in
    let k = knows i.world.machine i.world.world i.taken c.self.invariant in
    let lawful = subst IsMachine c.machine.ensures c.facts.ensures.lawful in
    let never = opens_never i.world.machine i.world.world i.taken c.args.entry lawful c.self.invariant.few k.counted (ap if_told (c.may_name.ensures c.if-may_name.false)) in
    sym never ∙ ap (λ (o : Foreseen). open_step o.machine o.world c.args.entry) c.self.view_is
