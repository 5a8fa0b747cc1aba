use Rattle.std.proofs.Common.{ap, subst, sym, ◌∙◌}
use Rattle.std.specs.Option.{option_map}
use Rattle.l4_core_model.specs.Runs.{IsMachine}
use Rattle.l4_types.specs.StepView.{seen}
use Rattle.l4_outlooks.specs.Inner.Foreseen.{Foreseen}
use Rattle.l4_outlooks.specs.Inner.Named.{open_step}
use Rattle.l4_outlooks.proofs.Leading.{knows}
use Rattle.l4_outlooks.proofs.Opening.{opens_never, opens_none, opens_some}
use Rattle.l4_outlooks.proofs.outlook.Outlook.named_step.Goals as goal

pub returns-in_err-step : goal.returns-in_err-step
returns-in_err-step c =
    let i = c.self.inside in
    let k = knows i.world.machine i.world.world i.taken c.self.invariant in
    let lawful = subst IsMachine c.machine.ensures c.facts.ensures.lawful in
    let never = opens_never i.world.machine i.world.world i.taken c.args.entry lawful c.self.invariant.few k.counted (sym c.named.ensures ∙ ap (option_map seen) c.in_err-step.was) in
    ap (option_map seen) c.from_residual.ensures ∙ sym (never) ∙ ap (λ (o : Foreseen). open_step o.machine o.world c.args.entry) c.self.view_is

pub returns-then-is_possible_late : goal.returns-then-is_possible_late
returns-then-is_possible_late c =
    let i = c.self.inside in
    let s = seen c.in_ok-step.step in
    let told = sym c.named.ensures ∙ ap (option_map seen) c.in_ok-step.was in
    let goes_on = opens_some i.world.machine i.world.world c.args.entry s told (sym c.is_possible_late.ensures ∙ c.if-is_possible_late.true) in
    sym goes_on ∙ ap (λ (o : Foreseen). open_step o.machine o.world c.args.entry) c.self.view_is

pub returns-else-is_possible_late : goal.returns-else-is_possible_late
returns-else-is_possible_late c =
    let i = c.self.inside in
    let s = seen c.in_ok-step.step in
    let told = sym c.named.ensures ∙ ap (option_map seen) c.in_ok-step.was in
    let shut = opens_none i.world.machine i.world.world c.args.entry s told (sym c.is_possible_late.ensures ∙ c.if-is_possible_late.false) in
    sym shut ∙ ap (λ (o : Foreseen). open_step o.machine o.world c.args.entry) c.self.view_is
