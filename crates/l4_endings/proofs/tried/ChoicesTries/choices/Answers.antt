use Rattle.std.proofs.Common.{map, take, ap, sym, subst, refl, ◌∙◌}
use Rattle.std.specs.Prelude.{IsSome}
use Rattle.l4_explore.specs.Tries.{LeadOn}
use Rattle.l4_explore.specs.Search.{seen_at}
use Rattle.l4_explore.specs.Inner.Views.{next_from}
use Rattle.l4_states.specs.Choices.{state_after}
use Rattle.l4_endings.specs.Inner.Tried.{AreOffered}
use Rattle.l4_endings.proofs.tried.ChoicesTries.choices.Goals as goal

pub choices-requires-clause-leads : goal.choices-requires-clause-leads
choices-requires-clause-leads c =
    subst IsSome
    (sym ((λ i. state_after (c.args.self.now.same i) ((c.deref.ensures.value ∙ c.in_ok-schedule.ensures) i))
    ∙ c.requires.reached)) refl

pub returns-clause-leads : goal.returns-clause-leads
returns-clause-leads c =
    let f = state_after c.args.self.now.machine.now in
    let cs = map next_from c.in-Ok.choices.items in
    subst (λ s. LeadOn f s 0 cs) (c.deref.ensures.value ∙ c.in_ok-schedule.ensures)
    (subst (λ n. LeadOn (state_after n) c.deref.result.now 0 cs) c.args.self.now.same c.in-Ok.ensures.leads)

pub returns-clause-offered : goal.returns-clause-offered
returns-clause-offered c =
    let before = take c.args.place c.args.found.now in
    let seen = seen_at c.args.found.now c.args.place in
    let cs = map next_from c.in-Ok.choices.items in
    let same = c.deref.ensures.value ∙ c.in_ok-schedule.ensures in
    let offered = subst (λ n. AreOffered n c.deref.result.now cs) c.args.self.now.same
    c.in-Ok.ensures.offered in
    offered before seen (sym same)
    (ap (state_after c.args.self.now.machine.now) same ∙ c.requires.reached)
