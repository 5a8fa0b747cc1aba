use Rattle.std.proofs.Common.{map, subst, ◌∙◌}
use Rattle.l4_explore.specs.Tries.{LeadOn}
use Rattle.l4_explore.specs.Inner.Views.{next_from}
use Rattle.l4_futures.specs.Inner.Search.{state_after}
use Rattle.l4_always.proofs.Watching.{all_tried_lead}
use Rattle.l4_always.proofs.watch.AllWorldsTries.choices.Goals as goal

pub returns-clause-leads : goal.returns-clause-leads
returns-clause-leads c =
    let m = c.args.self.now.machine.now in
    let choices = map next_from c.in-Ok.choices.items in
    subst (λ s. LeadOn (state_after m) s 0 choices)
    (c.deref.ensures.value ∙ c.in_ok-entries.ensures)
    (all_tried_lead m c.deref.result.now choices c.in-Ok.ensures.are)
