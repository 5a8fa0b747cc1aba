use Rattle.std.proofs.Common.{◌≡◌, Some, subst, sym, ◌∙◌}
use Rattle.l4_explore.specs.Search.{seen_at}
use Rattle.l4_explore.specs.Tries.{LeadOn}
use Rattle.l4_futures.specs.Choices.{world_after}
use Rattle.l4_futures.specs.Inner.Search.{state_after}
use Rattle.l4_all_endings.proofs.Leading.{nexts_lead}
use Rattle.l4_all_endings.proofs.tried.WorldsTries.choices.Goals as goal

pub returns-clause-leads : goal.returns-clause-leads
returns-clause-leads c =
    let m = c.args.self.now.machine.now in
    let schedule = (seen_at c.args.found.now c.args.place).schedule in
    let x = c.in-Ok.ensures.are in
    subst (LeadOn (state_after m) schedule 0) (sym x.are)
    (nexts_lead m schedule x.world
    (subst (λ s. world_after m s ≡ Some x.world) (c.deref.ensures.value ∙ c.in_ok-entries.ensures)
    x.leads))
