use Rattle.std.proofs.Common.{map, subst, take, ◌∙◌}
use Rattle.l4_explore.specs.Search.{seen_at}
use Rattle.l4_explore.specs.Tries.{LeadOn}
use Rattle.l4_explore.specs.Inner.Views.{next_from}
use Rattle.l4_futures.specs.Inner.Search.{state_after}
use Rattle.l4_condition_lines.specs.Inner.Reading.{reads_of}
use Rattle.l4_always.proofs.Watching.{watched_lead}
use Rattle.l4_always.proofs.watch.WatchTries.choices.Goals as goal

pub returns-clause-leads : goal.returns-clause-leads
returns-clause-leads c =
    let m = c.args.self.now.machine.now in
    let found = c.args.found.now in
    let seen = seen_at found c.args.place in
    let choices = map next_from c.in-Ok.choices.items in
    subst (λ s. LeadOn (state_after m) s 0 choices)
    (c.deref.ensures.value ∙ c.in_ok-entries.ensures)
    (watched_lead m (reads_of c.args.self.now.condition.now) (take c.args.place found) seen
    c.deref.result.now choices c.in-Ok.ensures.are)
