use Rattle.std.proofs.Common.{◌∙◌}
use Rattle.std.proofs.lemmas.Bool.{le-leb, leb-true}
use Rattle.l4_history.proofs.Read.{all_taken, nothing_left}
use Rattle.l4_history.proofs.steps.Steps.is_empty.Goals as goal

pub returns : goal.returns
returns c =
    let h = c.self.inside.history.now.steps in
    let end = c.self.inside.end in
    let next = c.self.inside.next in (
      λ past. rw (← c.self.view_is) (nothing_left h end next c.self.invariant (leb-true end next past)),
      λ none. le-leb end next (all_taken h end next c.self.invariant (c.self.view_is ∙ none)),
    )
