use Rattle.std.proofs.Common.{◌≡◌, Some, subst, ◌∙◌}
use Rattle.l4_explore.specs.Inner.Views.{next_from}
use Rattle.l4_outlooks.specs.Inner.Foreseen.{Foreseen}
use Rattle.l4_all_endings.specs.Tried.{next_at}
use Rattle.l4_stuck.proofs.Growing.{code_behind, edge_added}
use Rattle.l4_stuck.proofs.graph.add_edge.Goals as goal

pub returns : goal.returns
returns c = λ v goes.
    let o = c.args.outlook.now in
    let entry = c.args.entry in
    let choice = c.in_ok-choice.choice in
    let next = subst (λ (x : Foreseen). next_at x.machine x.world entry ≡ Some (next_from choice))
    c.in_ok-try_clone.ensures c.in_ok-choice.ensures in
    edge_added o.machine c.args.found.now c.args.place entry c.in-Some.to o.world v
    c.args.edges.now.items c.push.new.self.items c.requires.timed c.requires.reached
    c.requires.at.at goes c.in-Some.ensures.found.0
    (c.in-Some.ensures.found.1 ∙ c.deref.ensures.value
    ∙ code_behind o.machine o.world v entry (next_from choice) next goes)
    c.in_ok-push.ensures.items
