use Rattle.std.proofs.Common.{◌≡◌, ◌++◌, ◌∙◌, Option, List, [], ap, append-nil, sym}
use Rattle.std.specs.Option.{option_to_list}
use Rattle.l4_chart.specs.Standings.{standing_in}
use Rattle.l4_chart.specs.declared.standings.Standing.{Standing}
use Rattle.l4_chart.proofs.Shown.{found_next}
use Rattle.l4_chart.proofs.standings.standings_in.Goals as goal
use Rattle.l4_chart.proofs.standings.standings_in.Goals.{in-Some+in_ok-push, in_default}

pub loop-column-preserved : goal.loop-column-preserved
loop-column-preserved c =
    let in_column = standing_in c.args.world.now.machine c.args.listing.now c.args.world.now.world in
    let old = c.loop-column.standings.items in
    let next = λ (new : List Standing) (more : new ≡ old ++ option_to_list (in_column c.column-item.result)).
    found_next in_column c.args.columns.now c.loop-column.column-index c.column-item.result [] old new c.loop-column-test.true c.column-item.is c.loop-column.invariant more in
    elim c.match-standing_in.branch [
      | in-Some+in_ok-push w ↦
          next _ (rw w.standings-is (w.in_ok-push.ensures.items ∙ ap (λ (o : Option Standing). old ++ option_to_list o) (sym w.in-Some.is ∙ c.standing_in.ensures)))
      | in_default w ↦
          next _ (rw w.standings-is (sym (append-nil old) ∙ ap (λ (o : Option Standing). old ++ option_to_list o) (sym w.in_default.is ∙ c.standing_in.ensures)))
    ]
