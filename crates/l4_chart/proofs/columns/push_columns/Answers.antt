use Rattle.std.proofs.Common.{◌≡◌, ◌++◌, ◌∙◌, Option, List, ap, append-nil, sym}
use Rattle.std.specs.Option.{option_to_list}
use Rattle.l4_chart.specs.Charts.{column_on}
use Rattle.l4_chart.specs.declared.columns.Column.{Column}
use Rattle.l4_chart.proofs.Shown.{found_next}
use Rattle.l4_chart.proofs.columns.push_columns.Goals as goal
use Rattle.l4_chart.proofs.columns.push_columns.Goals.{in-Some+in_ok-push, in_default}

pub loop-declared-preserved : goal.loop-declared-preserved
loop-declared-preserved c =
    let on = column_on c.args.window.now.threads c.args.cpu in
    let old = c.loop-declared.columns.items in
    let next = λ (new : List Column) (more : new ≡ old ++ option_to_list (on c.declared-item.result)).
    found_next on c.threads-declared-items.result.now c.loop-declared.declared-index c.declared-item.result c.args.columns.now.items old new
    c.loop-declared-test.true c.declared-item.is c.loop-declared.invariant more in
    elim c.match-column_on.branch [
      | in-Some+in_ok-push w ↦
          next _ (rw w.columns-is (w.in_ok-push.ensures.items ∙ ap (λ (o : Option Column). old ++ option_to_list o) (sym w.in-Some.is ∙ c.column_on.ensures)))
      | in_default w ↦
          next _ (rw w.columns-is (sym (append-nil old) ∙ ap (λ (o : Option Column). old ++ option_to_list o) (sym w.in_default.is ∙ c.column_on.ensures)))
    ]
