use Rattle.std.proofs.Common.{[]}
use Rattle.l4_chart.specs.Changes.{held_in}
use Rattle.l4_chart.specs.declared.columns.Column.{Column}
use Rattle.l4_chart.proofs.Shown.{found_next}
use Rattle.l4_chart.proofs.changes.all_held.Goals as goal

pub loop-column-preserved : goal.loop-column-preserved
loop-column-preserved c =
    let l = c.loop-column in
    found_next (λ (column : Column). held_in c.args.world.now.machine c.args.world.now.world column.id) c.args.columns.now l.column-index c.column-item.result []
    l.all.items c.push_held.new.all.items c.loop-column-test.true c.column-item.is l.invariant c.in_ok-push_held.ensures
