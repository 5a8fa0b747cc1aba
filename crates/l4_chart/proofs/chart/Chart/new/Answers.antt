use Rattle.std.proofs.Common.{ap, ap₂, map, refl, ◌∙◌}
use Rattle.std.specs.Prelude.{min}
use Rattle.l4_audit.specs.Inner.Audited.{Audited}
use Rattle.l4_chart.specs.Charts.{row_of}
use Rattle.l4_chart.specs.Standings.{standings_in}
use Rattle.l4_chart.proofs.Walking.{as_many, chart_is, possible_until, rows_are, world_is}
use Rattle.l4_chart.proofs.chart.Chart.new.Goals as goal

pub rows_of-requires-clause-possible : goal.rows_of-requires-clause-possible
rows_of-requires-clause-possible c =
    let m = c.args.machine.now in
    possible_until c.in_ok-world.world.machine m c.args.window.now c.args.history.now.steps c.min-count.result (ap (λ (a : Audited). a.machine) c.in_ok-world.ensures)
    (c.min-count.ensures ∙ ap₂ min c.len.ensures.value c.last.ensures) c.requires

pub circles_after-requires-clause-possible : goal.circles_after-requires-clause-possible
circles_after-requires-clause-possible c =
    let m = c.args.machine.now in
    possible_until m m c.args.window.now c.args.history.now.steps c.min-count.result refl (c.min-count.ensures ∙ ap₂ min c.len.ensures.value c.last.ensures) c.requires

pub returns : goal.returns
returns c =
    let m = c.args.machine.now in
    let listing = c.args.listing.now in
    let part = c.args.window.now in
    let steps = c.args.history.now.steps in
    let n = c.min-count.result in
    let rows = map row_of c.in_ok-rows.rows.items in
    chart_is m listing part steps n c.in_ok-columns.columns.items rows c.in_ok-standings.standings.items c.in_ok-circles.circles.items c.rows_of.new.world
    (as_many part steps n (c.min-count.ensures ∙ ap₂ min c.len.ensures.value c.last.ensures)) c.requires c.in_ok-columns.ensures
    (rows_are m listing part steps n c.in_ok-columns.columns.items c.as_slice.result.now rows c.in_ok-world.world c.in_ok-world.ensures c.as_slice.ensures.value
    c.in_ok-rows.ensures.rows)
    (world_is m steps n c.in_ok-world.world c.rows_of.new.world c.in_ok-world.ensures c.in_ok-rows.ensures.world)
    (c.in_ok-standings.ensures ∙ ap (standings_in c.rows_of.new.world.machine listing c.rows_of.new.world.world) c.as_slice-2.ensures.value) c.in_ok-circles.ensures
