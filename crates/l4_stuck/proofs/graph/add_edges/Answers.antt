use Rattle.std.proofs.Common.{◌<◌, List, ℕ, get_or, length, refl, subst, sym, ap, ◌∙◌, arith}
use Rattle.std.specs.Prelude.{slice_get}
use Rattle.l4_all_endings.specs.Tried.{AreOpen}
use Rattle.l4_all_endings.proofs.Leading.{open_at, possible_open}
use Rattle.l4_stuck.proofs.Growing.{item_at, one_more_open}
use Rattle.l4_stuck.proofs.graph.add_edges.Goals as goal

pub add_edge-requires-clause-possible : goal.add_edge-requires-clause-possible
add_edge-requires-clause-possible c =
    let o = c.args.outlook.now in
    let entries = c.deref-entry-items.result.now in
    open_at o.machine o.world entries c.loop-entry.entry-index
    (omega (arith, c.loop-entry-test.true))
    (subst (AreOpen o.machine o.world)
    (sym (c.deref-entry-items.ensures.value ∙ c.in_ok-possible.ensures))
    (possible_open o.machine o.world))

pub loop-entry-preserved : goal.loop-entry-preserved
loop-entry-preserved c =
    let o = c.args.outlook.now in
    let entries = c.deref-entry-items.result.now in
    let i = c.loop-entry.entry-index in
    let inside : i < length entries = omega (arith, c.loop-entry-test.true) in
    let same = c.deref-entry-items.ensures.value ∙ c.in_ok-possible.ensures in
    one_more_open o.machine c.args.found.now c.args.place o.world c.args.edges.now.items
    c.loop-entry.edges.items c.add_edge.new.edges.items i (get_or entries i 0)
    c.in_ok-add_edge.field-0
    (ap (λ (es : List ℕ). slice_get es i) (sym same)
    ∙ item_at entries i (get_or entries i 0) 0 inside refl)
    (open_at o.machine o.world entries i inside
    (subst (AreOpen o.machine o.world) (sym same) (possible_open o.machine o.world)))
    c.in_ok-add_edge.ensures c.loop-entry.invariant
