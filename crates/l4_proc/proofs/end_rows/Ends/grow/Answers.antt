use Rattle.std.proofs.Common.{◌+◌, ◌*◌, ◌≤◌, [], ◌∷◌, length, arith}
use Rattle.std.proofs.lemmas.Grind.{common_steps}
use Rattle.l4_proc.proofs.EndRows.{bases-kept}
use Rattle.l4_proc.proofs.end_rows.Ends.grow.Goals as goal

pub returns-clause-items : goal.returns-clause-items
returns-clause-items c =
    let e = c.self.inside in
    let has = c.self.invariant.4 in
    let counted = has.counted in
    let within : 0 + length e.rows.items ≤ 64 * length e.bases.items = grind (arith, common_steps) in
    rw (← c.self.view_is, c.reserve.ensures.items, c.reserve-2.ensures.items, c.in_ok-push.ensures.items)
    (bases-kept e.bases.items (c.next_base-base.result ∷ []) e.wide.items e.rows.items 0 within)
