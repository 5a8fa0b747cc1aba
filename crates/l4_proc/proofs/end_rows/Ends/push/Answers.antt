use Rattle.std.proofs.Common.{◌≡◌, ◌<◌, length, arith}
use Rattle.std.proofs.lemmas.Grind.{common_steps}
use Rattle.std.specs.Prelude.{vec_len}
use Rattle.l4_proc.proofs.EndRows.{short_pushed, wide_pushed}
use Rattle.l4_proc.proofs.end_rows.Ends.push.Goals as goal

pub returns-in-Some : goal.returns-in-Some
returns-in-Some c =
    let e = c.self.inside in
    let many : vec_len e.rows ≡ length e.rows.items = grind (arith, common_steps) in
    let some : 0 < e.room = grind (arith, common_steps) in
    rw (← c.self.view_is, c.push_reserved.ensures.items)
    (short_pushed e.bases.items e.base (vec_len e.rows) e.room e.rows.items e.wide.items c.args.end c.in-Some.row many c.self.invariant.4 some c.in-Some.ensures)

pub returns-in-None : goal.returns-in-None
returns-in-None c =
    let e = c.self.inside in
    let at : c.len.result ≡ length e.wide.items = grind (arith, common_steps) in
    rw (← c.self.view_is, c.push_reserved-in-None.ensures.items, c.push_reserved-in-None-2.ensures.items, at)
    (wide_pushed e.bases.items e.rows.items e.wide.items c.args.end c.self.invariant.0)
