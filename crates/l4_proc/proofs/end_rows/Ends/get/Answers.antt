use Rattle.std.proofs.Common.{◌≡◌, ◌<◌, ◌/◌, length, get_or, refl, sym, arith}
use Rattle.std.proofs.lemmas.Grind.{common_steps}
use Rattle.std.proofs.lemmas.List.{get_or_read}
use Rattle.l4_proc.proofs.EndRows.{as_many_ends, end_read, has_chunk}
use Rattle.l4_proc.proofs.end_rows.Ends.get.Goals as goal

pub returns-in-Short : goal.returns-in-Short
returns-in-Short c =
    let rows = c.self.inside.rows.items in
    let wide = c.self.inside.wide.items in
    let bases = c.self.inside.bases.items in
    let within : c.args.i < length rows = grind (arith, common_steps, as_many_ends) in
    let chunk : c.args.i / 64 < length bases = has_chunk bases _ _ _ c.args.i c.self.invariant.4 (grind (arith, common_steps, as_many_ends)) in
    let base : get_or bases (c.args.i / 64) 0 ≡ c.index-in-Short.result.now = sym (get_or_read bases (c.args.i / 64) _ chunk c.index-in-Short.ensures 0) in
    rw (← c.self.view_is) (end_read bases wide rows c.args.i c.index.result.now _ within c.index.ensures
    (rw (c.in-Short.is, base, c.from.ensures, c.from-in-Short.ensures) refl))

pub returns-in-Wide : goal.returns-in-Wide
returns-in-Wide c =
    let rows = c.self.inside.rows.items in
    let wide = c.self.inside.wide.items in
    let bases = c.self.inside.bases.items in
    let within : c.args.i < length rows = grind (arith, common_steps, as_many_ends) in
    let kept : c.in-Wide.at < length wide = grind (arith, common_steps, as_many_ends) in
    rw (← c.self.view_is) (end_read bases wide rows c.args.i c.index.result.now _ within c.index.ensures
    (rw c.in-Wide.is (sym (get_or_read wide c.in-Wide.at _ kept c.index-in-Wide.ensures _))))
