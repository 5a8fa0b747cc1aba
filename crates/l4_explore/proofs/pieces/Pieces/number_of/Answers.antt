use Rattle.std.proofs.Common.{length, map, subst, sym}
use Rattle.l4_explore.specs.Inner.Rows.{whole, AreLonger, IsRowOf}
use Rattle.l4_explore.proofs.Parted.{kept_more, none_longer, pieces_longer, rows_kept, still_rows}
use Rattle.l4_explore.proofs.pieces.Pieces.number_of.Goals as goal

is_row : (c : goal.After-drop-row) →
    IsRowOf c.row_of.new.parts c.deref.result.now c.args.piece.now
is_row c = subst (λ row. IsRowOf c.row_of.new.parts row c.args.piece.now)
    (sym c.deref.ensures.value) c.in_ok-row.ensures.ok

pub returns-in_err-row-clause-more : goal.returns-in_err-row-clause-more
returns-in_err-row-clause-more c =
    subst (λ old. AreLonger old (map (whole c.row_of.new.parts) c.self.inside.rows)) c.self.view_is
    (pieces_longer c.self.inside.parts c.row_of.new.parts c.self.inside.rows c.self.inside.rows
    c.self.invariant c.row_of.ensures.more.longer (none_longer c.self.inside.rows))

pub invariant_of-self-2 : goal.invariant_of-self-2
invariant_of-self-2 c =
    rows_kept (length c.row_of.new.parts) c.self.inside.rows c.number_of.new.codes c.deref.result.now
    (still_rows c.self.inside.parts c.row_of.new.parts c.row_of.ensures.more.longer
    c.self.inside.rows c.self.invariant)
    (is_row c).below c.number_of.ensures.kept

pub returns-clause-more : goal.returns-clause-more
returns-clause-more c =
    subst (λ old. AreLonger old (map (whole c.row_of.new.parts) c.number_of.new.codes))
    c.self.view_is
    (pieces_longer c.self.inside.parts c.row_of.new.parts c.self.inside.rows
    c.number_of.new.codes c.self.invariant c.row_of.ensures.more.longer
    (kept_more c.self.inside.rows c.number_of.new.codes c.deref.result.now
    c.number_of.ensures.kept).longer)
