use Rattle.std.proofs.Common.{◌≡◌, ◌++◌, ◌∷◌, [], ℕ, List, map, length, Result, Ok, Err, OnOk, OnErr, sym, ap, subst, ◌∙◌}
use Rattle.l4_explore.specs.Inner.Rows.{AreRows, IsRowOf, whole}
use Rattle.l4_explore.proofs.Parted.{rows_as, rows_more, still_rows, view_more}
use Rattle.l4_explore.proofs.rows.Rows.push.Goals as goal

-- Of an answer with an error nothing else is said.
on_err : {A E : Type 0} (r : Result A E) (P : Type 0) → P → OnErr r P
on_err (Ok x) P p = tt
on_err (Err e) P p = p

on_ok : {A E : Type 0} (r : Result A E) (P Q : Type 0) → (P → Q) → OnOk r P → OnOk r Q
on_ok (Ok x) P Q f p = f p
on_ok (Err e) P Q f p = tt

on_err_of : {A E : Type 0} (r : Result A E) (P Q : Type 0) → (P → Q) → OnErr r P → OnErr r Q
on_err_of (Ok x) P Q f p = tt
on_err_of (Err e) P Q f p = f p

-- Whether the row was added or not, all rows are of parts.
either : {A E : Type 0} (r : Result A E) (count : ℕ) (rows new : List (List ℕ)) (row : List ℕ) →
    AreRows count rows → AreRows count (rows ++ row ∷ []) →
    OnOk r (new ≡ rows ++ row ∷ []) → OnErr r (new ≡ rows) → AreRows count new
either (Ok x) count rows new row old more ok err = subst (AreRows count) (sym ok) more
either (Err e) count rows new row old more ok err = subst (AreRows count) (sym err) old

pub returns-in_err-row-clause-err : goal.returns-in_err-row-clause-err
returns-in_err-row-clause-err c = on_err c.from_residual.result _
    (rows_as c.self.inside.pieces c.row_of.new.pieces c.row_of.ensures.more c.self.inside.rows
    c.self.invariant ∙ c.self.view_is)

is_row : (c : goal.After-drop-row) →
    IsRowOf c.row_of.new.pieces c.deref.result.now c.args.code.now
is_row c = subst (λ row. IsRowOf c.row_of.new.pieces row c.args.code.now) (sym c.deref.ensures.value)
    c.in_ok-row.ensures.ok

pub invariant_of-self-2 : goal.invariant_of-self-2
invariant_of-self-2 c =
    let rows = still_rows c.self.inside.pieces c.row_of.new.pieces c.row_of.ensures.more
    c.self.inside.rows c.self.invariant in
    either c.push.result (length c.row_of.new.pieces) c.self.inside.rows c.push.new.self
    c.deref.result.now rows
    (rows_more (length c.row_of.new.pieces) c.self.inside.rows c.deref.result.now rows
    (is_row c).below)
    c.push.ensures.ok c.push.ensures.err

pub returns-clause-ok : goal.returns-clause-ok
returns-clause-ok c = on_ok c.push.result _ _ (λ is.
    ap (map (whole c.row_of.new.pieces)) is
    ∙ view_more c.self.inside.pieces c.row_of.new.pieces c.row_of.ensures.more c.self.inside.rows
    c.deref.result.now c.args.code.now c.self.invariant (is_row c).is
    ∙ ap (λ codes. codes ++ c.args.code.now ∷ []) c.self.view_is) c.push.ensures.ok

pub returns-clause-err : goal.returns-clause-err
returns-clause-err c = on_err_of c.push.result _ _ (λ is.
    ap (map (whole c.row_of.new.pieces)) is
    ∙ rows_as c.self.inside.pieces c.row_of.new.pieces c.row_of.ensures.more c.self.inside.rows
    c.self.invariant
    ∙ c.self.view_is) c.push.ensures.err
