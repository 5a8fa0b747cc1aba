-- What a push makes of the rows that keep ends, and what a place among them tells.
use Rattle.std.proofs.Common.{◌≡◌, ℕ, ◌+◌, ◌-◌, ◌*◌, ◌/◌, ◌<◌, ◌≤◌, zero, suc, List, [], ◌∷◌, ◌++◌, length, get_or, refl, ap, sym, ◌∙◌, arith}
use Rattle.std.specs.Prelude.{All, Some, slice_get}
use Rattle.std.proofs.lemmas.List.{get_or_append_left}
use Rattle.std.proofs.lemmas.List.Elements.{All-head, All-tail}
use Rattle.std.proofs.Math.Seq.{get_or-append_seam}
use Rattle.l4_proc.specs.declared.end_rows.End.{End}
use Rattle.l4_proc.specs.declared.end_rows.Row.{Row}
use Rattle.l4_proc.specs.declared.end_rows.Row.TheVariants.{Short, Wide}
use Rattle.l4_proc.specs.Inner.EndRows.{HasBases, IsRow, IsShort, end_of, ends_from}

pub as_many_ends : (bases : List ℕ) (wide : List End) (rows : List Row) (i : ℕ) → length (ends_from bases wide rows i) ≡ length rows
as_many_ends bases wide [] i = refl
as_many_ends bases wide (r ∷ rows) i = ap suc (as_many_ends bases wide rows (i + 1))

end_told : (bases : List ℕ) (wide : List End) (rows : List Row) (i at : ℕ) (r : Row) → at < length rows →
    slice_get (ends_from bases wide rows i) at ≡ Some (end_of (get_or bases ((i + at) / 64) 0) wide (get_or rows at r))
end_told bases wide [] i at r within = absurd (omega arith)
end_told bases wide (row ∷ rows) i zero r within = let same : i ≡ i + 0 = omega arith in ap (λ (k : ℕ). Some (end_of (get_or bases (k / 64) 0) wide row)) same
end_told bases wide (row ∷ rows) i (suc at) r within =
    let same : i + 1 + at ≡ i + suc at = omega arith in
    end_told bases wide rows (i + 1) at r (omega arith) ∙ ap (λ (k : ℕ). Some (end_of (get_or bases (k / 64) 0) wide (get_or rows at r))) same

-- The end that a row was read for.
pub end_read : (bases : List ℕ) (wide : List End) (rows : List Row) (at : ℕ) (r : Row) (end : End) → at < length rows → r ≡ get_or rows at r →
    end_of (get_or bases (at / 64) 0) wide r ≡ end → slice_get (ends_from bases wide rows 0) at ≡ Some end
end_read bases wide rows at r end within is told =
    let same : 0 + at ≡ at = omega arith in
    end_told bases wide rows 0 at r within ∙ ap (λ (k : ℕ). Some (end_of (get_or bases (k / 64) 0) wide (get_or rows at r))) same
    ∙ ap (λ (x : Row). Some (end_of (get_or bases (at / 64) 0) wide x)) (sym is) ∙ ap Some told

row-kept : (wide more : List End) (base : ℕ) (r : Row) → IsRow (length wide) r → end_of base (wide ++ more) r ≡ end_of base wide r
row-kept wide more base (Short choice ahead place) is = refl
row-kept wide more base (Wide at) is = get_or_append_left wide more _ at is

rows-kept : (bases : List ℕ) (wide more : List End) (rows : List Row) (i : ℕ) → All (IsRow (length wide)) rows → ends_from bases (wide ++ more) rows i ≡ ends_from bases wide rows i
rows-kept bases wide more [] i are = refl
rows-kept bases wide more (r ∷ rows) i are =
    rw (row-kept wide more (get_or bases (i / 64) 0) r (All-head (IsRow (length wide)) r rows are)) (ap (λ (es : List End). end_of (get_or bases (i / 64) 0) wide r ∷ es)
    (rows-kept bases wide more rows (i + 1) (All-tail (IsRow (length wide)) r rows are)))

-- The chunks that have begun keep their bases.
pub bases-kept : (bases more : List ℕ) (wide : List End) (rows : List Row) (i : ℕ) → i + length rows ≤ 64 * length bases →
    ends_from (bases ++ more) wide rows i ≡ ends_from bases wide rows i
bases-kept bases more wide [] i within = refl
bases-kept bases more wide (r ∷ rows) i within =
    let here : i / 64 < length bases = omega arith in
    rw (get_or_append_left bases more 0 (i / 64) here) (ap (λ (es : List End). end_of (get_or bases (i / 64) 0) wide r ∷ es)
    (bases-kept bases more wide rows (i + 1) (omega arith)))

one_more : (bases : List ℕ) (wide : List End) (rows : List Row) (r : Row) (i : ℕ) →
    ends_from bases wide (rows ++ r ∷ []) i ≡ ends_from bases wide rows i ++ end_of (get_or bases ((i + length rows) / 64) 0) wide r ∷ []
one_more bases wide [] r i = let same : i ≡ i + 0 = omega arith in ap (λ (k : ℕ). end_of (get_or bases (k / 64) 0) wide r ∷ []) same
one_more bases wide (row ∷ rows) r i =
    let same : i + 1 + length rows ≡ i + suc (length rows) = omega arith in
    ap (λ (es : List End). end_of (get_or bases (i / 64) 0) wide row ∷ es) (one_more bases wide rows r (i + 1)
    ∙ ap (λ (k : ℕ). ends_from bases wide rows (i + 1) ++ end_of (get_or bases (k / 64) 0) wide r ∷ []) same)

-- The base of the chunk that has room is the last.
last_base : (bases : List ℕ) (base rows room : ℕ) → HasBases bases base rows room → 0 < room → get_or bases (rows / 64) 0 ≡ base
last_base bases base rows room has some =
    let counted = has.counted in
    let few = has.few in
    let chunk : rows / 64 ≡ length bases - 1 = omega arith in
    ap (λ (k : ℕ). get_or bases k 0) chunk ∙ sym (has.last some)

pub has_chunk : (bases : List ℕ) (base rows room i : ℕ) → HasBases bases base rows room → i < rows → i / 64 < length bases
has_chunk bases base rows room i has within = omega (arith, has.counted)

pub short_pushed : (bases : List ℕ) (base count room : ℕ) (rows : List Row) (wide : List End) (end : End) (r : Row) → count ≡ length rows →
    HasBases bases base count room → 0 < room → IsShort base end r → ends_from bases wide (rows ++ r ∷ []) 0 ≡ ends_from bases wide rows 0 ++ end ∷ []
short_pushed bases base count room rows wide end r many has some short =
    let same : 0 + length rows ≡ count = omega arith in
    one_more bases wide rows r 0
    ∙ ap (λ (k : ℕ). ends_from bases wide rows 0 ++ end_of (get_or bases (k / 64) 0) wide r ∷ []) same
    ∙ ap (λ (b : ℕ). ends_from bases wide rows 0 ++ end_of b wide r ∷ []) (last_base bases base count room has some)
    ∙ ap (λ (e : End). ends_from bases wide rows 0 ++ e ∷ []) (short.same wide)

pub wide_pushed : (bases : List ℕ) (rows : List Row) (wide : List End) (end : End) → All (IsRow (length wide)) rows →
    ends_from bases (wide ++ end ∷ []) (rows ++ Wide (length wide) ∷ []) 0 ≡ ends_from bases wide rows 0 ++ end ∷ []
wide_pushed bases rows wide end are =
    rw (one_more bases (wide ++ end ∷ []) rows (Wide (length wide)) 0, rows-kept bases wide (end ∷ []) rows 0 are, get_or-append_seam wide end [] (record { stamp = 0; place = 0; choice = 0 })) refl
