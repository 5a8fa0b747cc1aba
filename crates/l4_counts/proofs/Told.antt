-- The lines of all threads, one more at a time.
use Rattle.std.proofs.Common.{◌≡◌, ℕ, ◌+◌, ◌<◌, List, [], ◌∷◌, ◌++◌, length, get_or, take, ap, sym, ◌∙◌, arith}
use Rattle.std.specs.Prelude.{flat_map, min}
use Rattle.std.specs.List.{zip}
use Rattle.std.proofs.lemmas.List.{flat_map_more, take_all, take_more}
use Rattle.std.proofs.lemmas.Slice.Zip.{get_or-zip, length-zip}
use Rattle.l4_model.specs.Words.{GlobalId}
use Rattle.l4_model.specs.Machine.{Declaration}
use Rattle.l4_counts.specs.declared.counts.Counts.{Counts}
use Rattle.l4_counts.specs.Lines.{counts_line}
use Rattle.l4_counts.specs.Inner.Threads.{line_of, counts_lines}

pub line_more : (ds : List Declaration) (cs : List Counts) (before so_far now : List ℕ) (n k : ℕ) (d : Declaration) (c : Counts) (id : GlobalId) →
    n < length ds → n < length cs → d ≡ get_or ds n d → c ≡ get_or cs n c → id ≡ d.id → k ≡ n + 1 →
    so_far ≡ before ++ flat_map line_of (take n (zip ds cs)) → now ≡ so_far ++ counts_line id c → now ≡ before ++ flat_map line_of (take k (zip ds cs))
line_more ds cs before so_far now n k d c id first second at_first at_second own next is more =
    let size = length-zip ds cs in
    let pair : get_or (zip ds cs) n (d, c) ≡ (d, c) = get_or-zip ds cs n (d, c) first second ∙ (λ j. (sym at_first j, sym at_second j)) in
    let longer : take k (zip ds cs) ≡ take n (zip ds cs) ++ (d, c) ∷ [] =
    ap (λ (i : ℕ). take i (zip ds cs)) next ∙ take_more (zip ds cs) n (d, c) (omega (arith, size, first, second))
    ∙ ap (λ (p : Declaration × Counts). take n (zip ds cs) ++ p ∷ []) pair in
    more ∙ ap (λ (i : GlobalId). so_far ++ counts_line i c) own ∙ ap (λ (xs : List ℕ). xs ++ line_of (d, c)) is
    ∙ flat_map_more line_of before (take n (zip ds cs)) (d, c) ∙ ap (λ (ps : List (Declaration × Counts)). before ++ flat_map line_of ps) (sym longer)

pub lines_end : (ds : List Declaration) (cs : List Counts) (before now : List ℕ) (n : ℕ) → n ≡ min (length ds) (length cs) →
    now ≡ before ++ flat_map line_of (take n (zip ds cs)) → now ≡ before ++ counts_lines ds cs
lines_end ds cs before now n size is =
    let all : take n (zip ds cs) ≡ zip ds cs = let long = length-zip ds cs in take_all n (zip ds cs) (omega (arith, long, size)) in
    is ∙ ap (λ (ps : List (Declaration × Counts)). before ++ flat_map line_of ps) all
