-- Going over the words of a thread's line and what they tell.
use Rattle.std.proofs.Common.{◌≡◌, ℕ, suc, ◌+◌, ◌<◌, Bool, true, false, List, [], ◌∷◌, length, drop, map, get_or, drop-cons, refl, ap, ◌∙◌, arith}
use Rattle.std.specs.Prelude.{◌&&◌, ◌||◌, not}
use Rattle.l4_lines.specs.Lines.{are_rest, is_any}
use Rattle.l4_invariants.specs.Inner.Reads as reads
use Rattle.l4_condition_lines.specs.Inner.Reading.{columns_read, is_part}
use Rattle.l4_always.specs.Inner.Parts.{part_of}
use Rattle.l4_always.specs.declared.reading.Part.{Part}

left : (columns : List Part) (i : ℕ) (x : Part) → i < length columns →
    map part_of (drop i columns) ≡ part_of (get_or columns i x) ∷ map part_of (drop (i + 1) columns)
left columns i x lt =
    let up : suc i ≡ i + 1 = omega arith in
    ap (map part_of) (drop-cons columns i x lt ∙ ap (λ k. get_or columns i x ∷ drop k columns) up)

pub no_word : (columns : List Part) (i : ℕ) (x : Part) (part : reads.Part) → i < length columns →
    columns_read [] (map part_of (drop i columns)) part ≡ false
no_word columns i x part lt = ap (λ cs. columns_read [] cs part) (left columns i x lt)

by_rest : (rest asks others : Bool) → rest ≡ true → (not rest && (asks || others)) ≡ false
by_rest true asks others is = refl
by_rest false asks others is = cc

by_asks : (rest asks others : Bool) → rest ≡ false → asks ≡ true → (not rest && (asks || others)) ≡ true
by_asks false true others is it = refl
by_asks true asks others is it = cc
by_asks false false others is it = cc

by_others : (rest asks others : Bool) → rest ≡ false → asks ≡ false → (not rest && (asks || others)) ≡ others
by_others false false others is it = refl
by_others true asks others is it = cc
by_others false true others is it = cc

pub all_words : (columns : List Part) (i : ℕ) (x : Part) (word : List ℕ) (words : List (List ℕ)) (part : reads.Part) → i < length columns →
    are_rest (word ∷ words) ≡ true → columns_read (word ∷ words) (map part_of (drop i columns)) part ≡ false
all_words columns i x word words part lt is =
    ap (λ cs. columns_read (word ∷ words) cs part) (left columns i x lt)
    ∙ by_rest (are_rest (word ∷ words)) (not (is_any word) && is_part (part_of (get_or columns i x)) part) (columns_read words (map part_of (drop (i + 1) columns)) part) is

pub asked_here : (columns : List Part) (i : ℕ) (x : Part) (word : List ℕ) (words : List (List ℕ)) (part : reads.Part) → i < length columns →
    are_rest (word ∷ words) ≡ false → (not (is_any word) && is_part (part_of (get_or columns i x)) part) ≡ true → columns_read (word ∷ words) (map part_of (drop i columns)) part ≡ true
asked_here columns i x word words part lt is it =
    ap (λ cs. columns_read (word ∷ words) cs part) (left columns i x lt)
    ∙ by_asks (are_rest (word ∷ words)) (not (is_any word) && is_part (part_of (get_or columns i x)) part) (columns_read words (map part_of (drop (i + 1) columns)) part) is it

pub asked_behind : (columns : List Part) (i : ℕ) (x : Part) (word : List ℕ) (words : List (List ℕ)) (part : reads.Part) → i < length columns →
    are_rest (word ∷ words) ≡ false → (not (is_any word) && is_part (part_of (get_or columns i x)) part) ≡ false →
    columns_read (word ∷ words) (map part_of (drop i columns)) part ≡ columns_read words (map part_of (drop (i + 1) columns)) part
asked_behind columns i x word words part lt is it =
    ap (λ cs. columns_read (word ∷ words) cs part) (left columns i x lt)
    ∙ by_others (are_rest (word ∷ words)) (not (is_any word) && is_part (part_of (get_or columns i x)) part) (columns_read words (map part_of (drop (i + 1) columns)) part) is it
