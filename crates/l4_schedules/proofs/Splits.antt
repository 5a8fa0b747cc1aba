-- The items of a list, by its commas.
use Rattle.std.proofs.Common.{◌≡◌, ℕ, ◌+◌, ◌<◌, ◌==◌, Bool, false, List, [], ◌∷◌, ◌++◌, length, map, refl, ap, ◌∙◌, arith, append-nil, length-append}
use Rattle.std.specs.Prelude.{count_by, codes, flat_map}
use Rattle.std.specs.List.{AllByRecursion, slice_split}
use Rattle.std.proofs.lemmas.Bool.Decides.{nat_tests}
use Rattle.std.proofs.lemmas.List.Splits.{length-slice_split, slice_split_none, slice_split_at}
use Rattle.l4_core_model.specs.Schedules.{Entry}
use Rattle.l4_schedules.specs.Items.{items_of, item_of}
use Rattle.l4_schedules.specs.Written.{schedule_text}
use Rattle.l4_schedules.proofs.Plain.{IsPlain, no_comma}

-- A list that is not empty has one item more than commas.
pub items_by_commas : (list : List ℕ) → (length list == 0) ≡ false → length (items_of list) ≡ count_by (λ byte. byte == 44) list + 1
items_by_commas list filled = rw filled (length-slice_split (λ byte. byte == 44) list)

abbrev pub is_comma : ℕ → Bool
is_comma byte = byte == 44

-- Each of these entries has an item of plain bytes.
abbrev pub ArePlain : List Entry → Type 0
ArePlain entries = AllByRecursion (λ entry. IsPlain (item_of entry)) entries

-- What stands between the commas is the items again.
pub items_split : (entry : Entry) (entries : List Entry) → IsPlain (item_of entry) → ArePlain entries →
    slice_split is_comma (schedule_text (entry ∷ entries)) ≡ map item_of (entry ∷ entries)
items_split entry [] one others =
    ap (slice_split is_comma) (append-nil (item_of entry))
    ∙ slice_split_none is_comma (item_of entry) (no_comma (item_of entry) one.bytes)
items_split entry (next ∷ entries) one others =
    slice_split_at is_comma (item_of entry) 44 (schedule_text (next ∷ entries))
    (no_comma (item_of entry) one.bytes) refl
    ∙ ap (λ items. item_of entry ∷ items) (items_split next entries others.0 others.1)

pub filled : (item rest : List ℕ) → 0 < length item → (length (item ++ rest) == 0) ≡ false
filled item rest some =
    let more : 0 < length (item ++ rest) = omega (arith, length-append item rest) in
    grind (arith, nat_tests, more)

pub items_written : (entries : List Entry) → ArePlain entries →
    items_of (schedule_text entries) ≡ map item_of entries
items_written [] plain = refl
items_written (entry ∷ entries) plain =
    rw (filled (item_of entry) (flat_map (λ e. codes "," ++ item_of e) entries) plain.0.some)
    (items_split entry entries plain.0 plain.1)
