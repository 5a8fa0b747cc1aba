-- Lines that are written at once.
use Rattle.std.proofs.Common.{◌≡◌, ℕ, ◌+◌, ◌<◌, ◌≤◌, ◌%◌, true, false, List, [], ◌∷◌, ◌++◌, length, map, replicate, refl, sym, ap, ap₂, ◌∙◌, arith, append_assoc}
use Rattle.std.specs.Prelude.{◌==◌, codes, flat_map}
use Rattle.std.specs.List.{list_all}
use Rattle.std.proofs.lemmas.Bool.{and_parts}
use Rattle.std.proofs.lemmas.Bool.Decides.{nat_tests}
use Rattle.l4_core_model.specs.Schedules.{Entry, TurnOf, TickOf, LetterOf, CoreOf, TickTo}
use Rattle.l4_replay.specs.Entries.{entry_from}
use Rattle.l4_replay.specs.declared.entries.Entry as code
use Rattle.l4_schedules.specs.Items.{item_of}
use Rattle.l4_schedules.specs.Written.{in_lines, is_first_core, schedule_text, separator}
use Rattle.l4_schedules.proofs.Digits.{one_digit}

pub in_lines-append : (before : ℕ) (entries others : List Entry) →
    in_lines before (entries ++ others) ≡ in_lines before entries ++ in_lines (before + length entries) others
in_lines-append before [] others = let here : before ≡ before + 0 = omega arith in ap (λ n. in_lines n others) here
in_lines-append before (entry ∷ entries) others =
    let next : before + 1 + length entries ≡ before + length (entry ∷ entries) = omega arith in
    ap (λ rest. separator before ++ item_of entry ++ rest)
    (in_lines-append (before + 1) entries others ∙ ap (λ n. in_lines (before + 1) entries ++ in_lines n others) next)
    ∙ sym (append_assoc (separator before ++ item_of entry) (in_lines (before + 1) entries) (in_lines (before + length (entry ∷ entries)) others))

-- Within a line an item stands behind a comma alone.
comma : (start place : ℕ) → start % 16 ≡ 0 → 0 < place → place < 16 → separator (start + place) ≡ codes ","
comma start place begins behind within =
    let some : (start + place == 0) ≡ false = grind (arith, nat_tests, behind) in
    let inner : ((start + place) % 16 == 0) ≡ false = grind (arith, nat_tests, begins, behind, within) in
    rw (some, inner) refl

in_line : (start place : ℕ) (entries : List Entry) → start % 16 ≡ 0 → 0 < place → place + length entries ≤ 16 →
    in_lines (start + place) entries ≡ flat_map (λ entry. codes "," ++ item_of entry) entries
in_line start place [] begins behind within = refl
in_line start place (entry ∷ entries) begins behind within =
    let next : start + place + 1 ≡ start + (place + 1) = omega arith in
    ap₂ (λ lead rest. lead ++ item_of entry ++ rest)
    (comma start place begins behind (omega arith))
    (ap (λ n. in_lines n entries) next ∙ in_line start (place + 1) entries begins (omega arith) (omega arith))

-- So a line is the list of its entries, behind what separates it from those before.
pub whole_line : (before : ℕ) (entry : Entry) (entries : List Entry) → before % 16 ≡ 0 → length entries < 16 →
    in_lines before (entry ∷ entries) ≡ separator before ++ schedule_text (entry ∷ entries)
whole_line before entry entries begins within =
    ap (λ rest. separator before ++ item_of entry ++ rest) (in_line before 1 entries begins (omega arith) (omega arith))
    ∙ append_assoc (separator before) (item_of entry) (flat_map (λ entry. codes "," ++ item_of entry) entries)

-- A line of turns of core 0

pub core_line : (before : ℕ) → before % 16 ≡ 0 →
    in_lines before (replicate 16 (CoreOf 0)) ≡ separator before ++ codes "c0,c0,c0,c0,c0,c0,c0,c0,c0,c0,c0,c0,c0,c0,c0,c0"
core_line before begins =
    let item : item_of (CoreOf 0) ≡ codes "c0" = ap (λ digit. codes "c" ++ digit) (one_digit 0 (omega arith)) in
    whole_line before (CoreOf 0) (replicate 15 (CoreOf 0)) begins (omega arith)
    ∙ ap (λ (item : List ℕ). separator before ++ (item ++ flat_map (λ (item : List ℕ). codes "," ++ item) (replicate 15 item))) item

is_core : (entry : Entry) → is_first_core entry ≡ true → entry ≡ CoreOf 0
is_core (CoreOf cpu) is = let same : cpu ≡ 0 = grind (arith, nat_tests, is) in ap CoreOf same
is_core (TurnOf cpu) is = absurd cc
is_core (TickOf cpu) is = absurd cc
is_core (LetterOf cpu from) is = absurd cc
is_core (TickTo cpu clock) is = absurd cc

pub are_cores : (line : List code.Entry) → list_all (λ entry. is_first_core (entry_from entry)) line ≡ true →
    map entry_from line ≡ replicate (length line) (CoreOf 0)
are_cores [] is = refl
are_cores (entry ∷ line) is =
    let parts = and_parts (is_first_core (entry_from entry)) (list_all (λ entry. is_first_core (entry_from entry)) line) is in
    ap₂ (λ (e : Entry) (es : List Entry). e ∷ es) (is_core (entry_from entry) parts.0) (are_cores line parts.1)
