-- What is written is read back.
use Rattle.std.proofs.Common.{◌≡◌, ℕ, ◌+◌, ◌≤◌, Bool, true, false, Option, Some, None, Ok, List, [], ◌∷◌, ◌++◌, length, map, refl, sym, ap, ◌∙◌, arith, append_assoc, append-nil}
use Rattle.std.specs.Prelude.{nat_lt, if◌then◌else◌, ◌&&◌}
use Rattle.std.specs.List.{AllByRecursion}
use Rattle.std.specs.Option.{option_map}
use Rattle.std.proofs.lemmas.Bool.{and_from, and_parts, lt-ltb, ltb-true}
use Rattle.std.proofs.lemmas.Bool.Decides.{nat_tests}
use Rattle.std.proofs.lemmas.List.{length-map}
use Rattle.l4_model.specs.Machine.{Machine}
use Rattle.l4_model.specs.Words.{clock_limit}
use Rattle.l4_core_model.specs.Schedules.{Entry, TurnOf, TickOf, LetterOf, CoreOf, TickTo}
use Rattle.l4_replay.specs.declared.fault.RunFault.TheVariants.{Turns, Schedule}
use Rattle.l4_replay.specs.Entries.{entries_fault, fault_of, first_stranger, is_entry, is_entry_of, most_events}
use Rattle.l4_schedules.specs.InFiles.{most_bytes, schedule_in_file}
use Rattle.l4_schedules.specs.Items.{entry_of, item_of, if_entry, read_items, schedule_within}
use Rattle.l4_schedules.specs.Written.{recorded_text, schedule_text}
use Rattle.l4_schedules.proofs.InLines.{list_recorded}
use Rattle.l4_schedules.proofs.ItemSpelling.{item_spells}
use Rattle.l4_schedules.proofs.Lengths.{text_short}
use Rattle.l4_schedules.proofs.Plain.{item_is_plain}
use Rattle.l4_schedules.proofs.Splits.{ArePlain, items_written}

-- Entries of a machine are those of 16 processors.

below_most : (cpus cpu : ℕ) → cpus ≤ 16 → nat_lt cpu cpus ≡ true → nat_lt cpu 16 ≡ true
below_most cpus cpu few is = lt-ltb cpu 16 (omega (arith, ltb-true cpu cpus is))

is_of_most : (cpus : ℕ) (entry : Entry) → cpus ≤ 16 → is_entry_of cpus entry ≡ true → is_entry_of 16 entry ≡ true
is_of_most cpus (TurnOf cpu) few is = below_most cpus cpu few is
is_of_most cpus (TickOf cpu) few is = below_most cpus cpu few is
is_of_most cpus (CoreOf cpu) few is = below_most cpus cpu few is
is_of_most cpus (LetterOf cpu from) few is =
    let each = and_parts (nat_lt cpu cpus) (nat_lt from cpus) is in
    and_from _ _ (below_most cpus cpu few each.0) (below_most cpus from few each.1)
is_of_most cpus (TickTo cpu clock) few is =
    let each = and_parts (nat_lt cpu cpus && nat_lt 0 clock) (nat_lt clock clock_limit) is in
    let first = and_parts (nat_lt cpu cpus) (nat_lt 0 clock) each.0 in
    and_from _ _ (and_from _ _ (below_most cpus cpu few first.0) first.1) each.1

-- Each is one of the machine.
abbrev pub AreEntries : Machine → List Entry → Type 0
AreEntries m entries = AllByRecursion (λ entry. is_entry m entry ≡ true) entries

abbrev pub AreOfMost : List Entry → Type 0
AreOfMost entries = AllByRecursion (λ entry. is_entry_of 16 entry ≡ true) entries

no_stranger : (m : Machine) (place : ℕ) (entries : List Entry) → first_stranger m place entries ≡ None → AreEntries m entries
no_stranger m place [] h = tt
no_stranger m place (entry ∷ entries) h = by _ refl (no_stranger m (place + 1) entries) h
  where
    by : (b : Bool) → is_entry m entry ≡ b → (first_stranger m (place + 1) entries ≡ None → AreEntries m entries) →
        (if b then first_stranger m (place + 1) entries else Some place) ≡ None → AreEntries m (entry ∷ entries)
    by true is rest h = (is, rest h)
    by false is rest h = absurd cc

of_most : (m : Machine) (entries : List Entry) → m.cpus ≤ 16 → AreEntries m entries → AreOfMost entries
of_most m [] few are = tt
of_most m (entry ∷ entries) few are = (is_of_most m.cpus entry few are.0, of_most m entries few are.1)

plain : (entries : List Entry) → AreOfMost entries → ArePlain entries
plain [] are = tt
plain (entry ∷ entries) are = (item_is_plain entry are.0, plain entries are.1)

-- They are not too many, and are the machine's.
record AreRight (most : ℕ) (m : Machine) (entries : List Entry) : Type 0 where
  few : nat_lt most (length entries) ≡ false
  are : AreEntries m entries

no_place : (o : Option ℕ) → option_map Schedule o ≡ None → o ≡ None
no_place None h = refl
no_place (Some n) h = absurd cc

right : (most : ℕ) (m : Machine) (entries : List Entry) → fault_of most m entries ≡ None → AreRight most m entries
right most m entries h = by _ refl h
  where
    by : (b : Bool) → nat_lt most (length entries) ≡ b → (if b then Some Turns else option_map Schedule (first_stranger m 1 entries)) ≡ None →
        AreRight most m entries
    by true is h = absurd cc
    by false is h = record { few = is; are = no_stranger m 1 entries (no_place (first_stranger m 1 entries) h) }

-- Reading the items

one_read : (m : Machine) (entry : Entry) → m.cpus ≤ 16 → is_entry m entry ≡ true → if_entry m (entry_of (item_of entry)) ≡ Some entry
one_read m entry few is = ap (if_entry m) (item_spells entry (is_of_most m.cpus entry few is)) ∙ rw is refl

all_read : (m : Machine) (before entries : List Entry) → m.cpus ≤ 16 → AreEntries m entries →
    read_items m before (map item_of entries) ≡ Ok (before ++ entries)
all_read m before [] few are = ap (λ entries. Ok entries) (sym (append-nil before))
all_read m before (entry ∷ entries) few are =
    rw (one_read m entry few are.0) (all_read m (before ++ entry ∷ []) entries few are.1)
    ∙ ap (λ entries. Ok entries) (append_assoc before (entry ∷ []) entries)

within : (most : ℕ) (m : Machine) (entries : List Entry) → m.cpus ≤ 16 → AreRight most m entries →
    schedule_within most m (schedule_text entries) ≡ Ok entries
within most m entries few h =
    let items = items_written entries (plain entries (of_most m entries few h.are)) in
    let count : nat_lt most (length (map item_of entries)) ≡ false = ap (nat_lt most) (length-map entries item_of) ∙ h.few in
    rw (items, count) (all_read m [] entries few h.are)

pub read_back : (most : ℕ) (m : Machine) (entries : List Entry) → m.cpus ≤ 16 → fault_of most m entries ≡ None →
    schedule_within most m (schedule_text entries) ≡ Ok entries
read_back most m entries few h = within most m entries few (right most m entries h)

pub recorded_back : (m : Machine) (entries : List Entry) → m.cpus ≤ 16 → entries_fault m entries ≡ None →
    schedule_in_file m (recorded_text entries) ≡ Ok entries
recorded_back m entries few h =
    let are = right most_events m entries h in
    let all = of_most m entries few are.are in
    let count : length entries ≤ most_events = grind (arith, nat_tests, are.few) in
    let short : length (recorded_text entries) ≤ most_bytes = omega (arith, text_short entries all, count) in
    let fits : nat_lt most_bytes (length (recorded_text entries)) ≡ false = grind (arith, nat_tests, short) in
    let list = list_recorded entries (plain entries all) in
    rw (fits, list) (within most_events m entries few are)
