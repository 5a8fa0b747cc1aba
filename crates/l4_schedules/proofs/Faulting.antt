-- The first fault that is listed for a list is the one that its reader returns.
use Rattle.std.proofs.Common.{◌≡◌, ℕ, ◌+◌, ◌<◌, ◌≤◌, Bool, true, false, Option, Some, None, Err, List, [], ◌∷◌, ◌++◌, length, take, refl, sym, ap, inl, inr, ◌∙◌, arith, length-append, length-take}
use Rattle.std.specs.Prelude.{◌⊎◌, ◌==◌, nat_lt, if◌then◌else◌}
use Rattle.std.proofs.lemmas.Bool.{lt-ltb}
use Rattle.std.proofs.lemmas.Bool.Decides.{nat_tests}
use Rattle.std.proofs.lemmas.List.{take_all}
use Rattle.l4_model.specs.Machine.{Machine}
use Rattle.l4_core_model.specs.Schedules.{Entry}
use Rattle.l4_replay.specs.declared.fault.RunFault.TheVariants.{Turns, Schedule}
use Rattle.l4_replay.specs.Entries.{is_entry, most_entries, most_events}
use Rattle.l4_schedules.specs.declared.faulty.ItemHint.{ItemHint}
use Rattle.l4_schedules.specs.declared.faulty.ItemHint.TheVariants.{LongFile, ManyItems, Processor}
use Rattle.l4_schedules.specs.Faulty.{fault, fault_at, fault_in, faults_from, faults_within, file_faults, first_in, hint_by, list_faults, refusal, spelling_hint}
use Rattle.l4_schedules.specs.InFiles.{list_in_file, most_bytes, schedule_in_file}
use Rattle.l4_schedules.specs.Items.{entry_of, if_entry, items_of, or_fault, read_items, schedule_of, schedule_within}

-- An item that is faulty has a number above 0.
numbered : (before : ℕ) (item : List ℕ) (hint : ItemHint) →
    refusal (fault (before + 1) item hint) ≡ Schedule (before + 1)
numbered before item hint =
    let some : (before + 1 == 0) ≡ false = grind (arith, nat_tests) in
    ap (λ (b : Bool). if b then Turns else Schedule (before + 1)) some

first_from : (m : Machine) (entries : List Entry) (items : List (List ℕ)) →
    first_in (faults_from m (length entries + 1) items) ≡ fault_in (read_items m entries items)
first_from m entries [] = refl
first_from m entries (item ∷ items) =
    by (entry_of item) λ entry.
    let longer : length entries + 1 + 1 ≡ length (entries ++ entry ∷ []) + 1
    = omega (arith, length-append entries (entry ∷ [])) in
    ap (λ (n : ℕ). first_in (faults_from m n items)) longer
    ∙ first_from m (entries ++ entry ∷ []) items
  where
    one : (b : Bool) (entry : Entry) →
        first_in (faults_from m (length entries + 1 + 1) items)
        ≡ fault_in (read_items m (entries ++ entry ∷ []) items) →
        first_in (fault_at (length entries + 1) item (if b then None else Some Processor)
        ++ faults_from m (length entries + 1 + 1) items)
        ≡ fault_in (or_fault (length entries + 1) (if b then Some entry else None)
        (λ e. read_items m (entries ++ e ∷ []) items))
    one true entry rest = rest
    one false entry rest = ap Some (numbered (length entries) item Processor)

    by : (o : Option Entry) →
        ((entry : Entry) → first_in (faults_from m (length entries + 1 + 1) items)
        ≡ fault_in (read_items m (entries ++ entry ∷ []) items)) →
        first_in (fault_at (length entries + 1) item (hint_by m item o)
        ++ faults_from m (length entries + 1 + 1) items)
        ≡ fault_in (or_fault (length entries + 1) (if_entry m o)
        (λ e. read_items m (entries ++ e ∷ []) items))
    by None rest = ap Some (numbered (length entries) item (spelling_hint item))
    by (Some entry) rest = one (is_entry m entry) entry (rest entry)

first_within : (most : ℕ) (m : Machine) (list : List ℕ) →
    first_in (faults_within most m list) ≡ fault_in (schedule_within most m list)
first_within most m list = by (nat_lt most (length (items_of list)))
  where
    by : (b : Bool) →
        first_in (if b then fault 0 [] (ManyItems most) ∷ [] else faults_from m 1 (items_of list))
        ≡ fault_in (if b then Err Turns else read_items m [] (items_of list))
    by true = refl
    by false = first_from m [] (items_of list)

pub first_of_list : (m : Machine) (list : List ℕ) →
    first_in (list_faults m list) ≡ fault_in (schedule_of m list)
first_of_list m list = first_within most_entries m list

pub first_of_file : (m : Machine) (text : List ℕ) →
    first_in (file_faults m text) ≡ fault_in (schedule_in_file m text)
first_of_file m text = by (nat_lt most_bytes (length text))
  where
    by : (b : Bool) →
        first_in (if b then fault 0 [] LongFile ∷ []
        else faults_within most_events m (list_in_file text))
        ≡ fault_in (if b then Err Turns else schedule_within most_events m (list_in_file text))
    by true = refl
    by false = first_within most_events m (list_in_file text)

-- A text that is too long is judged by its beginning.

too_long : (m : Machine) (text : List ℕ) → nat_lt most_bytes (length text) ≡ true →
    file_faults m text ≡ fault 0 [] LongFile ∷ []
too_long m text is =
    ap (λ (b : Bool). if b then fault 0 [] LongFile ∷ []
    else faults_within most_events m (list_in_file text)) is

beginning : (m : Machine) (all : List ℕ) →
    file_faults m (take (most_bytes + 1) all) ≡ file_faults m all
beginning m all = by (nat_lt most_bytes (length all)) refl
  where
    by : (b : Bool) → nat_lt most_bytes (length all) ≡ b →
        file_faults m (take (most_bytes + 1) all) ≡ file_faults m all
    by true is =
        let more : most_bytes < length all = grind (arith, nat_tests, is) in
        let long : nat_lt most_bytes (length (take (most_bytes + 1) all)) ≡ true =
        lt-ltb _ _ (omega (arith, more, length-take (most_bytes + 1) all)) in
        too_long m (take (most_bytes + 1) all) long ∙ sym (too_long m all is)
    by false is =
        let few : length all ≤ most_bytes = grind (arith, nat_tests, is) in
        ap (file_faults m) (take_all (most_bytes + 1) all (omega (arith, few)))

pub faults_as_much : (m : Machine) (all text : List ℕ) →
    (text ≡ all) ⊎ (text ≡ take (most_bytes + 1) all) → file_faults m text ≡ file_faults m all
faults_as_much m all text (inl same) = ap (file_faults m) same
faults_as_much m all text (inr same) = ap (file_faults m) same ∙ beginning m all
