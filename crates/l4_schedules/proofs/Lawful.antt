-- A schedule that was read of a list is lawful on its machine.
use Rattle.std.proofs.Common.{◌≡◌, ℕ, ◌+◌, ◌≤◌, Bool, true, false, Option, Some, None, Ok, IfOk, Result, List, [], ◌∷◌, ◌++◌, length, refl, sym, ap, ◌∙◌, arith, length-append}
use Rattle.std.specs.Prelude.{if◌then◌else◌, nat_lt, option_map}
use Rattle.std.proofs.lemmas.Bool.Decides.{nat_tests}
use Rattle.std.proofs.lemmas.Result.{IfOk-weaker}
use Rattle.l4_model.specs.Machine.{Machine}
use Rattle.l4_core_model.specs.Schedules.{Entry}
use Rattle.l4_replay.specs.declared.fault.RunFault.{RunFault}
use Rattle.l4_replay.specs.declared.fault.RunFault.TheVariants.{Turns, Schedule}
use Rattle.l4_replay.specs.Entries.{is_entry, first_stranger, entries_fault, most_events}
use Rattle.l4_schedules.specs.Items.{if_entry, machine_entry, entry_of, or_fault, read_items}

-- One lawful entry more.
if_lawful : (b : Bool) (place : ℕ) (rest more : Option ℕ) → (rest ≡ None → more ≡ None) → (if b then rest else Some place) ≡ None →
    (if b then more else Some place) ≡ None
if_lawful true place rest more goes_on h = goes_on h
if_lawful false place rest more goes_on h = h

one_more : (m : Machine) (place : ℕ) (entries : List Entry) (entry : Entry) → first_stranger m place entries ≡ None → is_entry m entry ≡ true →
    first_stranger m place (entries ++ entry ∷ []) ≡ None
one_more m place [] entry lawful is = ap (λ b. if b then None else Some place) is
one_more m place (first ∷ entries) entry lawful is =
    if_lawful (is_entry m first) place _ _ (λ h. one_more m (place + 1) entries entry h is) lawful

is_one : (m : Machine) (o : Option Entry) (entry : Entry) → if_entry m o ≡ Some entry → is_entry m entry ≡ true
is_one m None entry h = cc
is_one m (Some e) entry h = by (is_entry m e) refl h
  where
    by : (b : Bool) → is_entry m e ≡ b → (if b then Some e else None) ≡ Some entry → is_entry m entry ≡ true
    by true is h = let same : e ≡ entry = cc in ap (is_entry m) (sym same) ∙ is
    by false is h = cc

-- What was read is as long as its list, and lawful.
pub record IsRead (m : Machine) (items : ℕ) (entries : List Entry) : Type 0 where
  pub count : length entries ≡ items
  pub lawful : first_stranger m 1 entries ≡ None

read_lawful : (m : Machine) (items : List (List ℕ)) (so_far entries : List Entry) → first_stranger m 1 so_far ≡ None → read_items m so_far items ≡ Ok entries →
    IsRead m (length so_far + length items) entries
read_lawful m [] so_far entries lawful h =
    let same : so_far ≡ entries = cc in
    record { count = ap length (sym same) ∙ omega arith; lawful = ap (first_stranger m 1) (sym same) ∙ lawful }
read_lawful m (item ∷ items) so_far entries lawful h =
    by (machine_entry m item) refl (λ entry is rest. read_lawful m items (so_far ++ entry ∷ []) entries (one_more m 1 so_far entry lawful (is_one m (entry_of item) entry is)) rest) h
  where
    by : (o : Option Entry) → machine_entry m item ≡ o →
        ((entry : Entry) → machine_entry m item ≡ Some entry → read_items m (so_far ++ entry ∷ []) items ≡ Ok entries → IsRead m (length (so_far ++ entry ∷ []) + length items) entries) →
        or_fault (length so_far + 1) o (λ entry. read_items m (so_far ++ entry ∷ []) items) ≡ Ok entries → IsRead m (length so_far + length (item ∷ items)) entries
    by None is goes_on h = cc
    by (Some entry) is goes_on h =
        let rest = goes_on entry is h in
        let longer = length-append so_far (entry ∷ []) in
        record { count = omega (arith, rest.count, longer); lawful = rest.lawful }

lawful_entries : (m : Machine) (items : List (List ℕ)) (entries : List Entry) → length items ≤ most_events → read_items m [] items ≡ Ok entries → entries_fault m entries ≡ None
lawful_entries m items entries within h =
    let read = read_lawful m items [] entries refl h in
    let few : nat_lt most_events (length entries) ≡ false = grind (arith, nat_tests, within, read.count) in
    ap (λ b. if b then Some Turns else option_map Schedule (first_stranger m 1 entries)) few ∙ ap (option_map Schedule) read.lawful

-- What was read is entries of the machine.
pub lawful_result : {X : Type 0} (m : Machine) (items : List (List ℕ)) (entries_of : X → List Entry) (r : Result X RunFault) → length items ≤ most_events →
    IfOk r (λ x. read_items m [] items ≡ Ok (entries_of x)) → IfOk r (λ x. entries_fault m (entries_of x) ≡ None)
lawful_result m items entries_of r within = IfOk-weaker r _ _ (λ x. lawful_entries m items (entries_of x) within)
