-- An entry that a word names is one of the machine.
use Rattle.std.proofs.Common.{◌≡◌, ℕ, zero, suc, ◌-◌, ◌<◌, Bool, true, false, cond, Option, Some, None, Result, Ok, Err, List, [], ◌∷◌, length, refl, ap, sym, ◌∙◌, arith}
use Rattle.std.specs.Prelude.{◌==◌, map, nat_lt, slice_get, slice_index_or}
use Rattle.std.specs.List.{list_all}
use Rattle.std.specs.Option.{option_map}
use Rattle.std.proofs.lemmas.Bool.Decides.{nat_tests}
use Rattle.std.proofs.lemmas.List.Folds.{list_all-map, list_all_at}
use Rattle.l4_model.specs.Machine.{Machine}
use Rattle.l4_core_model.specs.Schedules.{Entry}
use Rattle.l4_replay.specs.declared.entries.Entry as code
use Rattle.l4_replay.specs.Entries.{entries_fault, entry_from, is_entry, most_entries}
use Rattle.l4_replay.specs.declared.fault.RunFault.{RunFault}
use Rattle.l4_replay.specs.declared.fault.RunFault.TheVariants.{Turns, Schedule}
use Rattle.l4_schedules.specs.Items.{items_of, read_items, schedule_of}
use Rattle.l4_schedules.proofs.Lawful.{lawful_result}
use Rattle.l4_words.specs.Numbers.{number_of}
use Rattle.l4_steps.specs.Possible.{possible}
use Rattle.l4_steps.specs.Replies.{item_named, named, named_by, numbered, only_one}
use Rattle.l4_steps.proofs.Listed.{left_of, own_possible, right_of}

same_some : (x y : Entry) → Some x ≡ Some y → x ≡ y
same_some x y h = cc

element : (p : Entry → Bool) (xs : List Entry) (i : ℕ) (x : Entry) → list_all p xs ≡ true → slice_get xs i ≡ Some x → p x ≡ true
element p [] i x all at = cc
element p (y ∷ xs) zero x all at = ap p (sym (same_some y x at)) ∙ left_of (p y) (list_all p xs) all
element p (y ∷ xs) (suc i) x all at = element p xs i x (right_of (p y) (list_all p xs) all) at

own_numbered : (m : Machine) (es : List Entry) (number : ℕ) (e : Entry) → numbered m es number ≡ Some e → is_entry m e ≡ true
own_numbered m es number e is = by (number == 0) is
  where
    by : (b : Bool) → cond b None (slice_get (possible m es) (number - 1)) ≡ Some e → is_entry m e ≡ true
    by true is = cc
    by false is = element (is_entry m) (possible m es) (number - 1) e (own_possible m es) is

-- A list that was read has entries of the machine.

lawful_list : (m : Machine) (list : List ℕ) (es : List Entry) → schedule_of m list ≡ Ok es → entries_fault m es ≡ None
lawful_list m list es is = by (nat_lt most_entries (length (items_of list))) refl is
  where
    by : (b : Bool) → nat_lt most_entries (length (items_of list)) ≡ b →
        cond b (Err Turns) (read_items m [] (items_of list)) ≡ Ok es → entries_fault m es ≡ None
    by true test is = cc
    by false test is = lawful_result m (items_of list) (λ (xs : List Entry). xs) (Ok es) (grind (arith, nat_tests, test)) is

own_one : (m : Machine) (e : Entry) → entries_fault m (e ∷ []) ≡ None → is_entry m e ≡ true
own_one m e h = by (is_entry m e) h
  where
    by : (b : Bool) → option_map Schedule (cond b None (Some 1)) ≡ None → b ≡ true
    by true h = refl
    by false h = cc

pub own_item : (m : Machine) (word : List ℕ) (e : Entry) → item_named m word ≡ Some e → is_entry m e ≡ true
own_item m word e is = by (schedule_of m word) refl is
  where
    by : (r : Result (List Entry) RunFault) → schedule_of m word ≡ r → only_one r ≡ Some e → is_entry m e ≡ true
    by (Ok []) read is = cc
    by (Ok (x ∷ [])) read is = ap (is_entry m) (sym (same_some x e is)) ∙ own_one m x (lawful_list m word (x ∷ []) read)
    by (Ok (x ∷ y ∷ others)) read is = cc
    by (Err fault) read is = cc

pub own_named : (m : Machine) (es : List Entry) (word : List ℕ) (e : Entry) → named m es word ≡ Some e → is_entry m e ≡ true
own_named m es word e is = by (number_of 10 word) is
  where
    by : (o : Option ℕ) → named_by m es word o ≡ Some e → is_entry m e ≡ true
    by None is = own_item m word e is
    by (Some number) is = own_numbered m es number e is

-- One of some entries that are of the machine
pub own_at : (m : Machine) (xs : List code.Entry) (i : ℕ) (d : code.Entry) → i < length xs →
    list_all (is_entry m) (map entry_from xs) ≡ true → is_entry m (entry_from (slice_index_or xs i d)) ≡ true
own_at m xs i d below all = by (is_entry m (entry_from (slice_index_or xs i d))) refl
  where
    test : list_all (λ x. is_entry m (entry_from x)) xs ≡ true
    test = sym (list_all-map (is_entry m) entry_from xs) ∙ all

    by : (b : Bool) → is_entry m (entry_from (slice_index_or xs i d)) ≡ b → b ≡ true
    by true is = refl
    by false is = sym (list_all_at (λ x. is_entry m (entry_from x)) xs i d below is) ∙ test
