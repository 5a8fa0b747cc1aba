-- What the end of a script leaves as it is: the numbers of the threads.
use Rattle.std.proofs.Common.{◌≡◌, ℕ, zero, suc, Bool, true, false, List, [], ◌∷◌, get_or, set, refl, ap, length-set}
use Rattle.std.specs.Prelude.{◌||◌}
use Rattle.std.specs.List.{list_any}
use Rattle.l4_model.specs.Machine.{Instr, Declaration, Machine}
use Rattle.l4_core_model.specs.Local.{undeclared}
use Rattle.l4_script.specs.Machines.{has_number, is_taken, last_place, last_thread, with_last_script}
use Rattle.l4_script.specs.Second.Statements.{Heir}
use Rattle.l4_script.specs.Second.Texts.{Reading, has_thread, may_declare, numbers_of, placed, settled}

any_set : (p : Declaration → Bool) (ds : List Declaration) (k : ℕ) (d : Declaration) → p d ≡ p (get_or ds k undeclared) → list_any p (set ds k d) ≡ list_any p ds
any_set p [] k d same = refl
any_set p (x ∷ ds) zero d same = ap (λ (b : Bool). b || list_any p ds) same
any_set p (x ∷ ds) (suc k) d same = ap (λ (b : Bool). p x || b) (any_set p ds k d same)

module _ (script : List Instr) (m : Machine) where
  still_taken : (number : ℕ) → is_taken number (with_last_script script m) ≡ is_taken number m
  still_taken number = any_set (has_number number) m.threads (last_place m) (record (last_thread m) { script = script }) refl

  all_still_taken : (numbers : List ℕ) → list_any (λ number. is_taken number (with_last_script script m)) numbers ≡ list_any (λ number. is_taken number m) numbers
  all_still_taken [] = refl
  all_still_taken (number ∷ numbers) = rw (still_taken number, all_still_taken numbers) refl

  still_may : (heir : Heir) → may_declare heir (with_last_script script m) ≡ may_declare heir m
  still_may heir = rw (all_still_taken (numbers_of heir), length-set m.threads (last_place m) (record (last_thread m) { script = script })) refl

pub settled_may : (heir : Heir) (r : Reading) → may_declare heir (settled r).machine ≡ may_declare heir r.machine
settled_may heir r = by (has_thread r) refl
  where
    by : (b : Bool) → has_thread r ≡ b → may_declare heir (settled r).machine ≡ may_declare heir r.machine
    by true some = rw some (still_may (placed r.labels r.targets (last_thread r.machine).script) r.machine heir)
    by false none = rw none refl
