-- The schedule that is asked for, by a list or by a file that it names.
use Rattle.std.proofs.Common.{◌≡◌, ℕ, ◌+◌, None, Result, Ok, Err, List, take, ap, sym, subst, inl, inr, ◌∙◌}
use Rattle.std.specs.Prelude.{◌⊎◌, IfErr}
use Rattle.l4_model.specs.Machine.{Machine}
use Rattle.l4_core_model.specs.Schedules.{Entry}
use Rattle.l4_replay.specs.declared.fault.RunFault.{RunFault}
use Rattle.l4_replay.specs.declared.fault.RunFault.TheVariants.{NoMemory as RunOutOfMemory}
use Rattle.l4_schedules.specs.InFiles.{most_bytes, schedule_in_file}
use Rattle.l4_schedules.proofs.Beginnings.{as_much}
use Rattle.l4_jobs.specs.Inputs.{Gives}
use Rattle.l4_jobs.specs.Schedules.{IsListFault, fault_of_result, fault_of_run, run_of_schedule}
use Rattle.l4_jobs.specs.declared.fault.Fault.{Fault}
use Rattle.l4_jobs.specs.declared.fault.Fault.TheVariants.{NoMemory as OutOfMemory}

-- What was read of the file.
abbrev pub IsReadOf : Gives → List ℕ → Type 0
IsReadOf gives text = (all : List ℕ) × gives (Ok all) × ((text ≡ all) ⊎ (text ≡ take (most_bytes + 1) all))

judged : (m : Machine) (all text slice : List ℕ) → (text ≡ all) ⊎ (text ≡ take (most_bytes + 1) all) → slice ≡ text →
    schedule_in_file m slice ≡ schedule_in_file m all
judged m all text slice much is = ap (schedule_in_file m) is ∙ as_much m all text much

pub file_read : (m : Machine) (gives : Gives) (text slice : List ℕ) (entries : List Entry) → IsReadOf gives text → slice ≡ text →
    schedule_in_file m slice ≡ Ok entries → (all : List ℕ) × gives (Ok all) × (schedule_in_file m all ≡ Ok entries)
file_read m gives text slice entries (all, given, much) is reads = (all, given, sym (judged m all text slice much is) ∙ reads)

pub file_faulty : (m : Machine) (name : List ℕ) (gives : Gives) (text slice : List ℕ) (f : RunFault) → IsReadOf gives text → slice ≡ text →
    schedule_in_file m slice ≡ Err f → IsListFault m name gives (fault_of_run f)
file_faulty m name gives text slice f (all, given, much) is faulty =
    inr (all, given, ap (λ r. fault_of_result (run_of_schedule m None r)) (sym (judged m all text slice much is) ∙ faulty))

pub list_fault : {X : Type 0} (m : Machine) (name : List ℕ) (gives : Gives) (text slice : List ℕ) (r : Result X Fault) (e : RunFault) →
    IfErr r (λ f. f ≡ fault_of_run e) → IsReadOf gives text → slice ≡ text → (e ≡ RunOutOfMemory) ⊎ (schedule_in_file m slice ≡ Err e) →
    IfErr r (λ f. (f ≡ OutOfMemory) ⊎ IsListFault m name gives f)
list_fault m name gives text slice (Ok x) e is read same faulty = tt
list_fault m name gives text slice (Err f) e is read same (inl none) = inl (is ∙ ap fault_of_run none)
list_fault m name gives text slice (Err f) e is read same (inr faulty) =
    inr (subst (IsListFault m name gives) (sym is) (file_faulty m name gives text slice e read same faulty))
