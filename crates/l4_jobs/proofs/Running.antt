-- What runs and replays come to.
use Rattle.std.proofs.Common.{◌≡◌, ℕ, ◌<◌, ◌≤◌, Bool, true, false, Option, Some, None, Ok, List, refl, ap, sym, inl, inr, ◌∙◌}
use Rattle.std.specs.Prelude.{◌⊎◌, ◌==◌, ◌||◌, if◌then◌else◌, nat_lt}
use Rattle.std.proofs.lemmas.Bool.{eqb-true, ltb-true, or_cases}
use Rattle.l4_model.specs.Machine.{Machine}
use Rattle.l4_core_model.specs.Runs.{Run}
use Rattle.l4_core_model.specs.Schedules.{Entry, replay_entries}
use Rattle.l4_expect.specs.Expected.{Expected}
use Rattle.l4_replay.specs.Entries.{entries_fault, turns_fault}
use Rattle.l4_machine.specs.Outcomes.{Findings, IsFoundFor, IsOutcomeOf, in_order}
use Rattle.l4_rounds.specs.ThenRest.{HaveRest, rest_fault, then_rest}
use Rattle.l4_replay.specs.declared.fault.RunFault.TheVariants.{Turns}
use Rattle.l4_schedules.specs.InFiles.{schedule_in_file}
use Rattle.l4_schedules.specs.Written.{recorded_text}
use Rattle.l4_schedules.proofs.ReadBack.{recorded_back}
use Rattle.l4_commands.specs.declared.job.Printed.{Printed}
use Rattle.l4_jobs.specs.Expectations.{status_by, unmet_by}
use Rattle.l4_jobs.specs.Outputs.{Output}
use Rattle.l4_jobs.specs.Runs.{IsRecord, IsRecorded, IsRunDone, IsWritten, list_for, report_of, status_of_ending}
use Rattle.l4_jobs.specs.Schedules.{IsReplayAsked, IsRunAsked, asked_schedule, continued_run, run_of_schedule, unless_fault}

-- A number of turns that is not refused is lawful.
pub lawful : (turns : ℕ) → ((turns ≡ 0) ⊎ (1000000 < turns) → ⊥) → turns_fault turns ≡ None
lawful turns right = by (turns == 0 || nat_lt 1000000 turns) refl
  where
    refused : (turns == 0 ≡ true) ⊎ (nat_lt 1000000 turns ≡ true) → ⊥
    refused (inl none) = right (inl (eqb-true turns 0 none))
    refused (inr many) = right (inr (ltb-true 1000000 turns many))

    by : (b : Bool) → (turns == 0 || nat_lt 1000000 turns) ≡ b → (if b then Some Turns else None) ≡ None
    by true is = elim (refused (or_cases _ _ is)) [ ]
    by false is = refl

-- What is printed, judged and kept of findings.
pub record IsOf (printed : Printed) (machine_text : List ℕ) (m : Machine) (record_to : Option (List ℕ)) (expected : Option (List Expected)) (f : Findings) (o : Output) : Type 0 where
  pub written : IsWritten printed machine_text m f o.lines
  pub said : o.said ≡ unmet_by expected (report_of f)
  pub status_is : o.status ≡ status_by expected (report_of f) (status_of_ending f.ending)
  pub recorded : IsRecorded record_to m f o.list

pub run_done : (printed : Printed) (machine_text : List ℕ) (m : Machine) (IsAsked : Run → Type 0) (record_to : Option (List ℕ)) (expected : Option (List Expected)) (r : Run) (f : Findings)
    (o : Output) → IsAsked r → IsOutcomeOf m r f → IsOf printed machine_text m record_to expected f o → IsRunDone printed machine_text m IsAsked record_to expected o
run_done printed machine_text m IsAsked record_to expected r f o asked outcome is = record {
  run = r;
  is = asked;
  findings = f;
  of_run = outcome;
  written = is.written;
  said = is.said;
  status_is = is.status_is;
  recorded = is.recorded;
}

pub asked_run_done : (printed : Printed) (machine_text : List ℕ) (m : Machine) (turns : ℕ) (record_to : Option (List ℕ)) (expected : Option (List Expected)) (f : Findings) (o : Output) →
    ((turns ≡ 0) ⊎ (1000000 < turns) → ⊥) → IsFoundFor m turns f → IsOf printed machine_text m record_to expected f o →
    IsRunDone printed machine_text m (IsRunAsked m turns) record_to expected o
asked_run_done printed machine_text m turns record_to expected f o right found is =
    let asked : IsRunAsked m turns (in_order found.run) = record { lawful = lawful turns right; run = found.run; is = found.is; sorted = refl } in
    run_done printed machine_text m (IsRunAsked m turns) record_to expected (in_order found.run) f o asked found.outcome is

pub asked_replay_done : (printed : Printed) (machine_text : List ℕ) (m : Machine) (rest : Option ℕ) (list text : List ℕ) (entries : List Entry) (record_to : Option (List ℕ))
    (expected : Option (List Expected)) (r : Run) (f : Findings) (o : Output) → asked_schedule m list text ≡ Ok entries → continued_run m rest entries ≡ Ok r →
    IsOutcomeOf m r f → IsOf printed machine_text m record_to expected f o → IsRunDone printed machine_text m (IsReplayAsked m rest list text) record_to expected o
asked_replay_done printed machine_text m rest list text entries record_to expected r f o asked goes outcome is =
    run_done printed machine_text m (IsReplayAsked m rest list text) record_to expected r f o (ap (run_of_schedule m rest) asked ∙ goes) outcome is

-- The entries of the rest
pub rest_is : (m : Machine) (entries all : List Entry) (turns : ℕ) → HaveRest m entries turns all → rest_fault m entries turns ≡ None →
    continued_run m (Some turns) entries ≡ Ok (replay_entries m all)
rest_is m entries all turns rest lawful =
    ap (λ f. unless_fault f (then_rest m entries turns)) lawful ∙ ap (λ (r : Run). Ok r) (sym rest.replayed)

-- A record is read back.
pub is_record : (m : Machine) (f : Findings) (entries : List Entry) (text : List ℕ) → m.cpus ≤ 16 → IsOutcomeOf m (replay_entries m entries) f →
    entries_fault m entries ≡ None → text ≡ recorded_text entries → IsRecord m f text
is_record m f entries text few replayed are recorded = record {
  entries = entries;
  text_is = recorded;
  reads = ap (schedule_in_file m) recorded ∙ recorded_back m entries few are;
  of_replay = replayed;
}

pub is_recorded : (m : Machine) (f : Findings) (entries : List Entry) (name : Option (List ℕ)) (list : Option (List ℕ × List ℕ)) → m.cpus ≤ 16 →
    IsOutcomeOf m (replay_entries m entries) f → entries_fault m entries ≡ None →
    list ≡ list_for name entries → IsRecorded name m f list
is_recorded m f entries None list few outcome are is = is
is_recorded m f entries (Some name) list few outcome are is = (recorded_text entries, is, is_record m f entries (recorded_text entries) few outcome are refl)
