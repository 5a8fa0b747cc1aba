-- What was written of a job.
use Rattle.std.proofs.Common.{◌≡◌, ℕ, Bool, true, false, Option, Some, None, Result, Ok, Err, List, [], ◌++◌, refl, ap, sym, subst, inl, inr}
use Rattle.std.specs.Prelude.{◌⊎◌}
use Rattle.std.specs.declared.io.ErrorKind.{ErrorKind}
use Rattle.l4_model.specs.Machine.{Machine}
use Rattle.l4_expect.specs.Expected.{Expected}
use Rattle.l4_core_model.specs.Runs.{Run as CoreRun}
use Rattle.l4_expect.specs.Unmet.{expected_status}
use Rattle.l4_script.specs.Versions.{machine_of_text}
use Rattle.l4_script.specs.declared.text.fault.TextFault.{TextFault}
use Rattle.l4_commands.specs.Files.{file_of}
use Rattle.l4_commands.specs.declared.job.Job.{Job}
use Rattle.l4_commands.specs.declared.job.Job.TheVariants.{Run, Replay}
use Rattle.l4_commands.specs.declared.job.Printed.{Printed}
use Rattle.l4_jobs.specs.Expectations.{is_met_by}
use Rattle.l4_jobs.specs.Inputs.{FailsWith, Gives}
use Rattle.l4_jobs.specs.Inner.Reading.{IsReadAs}
use Rattle.l4_jobs.specs.Jobs.{IsDone, IsDoneFor, IsDoneOn, IsFaultFor, IsInLinesFor, IsStatusOf, IsTrueBy, IsTrueFor, IsTrueShown, is_lint, printed_of}
use Rattle.l4_jobs.specs.Objects.{is_retold, told}
use Rattle.l4_jobs.specs.Outputs.{Output}
use Rattle.l4_jobs.specs.Performing.{AreUnopened, IsKeptOut, IsLinesOut, IsPerformed, IsPerformedOn, IsTrulyDone, IsUnwritten, IsWrittenOut, Sinks, Takes, sinks}
use Rattle.l4_jobs.specs.Runs.{IsRunDone, report_of, status_of_ending}
use Rattle.l4_jobs.specs.Explanations.{IsExplained, told_line}
use Rattle.l4_jobs.specs.FaultLines.{IsReported, fault_line}
use Rattle.l4_streams.specs.Streams.{IsWrittenApart}
use Rattle.l4_jobs.specs.declared.fault.Fault.{Fault}
use Rattle.l4_jobs.specs.declared.fault.Fault.TheVariants as fault
use Rattle.l4_jobs.proofs.Statuses.{done_status}

-- What is said of the records may be said in other words.
pub performed_as : (explains : Bool) (job : Job) (machine second expects : Gives) (list other : List ℕ → Takes) (keeps others : Type 0) (out : Takes) (keeps_out : Type 0) (faults : Takes)
    (keeps_faults : Type 0) (status : ℕ) → ((name bytes : List ℕ) (all : Bool) → list name bytes all → other name bytes all) → (keeps → others) →
    IsPerformed explains job machine second expects (sinks list keeps out keeps_out faults keeps_faults) status →
    IsPerformed explains job machine second expects (sinks other others out keeps_out faults keeps_faults) status
performed_as explains job machine second expects list other keeps others out keeps_out faults keeps_faults status lists keep (inl (text, f, is, (kept, left, reported, one))) =
    inl (text, f, is, (keep kept, left, reported, one))
performed_as explains job machine second expects list other keeps others out keeps_out faults keeps_faults status lists keep (inr (o, is, wrote)) = inr (o, is, by o.list wrote)
  where
    by : (l : Option (List ℕ × List ℕ)) → IsKeptOut o l (sinks list keeps out keeps_out faults keeps_faults) status →
        IsKeptOut o l (sinks other others out keeps_out faults keeps_faults) status
    by None (kept, lines) = (keep kept, lines)
    by (Some p) (inl (kept, lines)) = inl (lists p.0 p.1 true kept, lines)
    by (Some p) (inr (f, named, kept, left, reported, one)) = inr (f, named, lists p.0 p.1 false kept, left, reported, one)

-- Status 1, or the lines were written, and the status is that of what the job comes to.

of_lines : (o : Output) (out faults : Takes) (keeps : Type 0) (status : ℕ) → IsLinesOut o out faults keeps status →
    (status ≡ 1) ⊎ (out o.lines true × (status ≡ o.status))
of_lines o out faults keeps status (inl (wrote, said, same)) = inr (wrote, same)
of_lines o out faults keeps status (inr (wrote, reported, one)) = inl one

of_kept : (o : Output) (l : Option (List ℕ × List ℕ)) (s : Sinks) (status : ℕ) → IsKeptOut o l s status →
    (status ≡ 1) ⊎ (s.out o.lines true × (status ≡ o.status))
of_kept o None s status (kept, lines) = of_lines o s.out s.faults s.keeps_faults status lines
of_kept o (Some p) s status (inl (kept, lines)) = of_lines o s.out s.faults s.keeps_faults status lines
of_kept o (Some p) s status (inr (f, named, kept, left, reported, one)) = inl one

-- A fault that was told for what was read of a text was told for all of it.

same_line : (explains : Bool) (file read all : List ℕ) (f : Fault) → IsReadAs read all → told_line explains file read f ≡ told_line explains file all f
same_line false file read all f same = refl
same_line true file read all (fault.Text line kind) same = ap (λ more. fault_line (fault.Text line kind) ++ more) (same.shown file)
same_line true file read all f same = refl

told_of_all : (explains : Bool) (file read all : List ℕ) (takes : Takes) (f : Fault) → IsReadAs read all → IsExplained explains file read takes f →
    IsExplained explains file all takes f
told_of_all explains file read all takes f same (whole, taken) = (whole, subst (λ line. takes line whole) (same_line explains file read all f same) taken)

pub fault_told : (explains : Bool) (job : Job) (machine second expects : Gives) (file read slice : List ℕ) (f : Fault) (s : Sinks) (status : ℕ) → file ≡ file_of job →
    (all : List ℕ) × machine (Ok all) × IsReadAs read all → slice ≡ read → (f ≡ fault.NoMemory) ⊎ IsFaultFor job (machine_of_text slice) second expects f → s.keeps_list →
    s.keeps_out → IsExplained explains file slice s.faults f ⊎ IsExplained explains file slice s.faults fault.NoMemory → status ≡ 1 →
    IsPerformed explains job machine second expects s status
fault_told explains job machine second expects file read slice f s status names (all, given, same) is faulty kept left told one = by faulty told
  where
    of_all : (g : Fault) → IsExplained explains file slice s.faults g → IsExplained explains (file_of job) all s.faults g
    of_all g told =
        subst (λ name. IsExplained explains name all s.faults g) names
        (told_of_all explains file read all s.faults g same (subst (λ t. IsExplained explains file t s.faults g) is told))

    by : (f ≡ fault.NoMemory) ⊎ IsFaultFor job (machine_of_text slice) second expects f →
        IsExplained explains file slice s.faults f ⊎ IsExplained explains file slice s.faults fault.NoMemory → IsPerformed explains job machine second expects s status
    by faulty (inr told) = inl (all, fault.NoMemory, inl refl, (kept, left, of_all fault.NoMemory told, one))
    by (inl none) (inl told) = inl (all, f, inl none, (kept, left, of_all f told, one))
    by (inr faulty) (inl told) =
        let of_text : IsFaultFor job (machine_of_text all) second expects f =
        subst (λ d. IsFaultFor job d second expects f) same.machine (subst (λ t. IsFaultFor job (machine_of_text t) second expects f) is faulty) in
        inl (all, f, inr (inr (given, of_text)), (kept, left, of_all f told, one))

-- So is the fault of a text that could not be read.
pub unread_told : (explains : Bool) (job : Job) (machine second expects : Gives) (file text : List ℕ) (f : Fault) (s : Sinks) (status : ℕ) → file ≡ file_of job →
    FailsWith file machine f → s.keeps_list → s.keeps_out →
    IsExplained explains file text s.faults f ⊎ IsExplained explains file text s.faults fault.NoMemory → status ≡ 1 → IsPerformed explains job machine second expects s status
unread_told explains job machine second expects file text f s status names fails kept left told one = by told
  where
    by : IsExplained explains file text s.faults f ⊎ IsExplained explains file text s.faults fault.NoMemory → IsPerformed explains job machine second expects s status
    by (inl told) =
        inl (text, f, inr (inl (subst (λ name. FailsWith name machine f) names fails)), (kept, left, subst (λ name. IsExplained explains name text s.faults f) names told, one))
    by (inr told) = inl (text, fault.NoMemory, inl refl, (kept, left, subst (λ name. IsExplained explains name text s.faults fault.NoMemory) names told, one))

-- And so is that of a file that can't be opened.
pub unopened_told : {File : Type 0} (opens : List ℕ → Result File ErrorKind → Type 0) (gives : File → Gives) (explains : Bool) (job : Job) (file : List ℕ)
    (f : Fault) (s : Sinks) (status : ℕ) → file ≡ file_of job → AreUnopened opens job f → s.keeps_list → s.keeps_out →
    IsExplained explains file [] s.faults f ⊎ IsExplained explains file [] s.faults fault.NoMemory → status ≡ 1 → IsPerformedOn opens gives explains job s status
unopened_told opens gives explains job file f s status names unopened kept left told one = by told
  where
    by : IsExplained explains file [] s.faults f ⊎ IsExplained explains file [] s.faults fault.NoMemory → IsPerformedOn opens gives explains job s status
    by (inl told) = inl (f, inr unopened, (kept, left, subst (λ name. IsExplained explains name [] s.faults f) names told, one))
    by (inr told) = inl (fault.NoMemory, inl refl, (kept, left, subst (λ name. IsExplained explains name [] s.faults fault.NoMemory) names told, one))

-- The exit status

pub performed_status : (explains : Bool) (job : Job) (machine second expects : Gives) (s : Sinks) (status : ℕ) → IsPerformed explains job machine second expects s status → IsStatusOf job status
performed_status explains job machine second expects s status (inl (text, f, is, (kept, left, reported, one))) = inr (inl one)
performed_status explains job machine second expects s status (inr (o, is, wrote)) = by (of_kept o o.list s status wrote)
  where
    by : (status ≡ 1) ⊎ (s.out o.lines true × (status ≡ o.status)) → IsStatusOf job status
    by (inl one) = inr (inl one)
    by (inr (wrote, same)) = subst (IsStatusOf job) (sym same) (done_status job machine second expects o is)

-- What was written of a run is true of its machine.

own_or_4 : (met : Bool) (own status : ℕ) → status ≡ expected_status met own → (status ≡ own) ⊎ (status ≡ 4)
own_or_4 true own status is = inl is
own_or_4 false own status is = inr is

run_true : (printed : Printed) (text : List ℕ) (m : Machine) (IsAsked : CoreRun → Type 0) (record_to : Option (List ℕ)) (expected : Option (List Expected)) (o : Output) →
    IsRunDone printed text m IsAsked record_to expected o → IsTrueShown printed text m o.lines o.status
run_true printed text m IsAsked record_to expected o is = record {
  findings = is.findings;
  is_true = is.of_run.is_true;
  written = is.written;
  status_is = own_or_4 (is_met_by expected (report_of is.findings)) (status_of_ending is.findings.ending) o.status is.status_is;
}

true_on : (job : Job) (text : List ℕ) (m : Machine) (second : Gives) (expected : Option (List Expected)) (o : Output) → machine_of_text text ≡ Ok m →
    IsDoneOn job text m second expected o → IsTrueFor job text o.lines o.status
true_on (Run run) text m second expected o declares is = (m, declares, run_true run.printed text m _ _ expected o is)
true_on (Replay replay) text m second expected o declares (list, reads, is) = (m, declares, run_true replay.printed text m _ _ expected o is)
true_on job text m second expected o declares is = tt

of_lint : (job : Job) (text lines : List ℕ) (status : ℕ) → is_lint job ≡ true → IsTrueFor job text lines status
of_lint job text lines status is = subst (λ printed. IsTrueBy printed text lines status) (sym (prints_none job is)) tt
  where
    prints_none : (job : Job) → is_lint job ≡ true → printed_of job ≡ None
    prints_none (Run run) is = cc
    prints_none (Replay replay) is = cc
    prints_none job is = refl

true_for : (job : Job) (text : List ℕ) (d : Result Machine TextFault) (second expects : Gives) (o : Output) → machine_of_text text ≡ d →
    IsInLinesFor job text d second expects o → IsTrueFor job text o.lines o.status
true_for job text (Ok m) second expects o declares (expected, wants, is) = true_on job text m second expected o declares is
true_for job text (Err t) second expects o declares is = of_lint job text o.lines o.status is.0

-- What a run or a replay prints is told part by part, so its lines are those of the output.

unchanged : (job : Job) (text lines others : List ℕ) (status : ℕ) → others ≡ told (is_retold job) lines → IsTrueFor job text lines status → IsTrueFor job text others status
unchanged (Run run) text lines others status is shown = subst (λ l. IsTrueFor (Run run) text l status) (sym is) shown
unchanged (Replay replay) text lines others status is shown = subst (λ l. IsTrueFor (Replay replay) text l status) (sym is) shown
unchanged job text lines others status is shown = tt

true_told : (job : Job) (text : List ℕ) (second expects : Gives) (o : Output) → IsDoneFor job text (machine_of_text text) second expects o →
    IsTrueFor job text o.lines o.status
true_told job text second expects o is =
    unchanged job text is.lines o.lines o.status is.told_are
    (true_for job text (machine_of_text text) second expects (record o { lines = is.lines }) refl is.in_lines)

pub performed_true : (explains : Bool) (job : Job) (machine second expects : Gives) (s : Sinks) (status : ℕ) → IsPerformed explains job machine second expects s status → (status ≡ 1 → ⊥) →
    IsTrulyDone job machine s.out status
performed_true explains job machine second expects s status (inl (text, f, is, (kept, left, reported, one))) right = elim (right one) [ ]
performed_true explains job machine second expects s status (inr (o, d, wrote)) right = by (of_kept o o.list s status wrote)
  where
    by : (status ≡ 1) ⊎ (s.out o.lines true × (status ≡ o.status)) → IsTrulyDone job machine s.out status
    by (inl one) = elim (right one) [ ]
    by (inr (wrote, same)) =
        (d.text, o.lines, d.given, wrote, subst (IsTrueFor job d.text o.lines) (sym same) (true_told job d.text second expects o d.is))

-- Where a job comes to nothing, its fault is told.
pub nothing_done : (explains : Bool) (job : Job) (machine second expects : Gives) (s : Sinks) (status : ℕ) → ((o : Output) → IsDone job machine second expects o → ⊥) →
    IsPerformed explains job machine second expects s status → (status ≡ 1) × s.keeps_out
nothing_done explains job machine second expects s status never (inl (text, f, is, (kept, left, reported, one))) = (one, left)
nothing_done explains job machine second expects s status never (inr (o, is, wrote)) = elim (never o is) [ ]

-- A record that was not written
pub not_kept : (o : Output) (s : Sinks) (p : List ℕ × List ℕ) (f : Fault) (status : ℕ) → o.list ≡ Some p → IsUnwritten p.0 f → s.list p.0 p.1 false → s.keeps_out →
    IsReported s.faults f → status ≡ 1 → IsWrittenOut o s status
not_kept o s p f status is named kept left reported one = subst (λ l. IsKeptOut o l s status) (sym is) (inr (f, named, kept, left, reported, one))

-- The files that are read, by their names
pub apart_as : (tells : (name read : List ℕ) → (same : Bool) → Type 0) (writes : (name bytes : List ℕ) → (all : Bool) → Type 0) (file other : List ℕ)
    (second others expects wanted : Option (List ℕ)) (name bytes : List ℕ) (all : Bool) → file ≡ other → second ≡ others → expects ≡ wanted →
    IsWrittenApart tells writes (Some file) second expects name bytes all → IsWrittenApart tells writes (Some other) others wanted name bytes all
apart_as tells writes file other second others expects wanted name bytes all a b c is =
    subst (λ f. IsWrittenApart tells writes (Some f) others wanted name bytes all) a
    (subst (λ s. IsWrittenApart tells writes (Some file) s wanted name bytes all) b
    (subst (λ e. IsWrittenApart tells writes (Some file) second e name bytes all) c is))
