-- A job that comes to something has no fault.
use Rattle.std.proofs.Common.{◌≡◌, ℕ, Bool, true, false, Option, Some, None, Result, Ok, Err, List, refl, ap, sym, subst, inl, inr, ◌∙◌}
use Rattle.std.specs.Borrow.{Bor}
use Rattle.std.specs.Prelude.{◌⊎◌, IsSomeAnd}
use Rattle.std.specs.declared.io.ErrorKind.{ErrorKind}
use Rattle.std.specs.Option.{option_map}
use Rattle.l4_model.specs.Machine.{Machine}
use Rattle.l4_model.specs.Steps.{Step}
use Rattle.l4_model.specs.History.{refused_place}
use Rattle.l4_model.proofs.Faults.{tells_first_fault}
use Rattle.l4_core_model.specs.Runs.{Run as CoreRun}
use Rattle.l4_core_model.specs.Schedules.{replay_entries}
use Rattle.l4_expect.specs.Expected.{Expected, expectations_of}
use Rattle.l4_trace.specs.Lines.{IsTraceOf}
use Rattle.l4_script.specs.Versions.{machine_of_text}
use Rattle.l4_script.specs.declared.text.fault.TextFault.{TextFault}
use Rattle.l4_next.specs.Nexts.{nexts_fault}
use Rattle.l4_schedules.specs.InFiles.{schedule_in_file}
use Rattle.l4_commands.specs.Files.{expected_of, list_name, list_name_in}
use Rattle.l4_commands.specs.declared.job.EndingsJob.{EndingsJob}
use Rattle.l4_commands.specs.declared.job.Judged.{Judged}
use Rattle.l4_commands.specs.declared.job.Scheduler.{Scheduler}
use Rattle.l4_commands.specs.declared.job.Scheduler.TheVariants.{Any, Placed}
use Rattle.l4_questions.specs.Limits.{question_fault}
use Rattle.l4_questions.specs.Walked.{IsAnyTrace}
use Rattle.l4_questions.specs.declared.question.Question.{Question}
use Rattle.l4_commands.specs.declared.job.Job.{Job}
use Rattle.l4_commands.specs.declared.job.Job.TheVariants.{Run, Replay, Next, Audit, Chart, Endings, Lint, Step as Session}
use Rattle.l4_jobs.specs.Audits.{IsAudited, IsFaultOfTrace, IsPassed, IsTraceFault, tells_refusals}
use Rattle.l4_jobs.specs.ChartJobs.{fault_of_threads}
use Rattle.l4_jobs.specs.Expectations.{IsExpected, scope_of}
use Rattle.l4_jobs.specs.Inputs.{FailsWith, IsRead, gives_one}
use Rattle.l4_jobs.specs.Jobs.{IsAskedFault, IsDoneFor, IsDoneOn, IsFaultBehind, IsFaultFor, IsFaultOn, IsInLinesFor}
use Rattle.l4_jobs.specs.Nexts.{IsNextDone, IsNextFault}
use Rattle.l4_jobs.specs.Outputs.{Output}
use Rattle.l4_jobs.specs.Schedules.{IsReplayFault, asked_schedule, fault_of_result, fault_of_run, named_schedule, run_by_list, run_of_schedule}
use Rattle.l4_jobs.specs.Searches.{IsAnswerBy, IsDoneBy, IsSearchDoneBy, IsVerdictOut, fault_before, fault_by, fault_of_limits, fault_of_question, first_fault, question_of, shown_of}
use Rattle.l4_questions.specs.Beside.{Shown}
use Rattle.l4_jobs.specs.declared.fault.Fault.{Fault}
use Rattle.l4_jobs.proofs.Spelled.{trace_right}

abbrev gives_all : List ℕ → Result (List ℕ) ErrorKind
gives_all text = Ok text

abbrev gives_none : ErrorKind → Result (List ℕ) ErrorKind
gives_none kind = Err kind

all_given : (all text : List ℕ) → gives_all text ≡ Ok all → text ≡ all
all_given all text is = cc

never_unread : (all : List ℕ) (kind : ErrorKind) → gives_none kind ≡ Ok all → ⊥
never_unread all kind is = absurd (let bad = is in cc)

-- A trace whose steps are told of, or are possible, has no fault.
never_faulty : (tells : Bool) (m : Machine) (name trace : List ℕ) (steps : List Step) (f : Fault) → IsTraceOf trace steps →
    (tells ≡ true) ⊎ (refused_place m steps ≡ None) → IsTraceFault tells m name (λ given. given ≡ Ok trace) f → ⊥
never_faulty tells m name trace steps f is right (inl (kind, given, unread)) = never_unread trace kind given
never_faulty tells m name trace steps f is right (inr (text, given, faulty)) =
    trace_right tells m trace steps f is right (subst (λ t. IsFaultOfTrace tells m t f) (all_given trace text given) faulty)

-- A trace that passes has no fault.
none_refused : (judged : Judged) (m : Machine) (trace lines : List ℕ) (p : IsPassed judged m trace lines) → refused_place m p.steps ≡ None
none_refused judged m trace lines p = (tells_first_fault m p.steps).history.1 (p.world, p.reaches)

audited_right : (judged : Judged) (m : Machine) (name trace lines : List ℕ) (status : ℕ) (f : Fault) → IsAudited judged m trace lines status →
    IsTraceFault (tells_refusals judged) m name (λ given. given ≡ Ok trace) f → ⊥
audited_right judged m name trace lines status f (inl (p, zero)) =
    never_faulty (tells_refusals judged) m name trace p.steps f p.reads (inr (none_refused judged m trace lines p))
audited_right judged m name trace lines status f (inr (r, one)) = never_faulty (tells_refusals judged) m name trace r.steps f r.reads (inl r.asked)

-- What a search is asked has no fault where it was done.

answered_right : (scheduler : Scheduler) (q : Question) (m : Machine) (shown : Shown) (expected : Option (List Expected)) (lines unmet : List ℕ) (status : ℕ) →
    IsAnswerBy scheduler m q shown expected lines unmet status → question_fault q ≡ None
answered_right Any q m shown expected lines unmet status (inl is) = is.lawful
answered_right Any q m shown expected lines unmet status (inr is) = is.walked.lawful
answered_right Placed q m shown expected lines unmet status (inl is) = is.lawful
answered_right Placed q m shown expected lines unmet status (inr is) = is.walked.lawful

searched_right : (trace : Option ℕ) (search : EndingsJob) (text : List ℕ) (m : Machine) (expected : Option (List Expected)) (o : Output) →
    IsDoneBy trace search text m expected o → question_fault (question_of search) ≡ None
searched_right None search text m expected o is =
    answered_right search.scheduler (question_of search) m (shown_of text search) expected o.lines o.said o.status is.answered
searched_right (Some number) search text m expected o is = by is.answered
  where
    by : IsAnyTrace m (question_of search) number is.trace → question_fault (question_of search) ≡ None
    by (inl searched) = searched.lawful
    by (inr walk) = walk.walked.lawful

condition_right : (trace : Option ℕ) (m : Machine) (q : Question) (asked : List (List ℕ)) (o : Output) → IsVerdictOut trace m q asked o → question_fault q ≡ None
condition_right None m q asked o is = is.lawful
condition_right (Some number) m q asked o (trace, told, out) = told.lawful

search_right : (always : Option (Bor (List ℕ))) (search : EndingsJob) (text : List ℕ) (m : Machine) (expected : Option (List Expected)) (o : Output) →
    IsSearchDoneBy always search text m expected o → fault_by always m search ≡ None
search_right None search text m expected o is =
    ap (λ f. first_fault f (fault_of_limits search)) is.known
    ∙ ap (option_map fault_of_question) (searched_right search.trace search text m expected o is.done)
search_right (Some condition) search text m expected o is =
    ap (λ r. fault_before r (fault_of_limits search)) is.is
    ∙ ap (option_map fault_of_question) (condition_right search.trace m (question_of search) is.asked o is.out)

-- On the machine of a text

unread : (name : Option (List ℕ)) (text : List ℕ) (f : Fault) → IsSomeAnd name (λ n. FailsWith n (gives_one text) f) → ⊥
unread None text f is = is
unread (Some name) text f (kind, given, failed) = never_unread text kind given

-- A list that is given as one text has one schedule, so a run by it has no fault.

one_schedule : (m : Machine) (list read text : List ℕ) (name : Option (List ℕ)) → IsRead name (gives_one read) text →
    named_schedule m name list text ≡ named_schedule m name list read
one_schedule m list read text None is = refl
one_schedule m list read text (Some name) is = ap (schedule_in_file m) (all_given read text is)

same_schedule : (m : Machine) (list read text other : List ℕ) → IsRead (list_name list) (gives_one read) text → IsRead (list_name list) (gives_one read) other →
    asked_schedule m list text ≡ asked_schedule m list other
same_schedule m list read text other is are =
    one_schedule m list read text (list_name list) is ∙ sym (one_schedule m list read other (list_name list) are)

replay_right : (m : Machine) (rest : Option ℕ) (list read text : List ℕ) (r : CoreRun) (f : Fault) → IsRead (list_name list) (gives_one read) text →
    run_by_list m rest list text ≡ Ok r → IsReplayFault m rest list (gives_one read) f → ⊥
replay_right m rest list read text r f reads done (inl is) = unread (list_name list) read f is
replay_right m rest list read text r f reads done (inr is) =
    let same = ap (run_of_schedule m rest) (same_schedule m list read is.text text is.read reads) ∙ done in
    absurd (let bad : None ≡ Some f = sym (ap fault_of_result same) ∙ is.faulty in cc)

-- What may happen next was told, so the schedule has no fault and has room for an entry more.
next_right : (m : Machine) (list text read : List ℕ) (o : Output) (f : Fault) → IsRead (list_name list) (gives_one read) text → IsNextDone m list text o →
    IsNextFault m list (gives_one read) f → ⊥
next_right m list text read o f reads s (inl is) =
    replay_right m None list read text (replay_entries m s.entries) f reads (ap (run_of_schedule m None) s.asked) is
next_right m list text read o f reads s (inr is) =
    let alike : Ok s.entries ≡ Ok is.entries = sym s.asked ∙ same_schedule m list read text is.text reads is.read ∙ is.asked in
    let same : s.entries ≡ is.entries = cc in
    absurd (let bad : None ≡ Some f = sym (ap (option_map fault_of_run) (sym (ap (nexts_fault m) same) ∙ s.lawful)) ∙ is.faulty in cc)

right_on : (job : Job) (text : List ℕ) (m : Machine) (read : List ℕ) (expected : Option (List Expected)) (o : Output) (f : Fault) →
    IsDoneOn job text m (gives_one read) expected o → IsFaultOn job m (gives_one read) f → ⊥
right_on (Run run) text m read expected o f s is =
    absurd (let bad : None ≡ Some f = sym (ap (option_map fault_of_run) s.is.lawful) ∙ is in cc)
right_on (Replay replay) text m read expected o f (list, reads, s) is =
    replay_right m replay.then_rest replay.schedule.now read list s.run f reads s.is is
right_on (Next next) text m read expected o f (list, reads, s) is = next_right m next.schedule.now list read o f reads s is
right_on (Audit audit) text m read expected o f (trace, given, s) is =
    audited_right audit.judged m audit.trace.now read o.lines o.status f
    (subst (λ t. IsAudited audit.judged m t o.lines o.status) (all_given read trace given) s.audited) is
right_on (Chart chart) text m read expected o f (trace, given, s) (inl is) = absurd (let bad : None ≡ Some f = sym (ap fault_of_threads s.charted.chosen) ∙ is in cc)
right_on (Chart chart) text m read expected o f (trace, given, s) (inr (right, is)) =
    never_faulty true m chart.trace.now read s.charted.steps f (subst (λ t. IsTraceOf t s.charted.steps) (all_given read trace given) s.charted.reads) (inl refl) is
right_on (Endings search) text m read expected o f s is =
    absurd (let bad : None ≡ Some f = sym (search_right search.always search text m expected o s) ∙ is in cc)
right_on (Lint lint) text m read expected o f s is = unread (list_name_in lint.schedule) read f is
right_on (Session step) text m read expected o f s (kind, given, failed) = never_unread read kind given

-- By what is expected

expected_right : (job : Job) (text : List ℕ) (m : Machine) (read asked : List ℕ) (name : Option (List ℕ)) (expected : Option (List Expected)) (o : Output) (f : Fault) →
    IsExpected name (scope_of job) (gives_one asked) expected → IsDoneOn job text m (gives_one read) expected o →
    IsFaultBehind job name m (gives_one read) (gives_one asked) f → ⊥
expected_right job text m read asked None expected o f wants is faulty = right_on job text m read expected o f is faulty
expected_right job text m read asked (Some name) expected o f wants is (inl (kind, given, failed)) = never_unread asked kind given
expected_right job text m read asked (Some name) expected o f (t, lines, given, reads, some) is (inr (u, other, faulty)) =
    let alike : expectations_of (scope_of job) u ≡ Ok lines =
    ap (expectations_of (scope_of job)) (all_given asked u other ∙ sym (all_given asked t given)) ∙ reads in
    right_on job text m read expected o f is (subst (λ r. IsAskedFault job m (gives_one read) r f) alike faulty)

right_for : (job : Job) (text : List ℕ) (d : Result Machine TextFault) (read asked : List ℕ) (o : Output) (f : Fault) →
    IsInLinesFor job text d (gives_one read) (gives_one asked) o → IsFaultFor job d (gives_one read) (gives_one asked) f → ⊥
right_for job text (Ok m) read asked o f (expected, wants, is) faulty = expected_right job text m read asked (expected_of job) expected o f wants is faulty
right_for job text (Err t) read asked o f is faulty = absurd (let bad : true ≡ false = sym is.0 ∙ faulty.0 in cc)

pub no_fault : (job : Job) (text read asked : List ℕ) (o : Output) (f : Fault) → IsDoneFor job text (machine_of_text text) (gives_one read) (gives_one asked) o →
    IsFaultFor job (machine_of_text text) (gives_one read) (gives_one asked) f → ⊥
no_fault job text read asked o f is = right_for job text (machine_of_text text) read asked (record o { lines = is.lines }) f is.in_lines
