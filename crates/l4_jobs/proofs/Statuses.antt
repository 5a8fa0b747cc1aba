-- The exit statuses of jobs.
use Rattle.std.proofs.Common.{◌≡◌, ℕ, zero, suc, Bool, true, false, Option, Some, None, Result, Ok, Err, List, [], ◌∷◌, refl, ap, subst, sym, inl, inr, ◌∙◌}
use Rattle.std.specs.Borrow.{Bor}
use Rattle.std.specs.Prelude.{is_some, if◌then◌else◌}
use Rattle.l4_model.specs.Machine.{Machine}
use Rattle.l4_expect.specs.Expected.{Expected}
use Rattle.l4_expect.specs.Unmet.{expected_status}
use Rattle.l4_expect.specs.declared.judging.Scope.{Scope}
use Rattle.l4_lint.specs.Faults.{Fault as LintFault, faults_of}
use Rattle.l4_lint.specs.Spelling.{status_of}
use Rattle.l4_always.specs.declared.search.Met.{Met}
use Rattle.l4_questions.specs.Always.{verdict_status}
use Rattle.l4_questions.specs.Endings.{Ending as Found}
use Rattle.l4_questions.specs.Printed.{meets, status_of_asked, status_of_search}
use Rattle.l4_questions.specs.Stuck.{if_cut, is_any, stuck_status}
use Rattle.l4_questions.specs.declared.question.Question.{Question}
use Rattle.l4_questions.specs.declared.question.Wanted.{Wanted}
use Rattle.l4_questions.specs.declared.question.Wanted.TheVariants as wanted
use Rattle.l4_script.specs.Versions.{machine_of_text}
use Rattle.l4_script.specs.declared.text.fault.TextFault.{TextFault}
use Rattle.l4_types.specs.declared.reports.Ending.{Ending}
use Rattle.l4_types.specs.declared.reports.Ending.TheVariants.{Quiet, Spent}
use Rattle.std.specs.List.{list_all}
use Rattle.l4_commands.specs.Files.{expected_of}
use Rattle.l4_commands.specs.declared.job.EndingsJob.{EndingsJob}
use Rattle.l4_commands.specs.declared.job.Job.{Job}
use Rattle.l4_commands.specs.declared.job.Judged.{Judged}
use Rattle.l4_commands.specs.declared.job.Job.TheVariants.{Run, Replay, Next, Audit, Chart, Endings, Lint, Step}
use Rattle.l4_commands.specs.declared.job.Scheduler.{Scheduler}
use Rattle.l4_commands.specs.declared.job.Scheduler.TheVariants.{Any, Placed}
use Rattle.l4_commands.specs.declared.job.Wanted.{Wanted as Asked}
use Rattle.l4_commands.specs.declared.job.Wanted.TheVariants as asked
use Rattle.l4_jobs.specs.Audits.{IsAudited}
use Rattle.l4_jobs.specs.ChartJobs.{status_of_refused}
use Rattle.l4_jobs.specs.Expectations.{IsExpected, is_met_by, scope_of, status_by}
use Rattle.l4_jobs.specs.Inputs.{Gives}
use Rattle.l4_jobs.specs.Jobs.{IsDone, IsDoneOn, IsInLinesFor, IsStatusOf}
use Rattle.l4_jobs.specs.Outputs.{Output}
use Rattle.l4_jobs.specs.Runs.{status_of_ending}
use Rattle.l4_jobs.specs.Searches.{IsAnswerBy, IsDoneBy, IsSearchDoneBy, IsTraceOut, IsVerdictOut, question_of, shown_of, wanted_of}

-- Something is expected exactly where a file is named.
same_some : (name : Option (List ℕ)) (scope : Scope) (gives : Gives) (expected : Option (List Expected)) → IsExpected name scope gives expected →
    is_some expected ≡ is_some name
same_some None scope gives expected is = ap is_some is
same_some (Some name) scope gives expected (text, lines, given, reads, is) = ap is_some is

-- Of a run

rests : (job : Job) (ending : Ending) (status : ℕ) → status ≡ status_of_ending ending → IsStatusOf job status
rests job Quiet status is = inl is
rests job Spent status is = inr (inr (inl is))

met_or_not : (job : Job) (met : Bool) (ending : Ending) (status : ℕ) → is_some (expected_of job) ≡ true →
    status ≡ expected_status met (status_of_ending ending) → IsStatusOf job status
met_or_not job true ending status some is = rests job ending status is
met_or_not job false ending status some is = inr (inr (inr (is, inr some)))

run_status : (job : Job) (expected : Option (List Expected)) (report : List ℕ) (ending : Ending) (status : ℕ) → is_some expected ≡ is_some (expected_of job) →
    status ≡ status_by expected report (status_of_ending ending) → IsStatusOf job status
run_status job None report ending status same is = rests job ending status is
run_status job (Some lines) report ending status same is = met_or_not job (is_met_by (Some lines) report) ending status (sym same) is

-- Of a search

whole_or_cut : (search : EndingsJob) (is_whole : Bool) (status : ℕ) → status ≡ status_of_search is_whole → IsStatusOf (Endings search) status
whole_or_cut search true status is = inl is
whole_or_cut search false status is = inr (inr (inl is))

wants_none : (a : Asked) → wanted_of a ≡ wanted.NoEnding → a ≡ asked.NoEnding
wants_none asked.Whatever is = cc
wants_none asked.NoEnding is = refl
wants_none asked.AnEnding is = cc

wants_one : (a : Asked) → wanted_of a ≡ wanted.AnEnding → a ≡ asked.AnEnding
wants_one asked.Whatever is = cc
wants_one asked.NoEnding is = cc
wants_one asked.AnEnding is = refl

answered : (search : EndingsJob) (w : Wanted) (found : List Found) (is_whole : Bool) (status : ℕ) → wanted_of search.wanted ≡ w →
    status ≡ status_of_asked w found is_whole → IsStatusOf (Endings search) status
answered search wanted.Whatever found is_whole status asks is = whole_or_cut search is_whole status is
answered search wanted.NoEnding [] is_whole status asks is = whole_or_cut search is_whole status is
answered search wanted.NoEnding (e ∷ found) is_whole status asks is = inr (inr (inr (is, inl (inl (wants_none search.wanted asks)))))
answered search wanted.AnEnding (e ∷ found) is_whole status asks is = inl is
answered search wanted.AnEnding [] true status asks is = inr (inr (inr (is, inl (inr (inl (wants_one search.wanted asks))))))
answered search wanted.AnEnding [] false status asks is = inr (inr (inl is))

all_meet : (found : List Found) → list_all (meets None) found ≡ true
all_meet [] = refl
all_meet (e ∷ found) = all_meet found

search_met : (search : EndingsJob) (met : Bool) (found : List Found) (is_whole : Bool) (status : ℕ) → is_some (expected_of (Endings search)) ≡ true →
    status ≡ expected_status met (status_of_asked (wanted_of search.wanted) found is_whole) → IsStatusOf (Endings search) status
search_met search true found is_whole status some is = answered search (wanted_of search.wanted) found is_whole status refl is
search_met search false found is_whole status some is = inr (inr (inr (is, inr some)))

search_status : (search : EndingsJob) (expected : Option (List Expected)) (found : List Found) (is_whole : Bool) (status : ℕ) →
    is_some expected ≡ is_some (expected_of (Endings search)) →
    status ≡ expected_status (list_all (meets expected) found) (status_of_asked (wanted_of search.wanted) found is_whole) → IsStatusOf (Endings search) status
search_status search None found is_whole status same is =
    answered search (wanted_of search.wanted) found is_whole status refl
    (is ∙ ap (λ all. expected_status all (status_of_asked (wanted_of search.wanted) found is_whole)) (all_meet found))
search_status search (Some lines) found is_whole status same is =
    search_met search (list_all (meets (Some lines)) found) found is_whole status (sym same) is

-- Who is stuck for ever changes the status of a search to 4 or 3, or not at all.

cut_arm : (search : EndingsJob) (is_whole : Bool) (told status : ℕ) → status ≡ if_cut is_whole told → IsStatusOf (Endings search) told → IsStatusOf (Endings search) status
cut_arm search true told status is before = subst (IsStatusOf (Endings search)) (sym is) before
cut_arm search false zero status is before = inr (inr (inl is))
cut_arm search false (suc told) status is before = subst (IsStatusOf (Endings search)) (sym is) before

stuck_arm : (search : EndingsJob) (w : Wanted) (is_any is_whole : Bool) (told status : ℕ) → wanted_of search.wanted ≡ w → status ≡ stuck_status w is_any is_whole told →
    IsStatusOf (Endings search) told → IsStatusOf (Endings search) status
stuck_arm search wanted.NoEnding true is_whole told status asks is before = inr (inr (inr (is, inl (inl (wants_none search.wanted asks)))))
stuck_arm search wanted.NoEnding false is_whole told status asks is before = cut_arm search is_whole told status is before
stuck_arm search wanted.Whatever is_any is_whole told status asks is before = cut_arm search is_whole told status is before
stuck_arm search wanted.AnEnding is_any is_whole told status asks is before = subst (IsStatusOf (Endings search)) (sym is) before

answer_status : (scheduler : Scheduler) (search : EndingsJob) (text : List ℕ) (m : Machine) (expected : Option (List Expected)) (lines unmet : List ℕ) (status : ℕ) →
    is_some expected ≡ is_some (expected_of (Endings search)) →
    IsAnswerBy scheduler m (question_of search) (shown_of text search) expected lines unmet status → IsStatusOf (Endings search) status
answer_status Any search text m expected lines unmet status same (inl is) =
    stuck_arm search (wanted_of search.wanted) (is_any is.stuck) is.is_stuck_whole is.told_status status refl is.status_is
    (search_status search expected _ _ is.told_status same is.told.status_is)
answer_status Any search text m expected lines unmet status same (inr is) = search_status search expected _ _ status same is.told.status_is
answer_status Placed search text m expected lines unmet status same (inl is) = search_status search expected _ _ status same is.told.status_is
answer_status Placed search text m expected lines unmet status same (inr is) = search_status search expected _ _ status same is.told.status_is

trace_status : (search : EndingsJob) (trace : Option (List ℕ)) (o : Output) → IsTraceOut trace o → IsStatusOf (Endings search) o.status
trace_status search (Some lines) o (printed, said, is) = inl is
trace_status search None o (printed, said, one) = inr (inl one)

done_by : (trace : Option ℕ) (search : EndingsJob) (text : List ℕ) (m : Machine) (expected : Option (List Expected)) (o : Output) →
    is_some expected ≡ is_some (expected_of (Endings search)) → IsDoneBy trace search text m expected o → IsStatusOf (Endings search) o.status
done_by None search text m expected o same is = answer_status search.scheduler search text m expected o.lines o.said o.status same is.answered
done_by (Some number) search text m expected o same is = trace_status search is.trace o is.out

-- Of whether a world on the way meets a condition

verdict_by : (search : EndingsJob) (met : Option Met) (is_whole : Bool) (status : ℕ) → is_some search.always ≡ true → status ≡ verdict_status met is_whole → IsStatusOf (Endings search) status
verdict_by search (Some met) is_whole status some is = inr (inr (inr (is, inl (inr (inr some)))))
verdict_by search None is_whole status some is = whole_or_cut search is_whole status is

verdict_arm : (trace : Option ℕ) (search : EndingsJob) (m : Machine) (q : Question) (lines : List (List ℕ)) (o : Output) → is_some search.always ≡ true → IsVerdictOut trace m q lines o → IsStatusOf (Endings search) o.status
verdict_arm None search m q lines o some is = verdict_by search is.verdict.met is.verdict.is_whole o.status some is.status_is
verdict_arm (Some number) search m q lines o some (trace, told, out) = trace_status search trace o out

done_for : (always : Option (Bor (List ℕ))) (search : EndingsJob) (text : List ℕ) (m : Machine) (expected : Option (List Expected)) (o : Output) → search.always ≡ always →
    is_some expected ≡ is_some (expected_of (Endings search)) → IsSearchDoneBy always search text m expected o → IsStatusOf (Endings search) o.status
done_for None search text m expected o by same is = done_by search.trace search text m expected o same is.done
done_for (Some condition) search text m expected o by same is = verdict_arm search.trace search m (question_of search) is.asked o (ap is_some by) is.out

-- Of what a trace or a lint tells

audit_status : (job : Job) (judged : Judged) (m : Machine) (trace lines : List ℕ) (status : ℕ) → IsAudited judged m trace lines status → IsStatusOf job status
audit_status job judged m trace lines status (inl (p, is)) = inl is
audit_status job judged m trace lines status (inr (r, one)) = inr (inl one)

chart_status : (job : Job) (refused : Option ℕ) (status : ℕ) → status ≡ status_of_refused refused → IsStatusOf job status
chart_status job None status is = inl is
chart_status job (Some number) status is = inr (inl is)

list_status : (job : Job) (none : Bool) (status : ℕ) → status ≡ (if none then 0 else 1) → IsStatusOf job status
list_status job true status is = inl is
list_status job false status is = inr (inl is)

lint_status : (job : Job) (found : List LintFault) (status : ℕ) → status ≡ status_of found → IsStatusOf job status
lint_status job [] status is = inl is
lint_status job (f ∷ found) status is = inr (inl is)

status_on : (job : Job) (text : List ℕ) (m : Machine) (second : Gives) (expected : Option (List Expected)) (o : Output) →
    is_some expected ≡ is_some (expected_of job) → IsDoneOn job text m second expected o → IsStatusOf job o.status
status_on (Run run) text m second expected o same is =
    run_status (Run run) expected _ _ o.status same is.status_is
status_on (Replay replay) text m second expected o same (list, reads, is) =
    run_status (Replay replay) expected _ _ o.status same is.status_is
status_on (Next next) text m second expected o same (list, reads, is) = inl is.status_is
status_on (Audit audit) text m second expected o same (trace, given, is) =
    audit_status (Audit audit) audit.judged m trace o.lines o.status is.audited
status_on (Chart chart) text m second expected o same (trace, given, is) = chart_status (Chart chart) _ o.status is.charted.status_is
status_on (Endings search) text m second expected o same is = done_for search.always search text m expected o refl same is
status_on (Lint lint) text m second expected o same (list, reads, is) = list_status (Lint lint) _ o.status is.status_is
status_on (Step step) text m second expected o same (input, given, is) = inl is.status_is

status_for : (job : Job) (text : List ℕ) (d : Result Machine TextFault) (second expects : Gives) (o : Output) → IsInLinesFor job text d second expects o →
    IsStatusOf job o.status
status_for job text (Ok m) second expects o (expected, wants, is) =
    status_on job text m second expected o (same_some (expected_of job) (scope_of job) expects expected wants) is
status_for job text (Err t) second expects o is = lint_status job (faults_of text) o.status is.1.status_is

pub done_status : (job : Job) (machine second expects : Gives) (o : Output) → IsDone job machine second expects o → IsStatusOf job o.status
done_status job machine second expects o d =
    status_for job d.text (machine_of_text d.text) second expects (record o { lines = d.is.lines }) d.is.in_lines
