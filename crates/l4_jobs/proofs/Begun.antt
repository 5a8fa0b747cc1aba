-- A search whose endings are written as soon as each is found.
use Rattle.std.proofs.Common.{◌≡◌, ℕ, Bool, true, false, Option, Some, None, Result, Ok, Err, List, [], ◌++◌, refl, ap, sym, subst, inl, inr, ◌∙◌}
use Rattle.std.specs.Prelude.{◌⊎◌, ◌&&◌, not, if◌then◌else◌, is_none, IfErr, IsSomeAnd}
use Rattle.std.specs.Borrow.{Bor}
use Rattle.std.specs.Option.{option_copied, option_map}
use Rattle.std.specs.declared.io.ErrorKind.{ErrorKind}
use Rattle.l4_model.specs.Machine.{Machine}
use Rattle.l4_expect.specs.Expected.{Expected, expectations_of}
use Rattle.l4_expect.specs.Judging.{wrong_of_ending}
use Rattle.l4_expect.specs.declared.judging.Wrong.{Wrong}
use Rattle.l4_script.specs.Versions.{machine_of_text}
use Rattle.l4_questions.specs.Beside.{Shown}
use Rattle.l4_questions.specs.Limits.{first_fault as judged_first, is_out_of_range, line_fault_at, lines_fault, most_deep, most_memory, most_states, question_fault}
use Rattle.l4_questions.specs.Told.{BreaksOff, IsToldFirst, Takes}
use Rattle.l4_questions.specs.declared.question.Question.{Question}
use Rattle.l4_questions.specs.declared.question.QuestionFault.{QuestionFault}
use Rattle.l4_questions.specs.declared.question.QuestionFault.TheVariants as question
use Rattle.l4_questions.specs.declared.teller.TellFault.{TellFault}
use Rattle.l4_questions.specs.declared.teller.TellFault.TheVariants.{NoAnswer, NotTold}
use Rattle.l4_commands.specs.Files.{second_file_of}
use Rattle.l4_commands.specs.declared.job.EndingsJob.{EndingsJob}
use Rattle.l4_commands.specs.declared.job.Job.{Job}
use Rattle.l4_commands.specs.declared.job.Job.TheVariants.{Endings}
use Rattle.l4_commands.specs.declared.job.Scheduler.{Scheduler}
use Rattle.l4_commands.specs.declared.job.Scheduler.TheVariants.{Any, Placed}
use Rattle.l4_jobs.specs.Expectations.{IsExpected, scope_of}
use Rattle.l4_jobs.specs.FaultLines.{IsReported}
use Rattle.l4_jobs.specs.Inputs.{Gives, gives_nothing}
use Rattle.l4_jobs.specs.Inner.Reading.{IsReadAs}
use Rattle.l4_jobs.specs.Jobs.{IsAskedFault, IsDone, IsDoneFor, IsFaultBehind, IsFaultFor, IsFaultOn, IsInLinesFor, IsStatusOf}
use Rattle.l4_jobs.specs.Objects.{told}
use Rattle.l4_jobs.specs.Outputs.{Output}
use Rattle.l4_jobs.specs.Performing.{IsDoneOrStopped, IsKeptOut, IsLinesOut, IsOpened, IsPerformed, IsStopped, IsTrulyDone, Sinks, asks_none, sinks}
use Rattle.l4_jobs.specs.Searches.{IsAnswerBy, IsAnswerDone, IsDoneBy, IsEndingsDone, IsSearchDone, IsSearchDoneBy, fault_by, fault_of_endings, fault_of_limits, fault_of_question, fault_of_rests, first_fault, question_of, shown_of}
use Rattle.l4_jobs.specs.Streaming.{HasBegunBy, IsAllButWritten, IsBegun, IsCutOff, IsSearchStop, IsStop, IsStopFor, fault_of_stop, is_streamed, stop_of, streamed_of}
use Rattle.l4_streams.specs.Streams.{GivenGives, TakesSome}
use Rattle.l4_jobs.specs.declared.fault.Fault.{Fault}
use Rattle.l4_jobs.specs.declared.streaming.Stop.{Stop}
use Rattle.l4_jobs.specs.declared.streaming.Stop.TheVariants as stop
use Rattle.l4_streams.specs.declared.streams.Given.{Given}
use Rattle.l4_streams.specs.declared.streams.Given.TheVariants.{Nothing}
use Rattle.l4_jobs.proofs.Making.{done_given}
use Rattle.l4_jobs.proofs.Performed.{performed_as, performed_status, performed_true}

-- Which searches they are

both : (a b : Bool) → (a && b) ≡ true → (a ≡ true) × (b ≡ true)
both true b is = (refl, is)
both false b is = absurd (let bad = is in cc)

nothing_is : {A : Type 0} (o : Option A) → is_none o ≡ true → o ≡ None
nothing_is None is = refl
nothing_is (Some x) is = absurd (let bad = is in cc)

untrue : (b : Bool) → not b ≡ true → b ≡ false
untrue true is = absurd (let bad = is in cc)
untrue false is = refl

record AreInLines (search : EndingsJob) : Type 0 where
  untraced : search.trace ≡ None
  unconditional : search.always ≡ None
  plain : search.json ≡ false

in_lines : (search : EndingsJob) → is_streamed search ≡ true → AreInLines search
in_lines search is =
    let plain = both (is_none search.trace && is_none search.always) (not search.json) is in
    let alone = both (is_none search.trace) (is_none search.always) plain.0 in
    record {
      untraced = nothing_is search.trace alone.0;
      unconditional = nothing_is search.always alone.1;
      plain = untrue search.json plain.1;
    }

pub streamed_is : (job : Job) (search : EndingsJob) → streamed_of job ≡ Some search → (job ≡ Endings search) × (is_streamed search ≡ true)
streamed_is (Endings e) search is = by (is_streamed e) refl is
  where
    by : (b : Bool) → is_streamed e ≡ b → (if b then Some e else None) ≡ Some search → (Endings e ≡ Endings search) × (is_streamed search ≡ true)
    by true lines is = let same : e ≡ search = cc in (ap Endings same, subst (λ s. is_streamed s ≡ true) same lines)
    by false lines is = absurd (let bad = is in cc)
streamed_is job search is = absurd (let bad = is in cc)

-- What was told was taken

begun_as : (scheduler : Scheduler) (takes out : Takes) (m : Machine) (q : Question) (shown : Shown) (all : Bool) → ((bytes : List ℕ) (all : Bool) → takes bytes all → out bytes all) →
    HasBegunBy scheduler takes m q shown all → HasBegunBy scheduler out m q shown all
begun_as Any takes out m q shown all onto begun = record {
  lawful = begun.lawful;
  traces = begun.traces;
  depth = begun.depth;
  are = begun.are;
  told = record { count = begun.told.count; within = begun.told.within; taken = onto _ all begun.told.taken };
}
begun_as Placed takes out m q shown all onto begun = record {
  lawful = begun.lawful;
  endings = begun.endings;
  depth = begun.depth;
  are = begun.are;
  told = record { count = begun.told.count; within = begun.told.within; taken = onto _ all begun.told.taken };
}

-- Refused memory is no fault of a question.
never_memory : (q : Question) → question_fault q ≡ Some question.NoMemory → ⊥
never_memory q is =
    by (lines_fault (option_copied q.with_line) (option_copied q.never)) (of_lines (option_copied q.with_line) (option_copied q.never)) (is_out_of_range most_deep q.depth)
    (is_out_of_range most_states q.states) (is_out_of_range most_memory q.memory) is
  where
    of_line : (number : ℕ) (wrong : Option Wrong) → option_map (question.Line number) wrong ≡ Some question.NoMemory → ⊥
    of_line number None is = absurd (let bad = is in cc)
    of_line number (Some wrong) is = absurd (let bad = is in cc)

    line_at : (number : ℕ) (asked : Option (List ℕ)) → line_fault_at number asked ≡ Some question.NoMemory → ⊥
    line_at number None is = absurd (let bad = is in cc)
    line_at number (Some asked) is = of_line number (wrong_of_ending asked) is

    first : (one other : Option QuestionFault) → (one ≡ Some question.NoMemory → ⊥) → (other ≡ Some question.NoMemory → ⊥) → judged_first one other ≡ Some question.NoMemory → ⊥
    first None other not_one not_other is = not_other is
    first (Some fault) other not_one not_other is = not_one is

    of_lines : (with_line never : Option (List ℕ)) → lines_fault with_line never ≡ Some question.NoMemory → ⊥
    of_lines None never is = line_at 1 never is
    of_lines (Some asked) never is = first (line_fault_at 1 (Some asked)) (line_fault_at 2 never) (line_at 1 (Some asked)) (line_at 2 never) is

    by : (lines : Option QuestionFault) → (lines ≡ Some question.NoMemory → ⊥) → (a b c : Bool) →
        judged_first lines (if a then Some question.Depth else if b then Some question.States else if c then Some question.Memory else None) ≡ Some question.NoMemory → ⊥
    by (Some fault) none a b c is = none is
    by None none true b c is = absurd (let bad = is in cc)
    by None none false true c is = absurd (let bad = is in cc)
    by None none false false true is = absurd (let bad = is in cc)
    by None none false false false is = absurd (let bad = is in cc)

limits_fault : (search : EndingsJob) (m : Machine) (f : QuestionFault) → fault_of_rests m search ≡ None → question_fault (question_of search) ≡ Some f →
    fault_of_endings m search ≡ Some (fault_of_question f)
limits_fault search m f rests is = ap (λ before. first_fault before (fault_of_limits search)) rests ∙ ap (option_map fault_of_question) is

broken_off : (search : EndingsJob) (text : List ℕ) (m : Machine) (takes out : Takes) (keeps_out : Type 0) (shown : Shown) (f : TellFault) → fault_of_rests m search ≡ None →
    shown ≡ shown_of text search → ((bytes : List ℕ) (all : Bool) → takes bytes all → out bytes all) → (takes [] true → keeps_out) →
    BreaksOff takes (question_of search) (HasBegunBy search.scheduler takes m (question_of search) shown) f → IsSearchStop search text m out keeps_out (stop_of f)
broken_off search text m takes out keeps_out shown f rests is onto kept broken = by f broken
  where
    begun : (all : Bool) → HasBegunBy search.scheduler takes m (question_of search) shown all → HasBegunBy search.scheduler out m (question_of search) (shown_of text search) all
    begun all has = subst (λ s. HasBegunBy search.scheduler out m (question_of search) s all) is (begun_as search.scheduler takes out m (question_of search) shown all onto has)

    by : (f : TellFault) → BreaksOff takes (question_of search) (HasBegunBy search.scheduler takes m (question_of search) shown) f → IsSearchStop search text m out keeps_out (stop_of f)
    by NotTold has = (rests, begun false has)
    by (NoAnswer question.NoMemory) (inl (none, has)) = (rests, begun true has)
    by (NoAnswer question.NoMemory) (inr (faulty, none)) = elim (never_memory (question_of search) faulty) [ ]
    by (NoAnswer (question.Line line wrong)) (inl (none, has)) = absurd (let bad = none in cc)
    by (NoAnswer (question.Line line wrong)) (inr (faulty, none)) = (inr (limits_fault search m (question.Line line wrong) rests faulty), kept none)
    by (NoAnswer question.Depth) (inl (none, has)) = absurd (let bad = none in cc)
    by (NoAnswer question.Depth) (inr (faulty, none)) = (inr (limits_fault search m question.Depth rests faulty), kept none)
    by (NoAnswer question.States) (inl (none, has)) = absurd (let bad = none in cc)
    by (NoAnswer question.States) (inr (faulty, none)) = (inr (limits_fault search m question.States rests faulty), kept none)
    by (NoAnswer question.Memory) (inl (none, has)) = absurd (let bad = none in cc)
    by (NoAnswer question.Memory) (inr (faulty, none)) = (inr (limits_fault search m question.Memory rests faulty), kept none)

answered_first : (search : EndingsJob) (text : List ℕ) (m : Machine) (expected : Option (List Expected)) (takes out : Takes) (shown : Shown) (left unmet : List ℕ) (status : ℕ) (o : Output) →
    shown ≡ shown_of text search → o ≡ record { lines = left; list = None; said = unmet; status = status } → ((bytes : List ℕ) (all : Bool) → takes bytes all → out bytes all) →
    IsToldFirst takes (λ lines. IsAnswerBy search.scheduler m (question_of search) shown expected lines unmet status) left →
    IsToldFirst out (λ lines. IsAnswerDone search text m expected (record o { lines = lines })) o.lines
answered_first search text m expected takes out shown left unmet status o is comes onto first =
    subst (λ (x : Output). IsToldFirst out (λ lines. IsAnswerDone search text m expected (record x { lines = lines })) x.lines) (sym comes) (record {
      told = first.told;
      taken = onto first.told true first.taken;
      answer = record {
        answered = subst (λ s. IsAnswerBy search.scheduler m (question_of search) s expected (first.told ++ left) unmet status) is first.answer;
        unrecorded = refl;
      };
    })

-- Where a sink is told by its name, it ends as it was left.

ended : {S : Type 0} (takes : (old new : S) → Takes) (named : Type 0) (old new final : S) → (named → final ≡ new) → (bytes : List ℕ) (all : Bool) →
    named × TakesSome (takes old new) (new ≡ old) bytes all → takes old final bytes all
ended takes named old new final ends bytes all taken = subst (λ s. takes old s bytes all) (sym (ends taken.0)) taken.1.0

pub broken_onto : {S : Type 0} (takes : (old new : S) → Takes) (named : Type 0) (old new final : S) (search : EndingsJob) (text : List ℕ) (m : Machine) (q : Question) (shown : Shown)
    (f : TellFault) → q ≡ question_of search → shown ≡ shown_of text search → fault_of_rests m search ≡ None →
    BreaksOff (λ bytes all. named × TakesSome (takes old new) (new ≡ old) bytes all) q
    (HasBegunBy search.scheduler (λ bytes all. named × TakesSome (takes old new) (new ≡ old) bytes all) m q shown) f →
    (named → final ≡ new) → IsSearchStop search text m (takes old final) (final ≡ old) (stop_of f)
broken_onto takes named old new final search text m q shown f asked is rests has ends =
    broken_off search text m (λ bytes all. named × TakesSome (takes old new) (new ≡ old) bytes all) (takes old final) (final ≡ old) shown f rests is
    (ended takes named old new final ends) (λ taken. ends taken.0 ∙ taken.1.1 refl)
    (subst
    (λ r. BreaksOff (λ bytes all. named × TakesSome (takes old new) (new ≡ old) bytes all) r
    (HasBegunBy search.scheduler (λ bytes all. named × TakesSome (takes old new) (new ≡ old) bytes all) m r shown) f)
    asked has)

pub answered_onto : {S : Type 0} (takes : (old new : S) → Takes) (named : Type 0) (old new final : S) (search : EndingsJob) (text : List ℕ) (m : Machine) (q : Question)
    (expected given : Option (List Expected)) (shown : Shown) (left unmet : List ℕ) (status : ℕ) (o : Output) → q ≡ question_of search → shown ≡ shown_of text search → given ≡ expected →
    o ≡ record { lines = left; list = None; said = unmet; status = status } →
    IsToldFirst (λ bytes all. named × TakesSome (takes old new) (new ≡ old) bytes all) (λ lines. IsAnswerBy search.scheduler m q shown given lines unmet status) left →
    (named → final ≡ new) → IsToldFirst (takes old final) (λ lines. IsAnswerDone search text m expected (record o { lines = lines })) o.lines
answered_onto takes named old new final search text m q expected given shown left unmet status o asked is same comes first ends =
    answered_first search text m expected (λ bytes all. named × TakesSome (takes old new) (new ≡ old) bytes all) (takes old final) shown left unmet status o is comes
    (ended takes named old new final ends)
    (subst (λ r. IsToldFirst (λ bytes all. named × TakesSome (takes old new) (new ≡ old) bytes all) (λ lines. IsAnswerBy search.scheduler m r shown expected lines unmet status) left) asked
    (subst (λ e. IsToldFirst (λ bytes all. named × TakesSome (takes old new) (new ≡ old) bytes all) (λ lines. IsAnswerBy search.scheduler m q shown e lines unmet status) left) same first))

-- On the machine of a text

pub err_as : {X Y : Type 0} (r : Result X Y) (P Q : Y → Type 0) → ((y : Y) → P y → Q y) → IfErr r P → IfErr r Q
err_as (Ok x) P Q h p = tt
err_as (Err y) P Q h p = h y p

pub stop_as : (A B : Fault → Type 0) (C D : Bool → Type 0) (keeps_out : Type 0) → ((f : Fault) → A f → B f) → ((all : Bool) → C all → D all) → (s : Stop) → IsStop A C keeps_out s → IsStop B D keeps_out s
stop_as A B C D keeps_out faults begun (stop.Faulty f) (inl none, kept) = (inl none, kept)
stop_as A B C D keeps_out faults begun (stop.Faulty f) (inr is, kept) = (inr (faults f is), kept)
stop_as A B C D keeps_out faults begun stop.NoMemory is = begun true is
stop_as A B C D keeps_out faults begun stop.NotWritten is = begun false is

fault_behind : (job : Job) (name : Option (List ℕ)) (m : Machine) (second expects : Gives) (expected : Option (List Expected)) (f : Fault) →
    IsExpected name (scope_of job) expects expected → IsFaultOn job m second f → IsFaultBehind job name m second expects f
fault_behind job None m second expects expected f wants is = is
fault_behind job (Some name) m second expects expected f (text, lines, given, reads, some) is =
    inr (text, given, subst (λ r. IsAskedFault job m second r f) (sym reads) is)

-- What is expected of each ending, where a file is named, and where none is.

pub wants_some : (search : EndingsJob) (name : Bor (List ℕ)) (expects : Gives) (asked slice : List ℕ) (lines : List Expected) → search.expected ≡ Some name → slice ≡ asked →
    expects (Ok asked) → expectations_of (scope_of (Endings search)) slice ≡ Ok lines →
    IsExpected (option_copied search.expected) (scope_of (Endings search)) expects (Some lines)
wants_some search name expects asked slice lines is slices given reads =
    subst (λ file. IsExpected (option_copied file) (scope_of (Endings search)) expects (Some lines)) (sym is) (
      asked,
      lines,
      given,
      ap (expectations_of (scope_of (Endings search))) (sym slices) ∙ reads,
      refl,
    )

pub wants_none : (search : EndingsJob) (expects : Gives) → search.expected ≡ None → IsExpected (option_copied search.expected) (scope_of (Endings search)) expects None
wants_none search expects is = subst (λ file. IsExpected (option_copied file) (scope_of (Endings search)) expects None) (sym is) refl

-- What stops a search on a machine stops it for its text.
pub stop_for : (search : EndingsJob) (text : List ℕ) (m : Machine) (expects : Gives) (expected : Option (List Expected)) (out : Takes) (keeps_out : Type 0) → is_streamed search ≡ true →
    machine_of_text text ≡ Ok m → IsExpected (option_copied search.expected) (scope_of (Endings search)) expects expected → (s : Stop) →
    IsSearchStop search text m out keeps_out s → IsStopFor search text expects out keeps_out s
stop_for search text m expects expected out keeps_out is declares wants s = stop_as _ _ _ _ keeps_out faulty begun s
  where
    faulty : (f : Fault) → fault_of_endings m search ≡ Some f → IsFaultFor (Endings search) (machine_of_text text) gives_nothing expects f
    faulty f is_fault =
        subst (λ d. IsFaultFor (Endings search) d gives_nothing expects f) (sym declares)
        (fault_behind (Endings search) (option_copied search.expected) m gives_nothing expects expected f wants (ap (λ c. fault_by c m search) (in_lines search is).unconditional ∙ is_fault))

    begun : (all : Bool) → (fault_of_rests m search ≡ None) × HasBegunBy search.scheduler out m (question_of search) (shown_of text search) all → IsCutOff search text expects out all
    begun all has = record { machine = m; expected = expected; begun = record { declares = declares; asked = wants; rests = has.0 }; wrote = has.1 }

-- What is written of it

searched : (search : EndingsJob) (text : List ℕ) (m : Machine) (expected : Option (List Expected)) (o : Output) → is_streamed search ≡ true → fault_of_rests m search ≡ None →
    IsAnswerDone search text m expected o → IsSearchDone search text m expected o
searched search text m expected o is rests answered =
    let lines = in_lines search is in
    let done : IsDoneBy search.trace search text m expected o = subst (λ t. IsDoneBy t search text m expected o) (sym lines.untraced) answered in
    let endings : IsEndingsDone search text m expected o = record { known = rests; done = done } in
    subst (λ c. IsSearchDoneBy c search text m expected o) (sym lines.unconditional) endings

done_so : (search : EndingsJob) (text : List ℕ) (m : Machine) (expects : Gives) (expected : Option (List Expected)) (o : Output) → is_streamed search ≡ true →
    IsBegun search text expects m expected → IsAnswerDone search text m expected o → IsDoneFor (Endings search) text (machine_of_text text) gives_nothing expects o
done_so search text m expects expected o is begun answered =
    let on : IsInLinesFor (Endings search) text (Ok m) gives_nothing expects o = (expected, begun.asked, searched search text m expected o is begun.rests answered) in
    record {
      lines = o.lines;
      in_lines = subst (λ d. IsInLinesFor (Endings search) text d gives_nothing expects o) (sym begun.declares) on;
      told_are = sym (ap (λ json. told json o.lines) (in_lines search is).plain);
    }

lines_joined : (left : Output) (front : List ℕ) (behind out faults : Takes) (keeps_faults : Type 0) (status : ℕ) →
    ((all : Bool) → behind left.lines all → out (front ++ left.lines) all) → IsLinesOut left behind faults keeps_faults status →
    IsLinesOut (record left { lines = front ++ left.lines }) out faults keeps_faults status
lines_joined left front behind out faults keeps_faults status on (inl (wrote, said, same)) = inl (on true wrote, said, same)
lines_joined left front behind out faults keeps_faults status on (inr (wrote, reported, one)) = inr (on false wrote, reported, one)

pub all_written : (explains : Bool) (search : EndingsJob) (machine expects : Gives) (read slice : List ℕ) (left : Output) (before behind out : Takes) (keeps_out : Type 0) (faults : Takes)
    (keeps_faults : Type 0) (status : ℕ) → is_streamed search ≡ true → (all : List ℕ) × machine (Ok all) × IsReadAs read all → slice ≡ read →
    IsAllButWritten search slice expects before left → ((front back : List ℕ) (all : Bool) → before front true → behind back all → out (front ++ back) all) →
    IsLinesOut left behind faults keeps_faults status →
    IsPerformed explains (Endings search) machine gives_nothing expects (sinks asks_none (Unit {0}) out keeps_out faults keeps_faults) status
all_written explains search machine expects read slice left before behind out keeps_out faults keeps_faults status is given slices written join lines =
    let front = written.answered.told in
    let o = record left { lines = front ++ left.lines } in
    let answer : IsAnswerDone search slice written.machine written.expected o = written.answered.answer in
    let done : IsDone (Endings search) machine gives_nothing expects o =
    done_given (Endings search) machine gives_nothing expects read slice o given slices (done_so search slice written.machine expects written.expected o is written.begun answer) in
    inr (
      o,
      done,
      subst (λ l. IsKeptOut o l (sinks asks_none (Unit {0}) out keeps_out faults keeps_faults) status) (sym answer.unrecorded) (
        tt,
        lines_joined left front behind out faults keeps_faults status (λ all. join front left.lines all written.answered.taken) lines,
      ),
    )

-- What was read of a text that declares a machine is all of it.
pub search_stopped : (search : EndingsJob) (machine expects : Gives) (read slice : List ℕ) (s : Sinks) (whole : Bool) (status : ℕ) → (all : List ℕ) × machine (Ok all) × IsReadAs read all →
    slice ≡ read → IsCutOff search slice expects s.out whole → s.keeps_list → IsReported s.faults (fault_of_stop whole) → status ≡ 1 → IsStopped search machine expects s status
search_stopped search machine expects read slice s whole status (all, given, same) slices cut kept told one =
    let declares : machine_of_text all ≡ Ok cut.machine = sym same.machine ∙ ap machine_of_text (sym slices) ∙ cut.begun.declares in
    record {
      text = all;
      given = given;
      all = whole;
      wrote = subst (λ t. IsCutOff search t expects s.out whole) (slices ∙ same.whole cut.machine declares) cut;
      unrecorded = kept;
      told = told;
      status_is = one;
    }

-- On the files of a job

pub streamed_as : {File : Type 0} (opens : List ℕ → Result File ErrorKind → Type 0) (gives : File → Gives) (explains : Bool) (job : Job) (search : EndingsJob) (machine : Gives)
    (second : Given File) (expects : Gives) (list : List ℕ → Takes) (out : Takes) (keeps_out : Type 0) (faults : Takes) (keeps_faults : Type 0) (status : ℕ) →
    streamed_of job ≡ Some search → IsOpened opens (second_file_of job) second →
    IsPerformed explains (Endings search) machine gives_nothing expects (sinks asks_none (Unit {0}) out keeps_out faults keeps_faults) status
    ⊎ IsStopped search machine expects (sinks asks_none (Unit {0}) out keeps_out faults keeps_faults) status →
    IsDoneOrStopped explains job machine (GivenGives gives second) expects (sinks list (Unit {0}) out keeps_out faults keeps_faults) status
streamed_as {File} opens gives explains job search machine second expects list out keeps_out faults keeps_faults status streams opened done = by done
  where
    is : job ≡ Endings search
    is = (streamed_is job search streams).0

    none : second ≡ Nothing
    none = subst (λ j. IsOpened opens (second_file_of j) second) is opened

    by : IsPerformed explains (Endings search) machine gives_nothing expects (sinks asks_none (Unit {0}) out keeps_out faults keeps_faults) status
        ⊎ IsStopped search machine expects (sinks asks_none (Unit {0}) out keeps_out faults keeps_faults) status →
        IsDoneOrStopped explains job machine (GivenGives gives second) expects (sinks list (Unit {0}) out keeps_out faults keeps_faults) status
    by (inl performed) =
        let apart : IsPerformed explains (Endings search) machine gives_nothing expects (sinks list (Unit {0}) out keeps_out faults keeps_faults) status =
        performed_as explains (Endings search) machine gives_nothing expects asks_none list (Unit {0}) (Unit {0}) out keeps_out faults keeps_faults status
        (λ name bytes all never. elim never [ ]) (λ same. tt) performed in
        let given : IsPerformed explains (Endings search) machine (GivenGives gives second) expects (sinks list (Unit {0}) out keeps_out faults keeps_faults) status =
        subst (λ g. IsPerformed explains (Endings search) machine (GivenGives gives g) expects (sinks list (Unit {0}) out keeps_out faults keeps_faults) status) (sym none) apart in
        inl (subst (λ j. IsPerformed explains j machine (GivenGives gives second) expects (sinks list (Unit {0}) out keeps_out faults keeps_faults) status) (sym is) given)
    by (inr stopped) =
        inr (subst (λ o. IsSomeAnd o (λ e. IsStopped e machine expects (sinks list (Unit {0}) out keeps_out faults keeps_faults) status)) (sym streams) (record {
          text = stopped.text;
          given = stopped.given;
          all = stopped.all;
          wrote = stopped.wrote;
          unrecorded = tt;
          told = stopped.told;
          status_is = stopped.status_is;
        }))

stopped_status : (o : Option EndingsJob) (machine expects : Gives) (s : Sinks) (status : ℕ) → IsSomeAnd o (λ e. IsStopped e machine expects s status) → status ≡ 1
stopped_status None machine expects s status never = elim never [ ]
stopped_status (Some search) machine expects s status stopped = stopped.status_is

pub status_or_stopped : (explains : Bool) (job : Job) (machine second expects : Gives) (s : Sinks) (status : ℕ) → IsDoneOrStopped explains job machine second expects s status → IsStatusOf job status
status_or_stopped explains job machine second expects s status (inl performed) = performed_status explains job machine second expects s status performed
status_or_stopped explains job machine second expects s status (inr stopped) = inr (inl (stopped_status (streamed_of job) machine expects s status stopped))

pub true_or_stopped : (explains : Bool) (job : Job) (machine second expects : Gives) (s : Sinks) (status : ℕ) → IsDoneOrStopped explains job machine second expects s status →
    (status ≡ 1 → ⊥) → IsTrulyDone job machine s.out status
true_or_stopped explains job machine second expects s status (inl performed) right = performed_true explains job machine second expects s status performed right
true_or_stopped explains job machine second expects s status (inr stopped) right = elim (right (stopped_status (streamed_of job) machine expects s status stopped)) [ ]
