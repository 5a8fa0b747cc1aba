use Rattle.std.proofs.Common.{◌≡◌, ◌+◌, ◌-◌, ◌<◌, ◌≤◌, ◌++◌, ◌∷◌, ℕ, suc, zero, Bool, true, false, cond, Option, Some, List, [], Global, drop, get_or, length, ap, arith, refl, subst, sym, ◌∙◌}
use Rattle.std.specs.Prelude.{◌≢◌, slice_get, IsSome, Vec}
use Rattle.std.specs.List.{AllByRecursion}
use Rattle.std.specs.Option.{option_map}
use Rattle.std.proofs.lemmas.List.{at_drop_all, at_drop_more}
use Rattle.std.proofs.lemmas.Option.{slice_get_past}
use Rattle.l4_model.specs.Machine.{Machine}
use Rattle.l4_model.specs.Steps.{Step}
use Rattle.l4_all_endings.specs.Tried.{LeadsToWorld}
use Rattle.l4_futures.specs.Choices.{world_after}
use Rattle.l4_futures.specs.Traces.{trace_along}
use Rattle.l4_stuck.proofs.Growing.{item_at}
use Rattle.l4_stuck.specs.Stuck.{stuck_of}
use Rattle.l4_stuck.specs.declared.search.StuckThread.{StuckThread}
use Rattle.l4_questions.specs.Answers.{asked_traces, numbered, traces_along}
use Rattle.l4_questions.specs.Asked.{is_asked}
use Rattle.l4_questions.specs.Inner.Found.{led_ending, IsLed}
use Rattle.l4_questions.specs.Stuck.{stuck_traces}
use Rattle.l4_questions.specs.declared.question.Question.{Question}
use Rattle.l4_questions.proofs.StuckThreads.{at_place}
use Rattle.l4_questions.proofs.traces.numbered_history.Goals as goal

-- The next ending is asked for or not.
next : (m : Machine) (q : Question) (more : List (List Step)) (endings : List (Vec ℕ Global))
    (i before : ℕ) (item : Vec ℕ Global) (b : Bool) → i < length endings →
    item ≡ get_or endings i item → is_asked q (led_ending m item) ≡ b →
    slice_get (asked_traces m q (traces_along m (drop i endings)) ++ more) before
    ≡ slice_get (cond b
    (trace_along m item.items ∷ asked_traces m q (traces_along m (drop (i + 1) endings)))
    (asked_traces m q (traces_along m (drop (i + 1) endings))) ++ more) before
next m q more endings i before item b inside is asked =
    let left = drop (i + 1) endings in
    let at : List (Vec ℕ Global) → Option (List Step)
    = λ es. slice_get (asked_traces m q (traces_along m es) ++ more) before in
    at_drop_more at endings i item inside ∙ ap (λ e. at (e ∷ left)) (sym is)
    ∙ ap (λ (b : Bool). slice_get (cond b
    (trace_along m item.items ∷ asked_traces m q (traces_along m left))
    (asked_traces m q (traces_along m left)) ++ more) before) asked

first : (x : List Step) (xs : List (List Step)) (n : ℕ) → n ≡ 0 →
    slice_get (x ∷ xs) n ≡ Some x
first x xs n none = ap (slice_get (x ∷ xs)) none

behind : (x : List Step) (xs : List (List Step)) (n : ℕ) → n ≢ 0 →
    slice_get (x ∷ xs) n ≡ slice_get xs (n - 1)
behind x xs zero some = absurd (some refl)
behind x xs (suc n) some = let same : n ≡ suc n - 1 = omega arith in ap (slice_get xs) same

-- Behind the endings come the threads.
at_end : (m : Machine) (q : Question) (endings : List (Vec ℕ Global)) (stuck : List StuckThread)
    (i before : ℕ) → length endings ≤ i →
    slice_get (asked_traces m q (traces_along m (drop i endings)) ++ stuck_traces m (stuck_of stuck))
    before
    ≡ option_map (λ (t : StuckThread). trace_along m t.entries.items) (slice_get stuck before)
at_end m q endings stuck i before over =
    at_drop_all (λ (es : List (Vec ℕ Global)). slice_get
    (asked_traces m q (traces_along m es) ++ stuck_traces m (stuck_of stuck)) before) endings i over
    ∙ traces stuck before
  where
    traces : (ts : List StuckThread) (k : ℕ) → slice_get (stuck_traces m (stuck_of ts)) k
        ≡ option_map (λ (t : StuckThread). trace_along m t.entries.items) (slice_get ts k)
    traces [] k = refl
    traces (t ∷ ts) zero = refl
    traces (t ∷ ts) (suc k) = traces ts k

led : (m : Machine) (endings : List (Vec ℕ Global)) (i : ℕ) (item : Vec ℕ Global) →
    i < length endings → item ≡ get_or endings i item → AllByRecursion (IsLed m) endings →
    LeadsToWorld m item.items
led m endings i item inside is all =
    subst (IsLed m) (sym is) (at_place (IsLed m) item endings i inside all)

pub ending-requires : goal.ending-requires
ending-requires c =
    led c.args.machine.now c.args.endings.now c.loop-entries.entries-index c.entries-item.result
    c.loop-entries-test.true c.entries-item.is c.requires.led

pub trace_of-requires-clause-leads : goal.trace_of-requires-clause-leads
trace_of-requires-clause-leads c =
    let m = c.args.machine.now in
    subst (λ es. IsSome (world_after m es)) (sym c.deref.ensures.value)
    (led m c.args.endings.now c.loop-entries.entries-index c.entries-item.result
    c.loop-entries-test.true c.entries-item.is c.requires.led).leads

pub loop-entries-init : goal.loop-entries-init
loop-entries-init c =
    let first : c.args.number ≡ suc c.in-Some.before = omega (arith, c.in-Some.ensures) in
    ap (λ n. numbered n (asked_traces c.args.machine.now c.args.question.now
    (traces_along c.args.machine.now c.args.endings.now)
    ++ stuck_traces c.args.machine.now (stuck_of c.args.stuck.now))) first

pub loop-entries-preserved-then-not-is_asked : goal.loop-entries-preserved-then-not-is_asked
loop-entries-preserved-then-not-is_asked c =
    let q = c.args.question.now in
    c.loop-entries.invariant
    ∙ next c.args.machine.now q (stuck_traces c.args.machine.now (stuck_of c.args.stuck.now))
    c.args.endings.now c.loop-entries.entries-index c.loop-entries.before c.entries-item.result
    false c.loop-entries-test.true c.entries-item.is
    (sym (ap (is_asked q) c.in_ok-found.ensures) ∙ sym c.is_asked.ensures
    ∙ c.if-not-is_asked.true)

pub returns-then-before-eq0 : goal.returns-then-before-eq0
returns-then-before-eq0 c =
    let m = c.args.machine.now in
    let q = c.args.question.now in
    let more = stuck_traces m (stuck_of c.args.stuck.now) in
    let here = c.loop-entries.invariant
    ∙ next m q more c.args.endings.now c.loop-entries.entries-index c.loop-entries.before
    c.entries-item.result true c.loop-entries-test.true c.entries-item.is
    (sym (ap (is_asked q) c.in_ok-found.ensures) ∙ sym c.is_asked.ensures
    ∙ c.if-not-is_asked.false)
    ∙ first _ _ c.loop-entries.before c.if-before-eq0.true in
    ap Some (c.in_ok-trace_of.ensures ∙ ap (trace_along m) c.deref.ensures.value) ∙ sym here

pub loop-entries-preserved : goal.loop-entries-preserved
loop-entries-preserved c =
    let q = c.args.question.now in
    let more = stuck_traces c.args.machine.now (stuck_of c.args.stuck.now) in
    c.loop-entries.invariant
    ∙ next c.args.machine.now q more c.args.endings.now c.loop-entries.entries-index
    c.loop-entries.before c.entries-item.result true c.loop-entries-test.true c.entries-item.is
    (sym (ap (is_asked q) c.in_ok-found.ensures) ∙ sym c.is_asked.ensures
    ∙ c.if-not-is_asked.false)
    ∙ behind _ _ c.loop-entries.before c.if-before-eq0.false

pub returns-in_default-get : goal.returns-in_default-get
returns-in_default-get c =
    let stuck = c.args.stuck.now in
    sym (c.loop-entries.invariant
    ∙ at_end c.args.machine.now c.args.question.now c.args.endings.now stuck
    c.loop-entries.entries-index c.loop-entries.before c.loop-entries-test.false
    ∙ ap (option_map (λ (t : StuckThread). trace_along c.args.machine.now t.entries.items))
    (slice_get_past stuck c.loop-entries.before c.in_default-get.ensures.lookup.3))

pub returns : goal.returns
returns c =
    let m = c.args.machine.now in
    let stuck = c.args.stuck.now in
    let thread = c.in-Some-get.thread.now in
    let at = item_at stuck c.loop-entries.before thread thread c.in-Some-get.ensures.lookup.3.0
    c.in-Some-get.ensures.lookup.1 in
    ap Some (c.in_ok-trace_of-2.ensures ∙ ap (trace_along m) c.deref-2.ensures.value)
    ∙ sym (c.loop-entries.invariant
    ∙ at_end m c.args.question.now c.args.endings.now stuck c.loop-entries.entries-index
    c.loop-entries.before c.loop-entries-test.false
    ∙ ap (option_map (λ (t : StuckThread). trace_along m t.entries.items)) at)
