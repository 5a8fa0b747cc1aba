-- The outcome of a core run, and what the laws say of it.
use Rattle.std.proofs.Common.{◌≡◌, ◌↔◌, ℕ, true, Some, List, map, length, take, ap, refl, sym, subst, inl, inr, ◌∙◌, arith}
use Rattle.std.specs.Prelude.{Bool, IsSomeAnd, IsTrue, None, Option, filter_map, slice_get, slice_index_or}
use Rattle.l4_model.proofs.Worlds.{reached_facts}
use Rattle.std.proofs.lemmas.List.{take_all}
use Rattle.l4_model.specs.Machine.{Machine}
use Rattle.l4_model.specs.World.{Thread, World, opening_thread}
use Rattle.l4_model.specs.History.{IsHistory, IsFirstFault, reached, view}
use Rattle.l4_model.specs.Steps.{Step}
use Rattle.l4_model.specs.Laws.{IsLawful}
use Rattle.l4_core_model.specs.Local.{Local, declared, thread}
use Rattle.l4_core_model.specs.Runs.{IsMachine, Run, told, at_rest}
use Rattle.l4_refines.specs.Laws.{IsLawfulRun, IsState, home_thread, thread_of}
use Rattle.l4_types.specs.declared.reports.Ending.TheVariants.{Quiet}
use Rattle.l4_types.specs.ReportView.{report_of_view}
use Rattle.l4_machine.specs.declared.outcome.CompactOutcome.{CompactOutcome}
use Rattle.l4_proc.specs.declared.processor.Processor.{Processor}
use Rattle.l4_machine.specs.Gathered.{IsGathered}
use Rattle.l4_replay.specs.Inner.Heard.{AreOfWorld, HaveRegisters, IsToldBy, waits_by}
use Rattle.l4_machine.proofs.Alike.{same_alike, told_by_alike}
use Rattle.l4_replay.specs.Inner.Homes.{EndsIn, reports_of}
use Rattle.l4_machine.specs.Outcomes.{Findings, IsFoundFor, IsOutcomeOf, IsSound, IsTrueOf, compact_findings_of, steps_of}

-- A history has no first fault.
pub no_fault : (m : Machine) (h : List Step) (place : ℕ) → IsHistory m h → IsFirstFault m h place → ⊥
no_fault m h place is f =
    let all : take (length h) h ≡ h = take_all (length h) h (omega arith) in
    let least = f.is_longest (length h) (omega arith) (subst (IsHistory m) (sym all) is) in
    let within = f.within in
    omega arith

-- The same where no audit was made, but the processors were asked, and told what the world has.
pub is_outcome_of_world : (m : Machine) (t : ℕ → Thread) (h : List Step) (o : CompactOutcome) (r : Run) → IsSound m r →
    AreOfWorld m r t →
    HaveRegisters m (map report_of_view o.threads.items) → map report_of_view o.threads.items ≡ reports_of m t →
    o.waiting.items ≡ filter_map (waits_by m t) h → h ≡ told r.events → steps_of o.history ≡ h →
    o.turns ≡ length r.events →
    (o.ending ≡ Quiet) ↔ (at_rest m r.system ≡ true) → IsOutcomeOf m r (compact_findings_of o)
is_outcome_of_world m t h o r sound known registers threads waiting told_is steps turns quiet = record {
  is_true = record {
    possible = subst (IsHistory m) (sym same) sound.possible;
    lawful = subst (IsLawful m) (sym same) sound.lawful;
    waiting = λ w is. waiting ∙ ap (filter_map (waits_by m t)) (sym steps)
        ∙ sym ((told_by w is).waiting (steps_of o.history));
    threads = λ w is. threads ∙ sym (told_by w is).view;
    still = λ e w is. sound.still (quiet.0 e) w (ap (λ xs. reached m xs) (sym same) ∙ is);
  };
  history = same;
  turns = turns;
  quiet = quiet;
}
  where
    same : steps_of o.history ≡ told r.events
    same = steps ∙ told_is

    told_by : (w : World) → reached m (steps_of o.history) ≡ Some w → IsToldBy m t w
    told_by w is = known (subst (HaveRegisters m) threads registers) w (ap (λ xs. reached m xs) (sym same) ∙ is)

-- On one processor the world has the threads as that one has them.
known_of_one : (m : Machine) (r : Run) → IsSound m r → m.cpus ≡ 1 → (w : World) → reached m (told r.events) ≡ Some w →
    IsToldBy m (home_thread m r.system.locals) w
known_of_one m r sound alone w is = by (slice_get r.system.locals 0) refl (sound.of_one alone)
  where
    size : length w.threads ≡ length m.threads
    size = (reached_facts m (told r.events) w is).threads_counted

    by : (o : Option Local) → slice_get r.system.locals 0 ≡ o →
        IsSomeAnd o (λ l. (w : World) → reached m (told r.events) ≡ Some w → IsState m l w) →
        IsToldBy m (home_thread m r.system.locals) w
    by None at state = absurd state
    by (Some l) at state = told_by_alike m (home_thread m r.system.locals) w size
        (λ i lt.
        let home : (declared m i).cpu ≡ 0 = let below = sound.machine.homed i lt in omega arith in
        let here : home_thread m r.system.locals i ≡ thread l i =
        ap (λ cpu. thread_of i (slice_get r.system.locals cpu)) home ∙ ap (thread_of i) at in
        same_alike _ _ (ap (λ ts. slice_index_or ts i opening_thread) (state w is).threads ∙ sym here))

-- Where no letter is under way, the world has the threads as their own processors have them.
pub known_at_home : (m : Machine) (r : Run) (locals : List Local) (all_handled : Bool) → IsSound m r →
    EndsIn r locals all_handled → IsTrue all_handled →
    AreOfWorld m r (home_thread m locals)
known_at_home m r locals all_handled sound ends all = subst (λ ls. AreOfWorld m r (home_thread m ls)) ends.here here
  where
    here : AreOfWorld m r (home_thread m r.system.locals)
    here (inl alone) w is = known_of_one m r sound alone w is
    here (inr undeleted) w is = let told = sound.at_home (ends.handled all) undeleted w is in
        record { view = told.view; waiting = told.waiting }

-- What the laws say of a core run.
pub sound : (m : Machine) (r : Run) → IsMachine m → IsLawfulRun m r → IsSound m r
sound m r machine l = record {
  machine = machine;
  at_home = l.at_home;
  of_one = l.of_one;
  possible = l.history;
  lawful = l.lawful;
  still = l.still;
}

-- What an outcome says of a run, it says of the machine.

pub run_is_true : (m : Machine) (most : ℕ) (o : Findings) → IsFoundFor m most o → IsTrueOf m o
run_is_true m most o found = found.outcome.is_true

pub replay_is_true : (m : Machine) (r : Run) (o : Findings) → IsOutcomeOf m r o → IsTrueOf m o
replay_is_true m r o is = is.is_true

pub gathered_is_true : (m : Machine) (ps : List Processor) (o : Findings) → IsGathered m ps o → IsTrueOf m o
gathered_is_true m ps o gathered = gathered.outcome.is_true
