-- Where a replay has come to, and how it goes on from there.
use Rattle.std.proofs.Common.{◌≡◌, ◌≤◌, ℕ, true, false, Some, List, [], ◌++◌, length, map, refl, ap, sym, ◌∙◌, subst}
use Rattle.std.proofs.Common.{append-nil}
use Rattle.std.specs.Prelude.{filter_map, ◌↔◌}
use Rattle.l4_model.specs.Machine.{Machine}
use Rattle.l4_model.specs.Steps.{Step}
use Rattle.l4_model.specs.World.{Name, Thread, World}
use Rattle.l4_model.specs.History.{IsHistory, reached}
use Rattle.l4_model.specs.Laws.{begins_of}
use Rattle.l4_core_model.specs.Runs.{Run, at_rest, opening_run, told}
use Rattle.l4_core_model.specs.Schedules.{Entry}
use Rattle.l4_refines.specs.Laws.{IsLawfulRun}
use Rattle.l4_types.specs.ReportView.{report_of_view}
use Rattle.l4_types.specs.declared.reports.Ending.{Ending}
use Rattle.l4_types.specs.declared.reports.Ending.TheVariants.{Quiet}
use Rattle.l4_replay.specs.Entries.{after_entry}
use Rattle.l4_replay.specs.Inner.Heard.{HaveRegisters, IsToldBy, heard_in}
use Rattle.l4_replay.specs.Inner.Homes.{AreThreads, reports_of, sent_waiting}
use Rattle.l4_replay.specs.Inner.Processors.{HasTold as HasAdded, stations_of, under_way}
use Rattle.l4_replay.specs.UnderWay.{AreResting, GoesOn as GoOn, IsRun}
use Rattle.l4_replay.specs.declared.homes.OwnerView.{OwnerView}
use Rattle.l4_replay.proofs.Endings.{are_resting, rests}
use Rattle.l4_machine.specs.Outcomes.{Findings, IsOutcomeOf, IsSound}
use Rattle.l4_machine.proofs.Cores.{all_wait_there}
use Rattle.l4_machine.proofs.Heard.{heard_of_world}
use Rattle.l4_machine.proofs.Outcomes.{sound}
use Rattle.l4_told.specs.Told.{findings_with}
use Rattle.l4_told.specs.Inner.Kept.{begins, steps_in}
use Rattle.l4_told.specs.Inner.Replays.{GoesOn, HasCome, HasRun, HasTold, HasToldAnd}
use Rattle.l4_told.specs.declared.final_state.FinalState.{FinalState}
use Rattle.l4_told.specs.declared.replay.Replay.{Replay}
use Rattle.l4_told.proofs.Telling.{all_are, all_kept, begins_kept, more_told, none_told, once, same_told}
use Rattle.l4_told.proofs.Telling.{waiting_kept}

pub opening_come : (m : Machine) (p : Replay) → IsRun m (opening_run m) (under_way p.processors) →
    p.kept.marks.untold ≡ 0 → steps_in p.kept ≡ [] → HasCome m (opening_run m) [] p
opening_come m p run untold none = record { run = run; telling = none_told m p.kept untold none }

-- The same with other steps of a buffer that has them in other parts.
pub same_come : (m : Machine) (r : Run) (before : List Step) (old new : Replay) → new.processors ≡ old.processors →
    new.kept.marks ≡ old.kept.marks → steps_in new.kept ≡ steps_in old.kept → HasCome m r before old →
    HasCome m r before new
same_come m r before old new same untold steps come = record {
  run = subst (λ p. IsRun m r (under_way p)) (sym same) come.run;
  telling = same_told m (told r.events) before old.kept new.kept untold steps come.telling;
}

-- An entry was done where it could be, behind the steps that are kept.
pub taken_come : (entry : Entry) (old new : Replay) → new.kept.marks ≡ old.kept.marks →
    GoOn (after_entry entry) (under_way old.processors) (under_way new.processors) →
    HasAdded (after_entry entry) (under_way old.processors) old.kept.buffer new.kept.buffer →
    GoesOn (after_entry entry) old new
taken_come entry old new marks goes added m r before come = record {
  run = goes m r come.run;
  telling = more_told m (told r.events) (told (after_entry entry m r).events) before new.kept.buffer.steps old.kept
      new.kept marks (ap (λ xs. xs ++ new.kept.buffer.steps) added.kept) (added.more m r come.run) come.telling;
}

-- Told steps

pub told_run : (hears : List Step → Type 0) (old new : Replay) → HasRun old → HasTold hears old new → HasRun new
told_run hears old new run told =
    let after = told run.0 run.1 run.2 run.3 in (run.0, run.1, run.2 ++ after.0, after.1)

pub told_and : (hears : List Step → Type 0) (next : Machine → Run → Run) (old between new : Replay) →
    HasTold hears old between → GoesOn next between new → HasToldAnd next hears old new
told_and hears next old between new told goes m r before come =
    let after = told m r before come in (after.0, goes m r (before ++ after.0) after.1, after.2)

pub told_nothing : (hears : List Step → Type 0) (old new : Replay) → hears [] → GoesOn (λ m r. r) old new →
    HasTold hears old new
told_nothing hears old new none goes m r before come =
    ([], subst (λ steps. HasCome m r steps new) (sym (append-nil before)) (goes m r before come), none)

-- The outcome

pub outcome : (m : Machine) (r : Run) (before : List Step) (p : Replay) (a : OwnerView) (s : FinalState) →
    IsLawfulRun m r → HasCome m r before p → AreThreads m (heard_in m r.system.locals (stations_of p.processors)) a →
    HaveRegisters p.processors.machine.now (map report_of_view a.threads.items) →
    map report_of_view s.threads.items ≡ map report_of_view a.threads.items →
    s.waiting.items ≡ filter_map (sent_waiting p.processors.machine.now a.sends.items) (steps_in p.kept) →
    s.turns ≡ p.processors.events → (s.ending ≡ Quiet) ↔ AreResting (stations_of p.processors) → IsOutcomeOf m r (findings_with (told r.events) s)
outcome m r before p a s law come here registers threads waits turns quiet = record {
  is_true = record {
    possible = law.history;
    lawful = law.lawful;
    waiting = λ w is.
        waits
        ∙ ap (λ m. filter_map (sent_waiting m a.sends.items) (steps_in p.kept)) come.run.machine
        ∙ all_wait_there m t a (steps_in p.kept) here
        ∙ sym ((told_by w is).waiting (steps_in p.kept))
        ∙ waiting_kept m (told r.events) before p.kept w come.telling is;
    threads = λ w is. threads ∙ here.threads ∙ sym (told_by w is).view;
    still = λ e w is. law.still (rests m r.system (stations_of p.processors) come.run.system (quiet.0 e)) w is;
  };
  history = refl;
  turns = turns ∙ come.run.events;
  quiet = (
    (λ e. rests m r.system (stations_of p.processors) come.run.system (quiet.0 e)),
    (λ rest. quiet.1 (are_resting m r.system (stations_of p.processors) come.run.system rest)),
  );
}
  where
    t : ℕ → Thread
    t = heard_in m r.system.locals (stations_of p.processors)

    known : HaveRegisters m (reports_of m t)
    known = subst (λ n. HaveRegisters n (reports_of m t)) come.run.machine
        (subst (HaveRegisters p.processors.machine.now) here.threads registers)

    told_by : (w : World) → reached m (told r.events) ≡ Some w → IsToldBy m t w
    told_by w is =
        heard_of_world m r (stations_of p.processors) come.run.lawful come.run.core_run come.run.system known w is

-- What an audit of the kept steps says, where these are all steps.

pub kept_history : (m : Machine) (r : Run) (before : List Step) (p : Replay) (n : Machine) (steps : List Step) →
    IsLawfulRun m r → HasCome m r before p → n ≡ p.processors.machine.now → steps ≡ steps_in p.kept →
    p.kept.marks.has_all ≡ true → IsHistory n steps
kept_history m r before p n steps law come here kept all =
    subst (λ k. IsHistory k steps) (sym (here ∙ come.run.machine))
    (subst (IsHistory m) (sym (kept ∙ all_are m (told r.events) before p.kept come.telling all)) law.history)

pub audited : (m : Machine) (r : Run) (before : List Step) (p : Replay) (n : Machine) (steps : List Step) (count : ℕ)
    (ending : Ending) (o : Findings) (h : List Step) (s : FinalState) → IsLawfulRun m r → HasCome m r before p →
    n ≡ p.processors.machine.now → steps ≡ steps_in p.kept → count ≡ p.processors.events →
    p.kept.marks.has_all ≡ true → (ending ≡ Quiet) ↔ AreResting (stations_of p.processors) →
    ((r : Run) → IsSound n r → steps ≡ told r.events → count ≡ length r.events →
    (ending ≡ Quiet) ↔ (at_rest n r.system ≡ true) → IsOutcomeOf n r o) →
    findings_with h s ≡ o → IsOutcomeOf m r (findings_with (told r.events) s)
audited m r before p n steps count ending o h s law come here kept counted all quiet known same =
    subst (λ steps. IsOutcomeOf m r (findings_with steps s)) is.history is
  where
    machine : n ≡ m
    machine = here ∙ come.run.machine

    rested : (ending ≡ Quiet) ↔ (at_rest m r.system ≡ true)
    rested = (
      (λ e. rests m r.system (stations_of p.processors) come.run.system (quiet.0 e)),
      (λ rest. quiet.1 (are_resting m r.system (stations_of p.processors) come.run.system rest)),
    )

    found : IsOutcomeOf n r o
    found =
        known r (subst (λ k. IsSound k r) (sym machine) (sound m r come.run.lawful law))
        (kept ∙ all_are m (told r.events) before p.kept come.telling all) (counted ∙ come.run.events)
        (subst (λ k. (ending ≡ Quiet) ↔ (at_rest k r.system ≡ true)) (sym machine) rested)

    is : IsOutcomeOf m r (findings_with h s)
    is = subst (λ k. IsOutcomeOf k r (findings_with h s)) machine (subst (IsOutcomeOf n r) (sym same) found)

-- No send is begun twice in what is kept.
pub begun_once_here : (m : Machine) (r : Run) (before : List Step) (p : Replay) → IsLawfulRun m r →
    HasCome m r before p → (s : Name) → begins_of s (steps_in p.kept) ≤ 1
begun_once_here m r before p law come s =
    once m (told r.events) before p.kept s come.telling (law.lawful.begun_then_ended s).begun_once

-- Once the steps are told, what begins the undecided sends is kept, or all.

pub told_come : (m : Machine) (r : Run) (before : List Step) (old new : Replay) (s : FinalState)
    (come : HasCome m r before old) → IsOutcomeOf m r (findings_with (told r.events) s) →
    new.processors ≡ old.processors → steps_in new.kept ≡ begins s.waiting.items →
    new.kept.marks.untold ≡ length (begins s.waiting.items) → new.kept.marks.has_all ≡ false →
    HasCome m r (before ++ come.telling.left) new
told_come m r before old new s come is same steps untold some =
    let w = is.is_true.possible.0 in
    let at = is.is_true.possible.1 in
    record {
      run = subst (λ p. IsRun m r (under_way p)) (sym same) come.run;
      telling = begins_kept m (told r.events) before old.kept new.kept s.waiting.items w come.telling at
          (is.is_true.waiting w at) steps untold some;
    }

pub all_come : (m : Machine) (r : Run) (before : List Step) (old new : Replay) (come : HasCome m r before old) →
    new.processors ≡ old.processors → new.kept.buffer ≡ old.kept.buffer →
    new.kept.marks.untold ≡ length (steps_in old.kept) → new.kept.marks.has_all ≡ old.kept.marks.has_all →
    HasCome m r (before ++ come.telling.left) new
all_come m r before old new come same buffer untold all = record {
  run = subst (λ p. IsRun m r (under_way p)) (sym same) come.run;
  telling = all_kept m (told r.events) before old.kept new.kept come.telling buffer untold all;
}
