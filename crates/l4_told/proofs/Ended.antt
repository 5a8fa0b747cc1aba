-- What is known where a processor that is alone has come to: its outcome, and what has to be kept from there on.
use Rattle.std.proofs.Common.{◌≡◌, ◌↔◌, ℕ, ◌≤◌, true, false, Some, None, List, [], ◌∷◌, ◌++◌, map, length}
use Rattle.std.proofs.Common.{refl, ap, ap₂, sym, ◌∙◌, subst, inl}
use Rattle.std.specs.Prelude.{filter_map, slice_get}
use Rattle.std.specs.Option.{option_map}
use Rattle.l4_model.specs.Machine.{Machine}
use Rattle.l4_model.specs.Steps.{Step}
use Rattle.l4_model.specs.World.{Name, Thread, World}
use Rattle.l4_model.specs.History.{reached, waiting}
use Rattle.l4_model.specs.Laws.{begins_of}
use Rattle.l4_core_model.specs.Local.{Local}
use Rattle.l4_core_model.specs.Runs.{Run, at_rest, told}
use Rattle.l4_core_model.specs.Turns.{is_busy}
use Rattle.l4_refines.specs.Laws.{IsLawfulRun, home_thread}
use Rattle.l4_types.specs.declared.reports.Ending.TheVariants.{Quiet}
use Rattle.l4_types.specs.ReportView.{report_of_view}
use Rattle.l4_replay.specs.Inner.Heard.{IsToldBy}
use Rattle.l4_replay.specs.Inner.Homes.{IsAtHome, sent_waiting}
use Rattle.l4_replay.specs.declared.homes.OwnerView.{OwnerView}
use Rattle.l4_machine.specs.Outcomes.{IsOutcomeOf}
use Rattle.l4_machine.proofs.Cores.{all_wait_there}
use Rattle.l4_machine.proofs.Outcomes.{known_at_home, sound}
use Rattle.l4_told.specs.Told.{findings_with}
use Rattle.l4_told.specs.Inner.Alone.{HasCome}
use Rattle.l4_told.specs.Inner.OfOne.{IsRunOfOne}
use Rattle.l4_core.specs.Processor.{Processor}
use Rattle.l4_told.specs.Inner.Kept.{begins, steps_in}
use Rattle.l4_told.specs.declared.alone.Alone.{Alone}
use Rattle.l4_told.specs.declared.final_state.FinalState.{FinalState}
use Rattle.l4_told.proofs.Telling.{begins_kept, once, waiting_kept}
use Rattle.l4_told.proofs.OfOne.{handled, rested, rests}

-- No send is begun twice in what is kept.
pub begun_once_here : (m : Machine) (r : Run) (before : List Step) (a : Alone) → IsLawfulRun m r →
    HasCome m r before a → (s : Name) → begins_of s (steps_in a.kept) ≤ 1
begun_once_here m r before a law come s =
    once m (told r.events) before a.kept s come.telling (law.lawful.begun_then_ended s).begun_once

pub outcome : (m : Machine) (r : Run) (before : List Step) (a : Alone) (home : OwnerView) (s : FinalState) →
    IsLawfulRun m r → HasCome m r before a → IsAtHome a.machine.now (a.core.local ∷ []) home →
    map report_of_view s.threads.items ≡ map report_of_view home.threads.items →
    s.waiting.items ≡ filter_map (sent_waiting a.machine.now home.sends.items) (steps_in a.kept) → s.turns ≡ a.events →
    (s.ending ≡ Quiet) ↔ ((is_busy a.core.machine a.core.cpu a.core.local ≡ false)
    × (option_map (λ e. e.0) (slice_get a.core.local.lists.armed 0) ≡ None)) →
    IsOutcomeOf m r (findings_with (told r.events) s)
outcome m r before a home s law come at threads waits turns quiet = record {
  is_true = record {
    possible = law.history;
    lawful = law.lawful;
    waiting = λ w is. wait_there w is;
    threads = λ w is. threads ∙ here.threads ∙ sym (told_by w is).view;
    still = λ e w is. law.still (resting e) w is;
  };
  history = refl;
  turns = turns ∙ come.events;
  quiet = (
    (λ e. resting e),
    (λ rest.
        let still = rested m r l come.of_one rest in
        quiet.1 (sym busy ∙ still.0, still.1)),
  );
}
  where
    l : Local
    l = a.core.local

    t : ℕ → Thread
    t = home_thread m (l ∷ [])

    here : IsAtHome m (l ∷ []) home
    here = subst (λ m. IsAtHome m (l ∷ []) home) come.machine at

    busy : is_busy m 0 l ≡ is_busy a.core.machine a.core.cpu l
    busy = ap₂ (λ m cpu. is_busy m cpu l) (sym come.core_machine) (sym come.number)

    resting : s.ending ≡ Quiet → at_rest m r.system ≡ true
    resting e = let still = quiet.0 e in rests m r l come.of_one (busy ∙ still.0) still.1

    told_by : (w : World) → reached m (told r.events) ≡ Some w → IsToldBy m t w
    told_by w is =
        known_at_home m r (l ∷ []) true (sound m r come.of_one.lawful law)
        (record { here = come.of_one.locals; handled = λ all. handled m r l come.of_one }) refl
        (inl come.of_one.one) w is

    wait_there : (w : World) → reached m (told r.events) ≡ Some w → s.waiting.items ≡ waiting m w (told r.events)
    wait_there w is =
        waits
        ∙ ap (λ m. filter_map (sent_waiting m home.sends.items) (steps_in a.kept)) come.machine
        ∙ all_wait_there m t home (steps_in a.kept) here
        ∙ sym ((told_by w is).waiting (steps_in a.kept))
        ∙ waiting_kept m (told r.events) before a.kept w come.telling is

-- Once the steps are told, what begins the undecided sends is kept.
pub told_come : (m : Machine) (r : Run) (before : List Step) (old new : Alone) (s : FinalState)
    (come : HasCome m r before old) →
    IsOutcomeOf m r (findings_with (told r.events) s) → new.machine.now ≡ old.machine.now → new.core ≡ old.core →
    new.events ≡ old.events → steps_in new.kept ≡ begins s.waiting.items →
    new.kept.marks.untold ≡ length (begins s.waiting.items) → new.kept.marks.has_all ≡ false →
    HasCome m r (before ++ come.telling.left) new
told_come m r before old new s come is machine core events steps untold some =
    let w = is.is_true.possible.0 in
    let at = is.is_true.possible.1 in
    record {
      of_one = subst (IsRunOfOne m r) (sym (ap (λ (p : Processor). p.local) core)) come.of_one;
      machine = machine ∙ come.machine;
      core_machine = ap (λ (p : Processor). p.machine) core ∙ come.core_machine;
      number = ap (λ (p : Processor). p.cpu) core ∙ come.number;
      events = events ∙ come.events;
      telling = begins_kept m (told r.events) before old.kept new.kept s.waiting.items w come.telling at
          (is.is_true.waiting w at) steps untold some;
    }
