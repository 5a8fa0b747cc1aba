-- A processor that goes on, transition by transition.
use Rattle.std.proofs.Common.{◌≡◌, ℕ, true, List, [], ◌∷◌, ◌++◌, map, refl, ap, sym, ◌∙◌, append_assoc}
use Rattle.std.specs.List.{AllByRecursion}
use Rattle.std.proofs.lemmas.List.{append-nil, map-append}
use Rattle.std.proofs.lemmas.List.Concat.{flat_map-append}
use Rattle.l4_model.specs.Machine.{Machine}
use Rattle.l4_merge.specs.Transitions.{letter_of, Transition, is_turn, told_by, happened_by, posted_by, handled_by, letters_with, Does}
use Rattle.l4_merge.specs.LocalTraces.{LocalTrace, Extends, HasTurned}
use Rattle.l4_merge.proofs.Transitions.{lead-append}
use Rattle.l4_merge.proofs.Mail.{letters_with-append}

-- Where it does nothing, its past is the same.
pub worked_none : (m : Machine) (cpu : ℕ) (past : LocalTrace) → Extends m cpu past past
worked_none m cpu past = record {
  transitions = [];
  are = record {
    lead = refl;
    events = sym (append-nil past.events);
    actions = sym (append-nil past.actions);
    posted = λ to. sym (append-nil (past.posted to));
    handled = λ from. sym (append-nil (past.handled from));
  };
}

-- What one transition adds.
pub record IsNext (m : Machine) (cpu : ℕ) (old new : LocalTrace) (d : Transition) : Type 0 where
  pub does : Does m cpu old.local d
  pub events : new.events ≡ old.events ++ told_by d ∷ []
  pub actions : new.actions ≡ old.actions ++ happened_by d ∷ []
  pub posted : (to : ℕ) → new.posted to ≡ old.posted to ++ letters_with to d.work.letters
  pub handled : (from : ℕ) → new.handled from ≡ old.handled from ++ letters_with from (letter_of d.event)
  pub local : d.work.local ≡ new.local

-- Where it does one transition, that is added.
pub worked_one : (m : Machine) (cpu : ℕ) (old new : LocalTrace) (d : Transition) → IsNext m cpu old new d → Extends m cpu old new
worked_one m cpu old new d next = record {
  transitions = d ∷ [];
  are = record {
    lead = (next.does, next.local);
    events = next.events;
    actions = next.actions;
    posted = λ to. next.posted to ∙ ap (λ ls. old.posted to ++ letters_with to ls) (sym (append-nil d.work.letters));
    handled = λ from. next.handled from ∙ ap (λ ls. old.handled from ++ letters_with from ls) (sym (append-nil (letter_of d.event)));
  };
}

-- A list that goes on twice.
goes_on : {A : Type 0} (old middle new first then all : List A) → middle ≡ old ++ first → new ≡ middle ++ then → all ≡ first ++ then → new ≡ old ++ all
goes_on old middle new first then all is now both =
    now ∙ ap (λ xs. xs ++ then) is ∙ append_assoc old first then ∙ ap (λ xs. old ++ xs) (sym both)

-- It goes on twice.
pub worked_trans : (m : Machine) (cpu : ℕ) (old middle new : LocalTrace) → Extends m cpu old middle → Extends m cpu middle new → Extends m cpu old new
worked_trans m cpu old middle new first then =
    let a = first.are in
    let b = then.are in
    let xs = first.transitions in
    let ys = then.transitions in
    record {
      transitions = xs ++ ys;
      are = record {
        lead = lead-append m cpu old.local middle.local new.local xs ys a.lead b.lead;
        events = goes_on old.events middle.events new.events (map told_by xs) (map told_by ys) _ a.events b.events (map-append told_by xs ys);
        actions =
            goes_on old.actions middle.actions new.actions (map happened_by xs) (map happened_by ys) _ a.actions b.actions
            (map-append happened_by xs ys);
        posted = λ to.
            goes_on (old.posted to) (middle.posted to) (new.posted to) (letters_with to (posted_by xs)) (letters_with to (posted_by ys)) _ (a.posted to)
            (b.posted to) (ap (letters_with to) (flat_map-append (λ (d : Transition). d.work.letters) xs ys) ∙ letters_with-append to (posted_by xs) (posted_by ys));
        handled = λ from.
            goes_on (old.handled from) (middle.handled from) (new.handled from) (letters_with from (handled_by xs)) (letters_with from (handled_by ys)) _
            (a.handled from) (b.handled from)
            (ap (letters_with from) (flat_map-append (λ (d : Transition). letter_of d.event) xs ys) ∙ letters_with-append from (handled_by xs) (handled_by ys));
      };
    }

-- It goes on by turns alone, and by no tick

pub turned_none : (m : Machine) (cpu : ℕ) (past : LocalTrace) → HasTurned m cpu past past
unfolding worked_none
turned_none m cpu past = record { worked = worked_none m cpu past; turns = tt }

pub turned_one : (m : Machine) (cpu : ℕ) (old new : LocalTrace) (d : Transition) → is_turn d.event ≡ true → IsNext m cpu old new d → HasTurned m cpu old new
unfolding worked_one
turned_one m cpu old new d turn next = record { worked = worked_one m cpu old new d next; turns = (turn, tt) }

all_of_both : (xs ys : List Transition) → AllByRecursion (λ d. is_turn d.event ≡ true) xs → AllByRecursion (λ d. is_turn d.event ≡ true) ys →
    AllByRecursion (λ d. is_turn d.event ≡ true) (xs ++ ys)
all_of_both [] ys first then = then
all_of_both (d ∷ xs) ys first then = (first.0, all_of_both xs ys first.1 then)

pub turned_trans : (m : Machine) (cpu : ℕ) (old middle new : LocalTrace) → HasTurned m cpu old middle → HasTurned m cpu middle new → HasTurned m cpu old new
unfolding worked_trans
turned_trans m cpu old middle new first then = record {
  worked = worked_trans m cpu old middle new first.worked then.worked;
  turns = all_of_both first.worked.transitions then.worked.transitions first.turns then.turns;
}

-- Which transitions these are.

pub transitions_of_none : (m : Machine) (cpu : ℕ) (past : LocalTrace) → (turned_none m cpu past).worked.transitions ≡ []
unfolding turned_none worked_none
transitions_of_none m cpu past = refl

pub transitions_of_one : (m : Machine) (cpu : ℕ) (old new : LocalTrace) (d : Transition) (turn : is_turn d.event ≡ true) (next : IsNext m cpu old new d) →
    (turned_one m cpu old new d turn next).worked.transitions ≡ d ∷ []
unfolding turned_one worked_one
transitions_of_one m cpu old new d turn next = refl

pub transitions_of_both : (m : Machine) (cpu : ℕ) (old middle new : LocalTrace) (first : HasTurned m cpu old middle) (then : HasTurned m cpu middle new) →
    (turned_trans m cpu old middle new first then).worked.transitions ≡ first.worked.transitions ++ then.worked.transitions
unfolding turned_trans worked_trans
transitions_of_both m cpu old middle new first then = refl
