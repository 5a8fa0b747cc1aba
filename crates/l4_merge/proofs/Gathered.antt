-- What all processors did between earlier pasts and later ones, in one list of transitions.
use Rattle.std.proofs.Common.{◌≡◌, ℕ, zero, suc, ◌+◌, ◌<◌, ◌≤◌, true, List, [], ◌∷◌, ◌++◌, Some, map, length, drop, refl, ap, sym, ◌∙◌, subst, arith}
use Rattle.std.specs.Prelude.{slice_get, ◌==◌}
use Rattle.std.specs.List.{AllByRecursion}
use Rattle.std.proofs.lemmas.List.{append-nil, map-append}
use Rattle.std.proofs.lemmas.List.Elements.{filter-append}
use Rattle.std.proofs.lemmas.List.Prefix.{front_rest}
use Rattle.l4_model.specs.Machine.{Machine}
use Rattle.l4_model.proofs.Chains.{some_is}
use Rattle.l4_core_model.proofs.Lists.{all-map}
use Rattle.l4_merge.specs.Transitions.{Transition, is_turn, told_by}
use Rattle.l4_merge.specs.LocalTraces.{LocalTrace, AreDeedsBetween, Extends, added_events}
use Rattle.l4_merge.proofs.Lists.{all-append}
use Rattle.l4_merge.proofs.Transitions.{HasStamps, lead_stamps, lead_own}
use Rattle.l4_merge.proofs.Own.{own, own_all, own_none}

-- The transitions of processors from one on, where those of each lead from its earlier past to its later one.
pub record AreGathered (m : Machine) (from : ℕ) (olds news : List LocalTrace) (ds : List Transition) : Type 0 where
  pub told : map told_by ds ≡ added_events olds news
  pub stamps : AllByRecursion HasStamps ds
  pub above : AllByRecursion (λ d. from ≤ d.cpu) ds
  pub below : AllByRecursion (λ d. d.cpu < from + length news) ds
  pub each : (i cpu : ℕ) (old new : LocalTrace) → from + i ≡ cpu → slice_get olds i ≡ Some old → slice_get news i ≡ Some new →
      AreDeedsBetween m cpu old new (own cpu ds)

-- There are such transitions.
pub record Gathered (m : Machine) (from : ℕ) (olds news : List LocalTrace) : Type 0 where
  pub transitions : List Transition
  pub are : AreGathered m from olds news transitions

own-append : (cpu : ℕ) (xs ys : List Transition) → own cpu (xs ++ ys) ≡ own cpu xs ++ own cpu ys
own-append cpu xs ys = filter-append (λ d. d.cpu == cpu) xs ys

-- The first processor's own transitions, and another's

own_of_first : (cpu : ℕ) (ds rest : List Transition) → AllByRecursion (λ d. d.cpu ≡ cpu) ds → AllByRecursion (λ d. suc cpu ≤ d.cpu) rest →
    own cpu (ds ++ rest) ≡ ds
own_of_first cpu ds rest mine others =
    let none = own_none cpu rest (all-map (λ (d : Transition). suc cpu ≤ d.cpu) (λ (d : Transition). d.cpu ≡ cpu → ⊥) (λ d le e. omega arith) rest others) in
    own-append cpu ds rest ∙ ap (λ xs. xs ++ own cpu rest) (own_all cpu ds mine) ∙ ap (λ ys. ds ++ ys) none ∙ append-nil ds

own_of_other : (from cpu : ℕ) (ds rest : List Transition) → from < cpu → AllByRecursion (λ d. d.cpu ≡ from) ds → own cpu (ds ++ rest) ≡ own cpu rest
own_of_other from cpu ds rest lt first =
    let none = own_none cpu ds (all-map (λ (d : Transition). d.cpu ≡ from) (λ (d : Transition). d.cpu ≡ cpu → ⊥) (λ d same e. omega arith) ds first) in
    own-append cpu ds rest ∙ ap (λ xs. xs ++ own cpu rest) none

-- One processor after the other.
pub gather : (m : Machine) (from : ℕ) (olds news : List LocalTrace) → length news ≡ length olds →
    ((i cpu : ℕ) (old new : LocalTrace) → from + i ≡ cpu → slice_get olds i ≡ Some old → slice_get news i ≡ Some new → Extends m cpu old new) →
    Gathered m from olds news
gather m from [] [] size work =
    record { transitions = []; are = record { told = refl; stamps = tt; above = tt; below = tt; each = λ i cpu old new e was now. absurd cc } }
gather m from [] (new ∷ news) size work = absurd (omega arith)
gather m from (old ∷ olds) [] size work = absurd (omega arith)
gather m from (old ∷ olds) (new ∷ news) size work =
    let first = work 0 from old new (omega arith) refl refl in
    let ds = first.transitions in
    let lead = first.are.lead in
    let mine = lead_own m from old.local new.local ds lead in
    let rest = gather m (suc from) olds news (omega arith) (λ i cpu old new e was now. work (suc i) cpu old new (omega arith) was now) in
    let are = rest.are in
    record {
      transitions = ds ++ rest.transitions;
      are = record {
        told = map-append told_by ds rest.transitions
            ∙ ap (λ es. es ++ map told_by rest.transitions) (sym (front_rest new.events old.events (map told_by ds) first.are.events))
            ∙ ap (λ es. drop (length old.events) new.events ++ es) are.told;
        stamps = all-append HasStamps ds rest.transitions (lead_stamps m from old.local new.local ds lead) are.stamps;
        above = all-append (λ (d : Transition). from ≤ d.cpu) ds rest.transitions
            (all-map (λ (d : Transition). d.cpu ≡ from) (λ (d : Transition). from ≤ d.cpu) (λ d e. omega arith) ds mine)
            (all-map (λ (d : Transition). suc from ≤ d.cpu) (λ (d : Transition). from ≤ d.cpu) (λ d le. omega arith) rest.transitions are.above);
        below = all-append (λ (d : Transition). d.cpu < from + length (new ∷ news)) ds rest.transitions
            (all-map (λ (d : Transition). d.cpu ≡ from) (λ (d : Transition). d.cpu < from + length (new ∷ news)) (λ d e. omega arith) ds mine)
            (all-map (λ (d : Transition). d.cpu < suc from + length news) (λ (d : Transition). d.cpu < from + length (new ∷ news)) (λ d lt. omega arith)
            rest.transitions are.below);
        each = each first rest.transitions are;
      };
    }
  where
    each : (first : Extends m from old new) (rest : List Transition) → AreGathered m (suc from) olds news rest → (i cpu : ℕ) (was now : LocalTrace) → from + i ≡ cpu →
        slice_get (old ∷ olds) i ≡ Some was → slice_get (new ∷ news) i ≡ Some now → AreDeedsBetween m cpu was now (own cpu (first.transitions ++ rest))
    each first rest are zero cpu was now e at there =
        let mine = own_of_first from first.transitions rest (lead_own m from old.local new.local first.transitions first.are.lead) are.above in
        let here = subst (AreDeedsBetween m from old new) (sym mine) first.are in
        let to_now = subst (λ new. AreDeedsBetween m from old new (own from (first.transitions ++ rest))) (some_is new now there) here in
        let from_was = subst (λ old. AreDeedsBetween m from old now (own from (first.transitions ++ rest))) (some_is old was at) to_now in
        subst (λ cpu. AreDeedsBetween m cpu was now (own cpu (first.transitions ++ rest))) (omega arith) from_was
    each first rest are (suc i) cpu was now e at there =
        let others = own_of_other from cpu first.transitions rest (omega arith) (lead_own m from old.local new.local first.transitions first.are.lead) in
        subst (AreDeedsBetween m cpu was now) (sym others) (are.each i cpu was now (omega arith) at there)

-- Where each of them went on by turns alone, so are all transitions.
pub turns_gathered : (m : Machine) (from : ℕ) (olds news : List LocalTrace) (size : length news ≡ length olds)
    (work : (i cpu : ℕ) (old new : LocalTrace) → from + i ≡ cpu → slice_get olds i ≡ Some old → slice_get news i ≡ Some new → Extends m cpu old new) →
    ((i cpu : ℕ) (old new : LocalTrace) (e : from + i ≡ cpu) (was : slice_get olds i ≡ Some old) (now : slice_get news i ≡ Some new) →
    AllByRecursion (λ d. is_turn d.event ≡ true) (work i cpu old new e was now).transitions) →
    AllByRecursion (λ d. is_turn d.event ≡ true) (gather m from olds news size work).transitions
unfolding gather
turns_gathered m from [] [] size work turns = tt
turns_gathered m from [] (new ∷ news) size work turns = absurd (omega arith)
turns_gathered m from (old ∷ olds) [] size work turns = absurd (omega arith)
turns_gathered m from (old ∷ olds) (new ∷ news) size work turns =
    all-append (λ (d : Transition). is_turn d.event ≡ true) (work 0 from old new (omega arith) refl refl).transitions _
    (turns 0 from old new (omega arith) refl refl)
    (turns_gathered m (suc from) olds news (omega arith) (λ i cpu old new e was now. work (suc i) cpu old new (omega arith) was now)
    (λ i cpu old new e was now. turns (suc i) cpu old new (omega arith) was now))
