-- The place of the first step that is not possible is one above the length of the longest beginning that is a history.
use Rattle.std.proofs.Common.{subst, ◌≡◌, ℕ, zero, suc, ◌+◌, ◌<◌, ◌≤◌, Option, Some, None, List, [], ◌∷◌, length, take, refl, ap, sym, ◌∙◌, arith, ⊎_elim}
use Rattle.std.proofs.lemmas.Bool.{cases_lt}
use Rattle.std.proofs.lemmas.List.{take_all}
use Rattle.l4_model.specs.Machine.{Machine}
use Rattle.l4_model.specs.World.{World, opening}
use Rattle.l4_model.specs.Steps.{Step, next}
use Rattle.l4_model.specs.History.{run, IsHistory, place_or_rest, refused_from, refused_place, IsFirstFault, TellsFirstFault}

-- From a world on, so many steps are possible and the next is not.
record Stops (m : Machine) (w : World) (h : List Step) (count : ℕ) : Type 0 where
  within : count < length h
  end : World
  runs : run m w (take count h) ≡ Some end
  stops : (more : ℕ) → count < more → run m w (take more h) ≡ None

-- What the place told from a place on says.
abbrev Told : Machine → World → ℕ → List Step → Option ℕ → Type 0
Told m w place h None = (v : World) × (run m w h ≡ Some v)
Told m w place h (Some n) = (count : ℕ) × (n ≡ place + count) × Stops m w h count

told : (m : Machine) (w : World) (place : ℕ) (h : List Step) → Told m w place h (refused_from m w place h)
told m w place [] = (w, refl)
told m w place (step ∷ h) = by (next m w step) refl (λ u. told m u (place + 1) h)
  where
    later : (u : World) (e : next m w step ≡ Some u) (o : Option ℕ) → Told m u (place + 1) h o → Told m w place (step ∷ h) o
    later u e None t = (t.0, rw e t.1)
    later u e (Some n) t =
        let s : Stops m u h t.0 = t.2 in (
          suc t.0,
          omega (arith, t.1),
          record {
            within = omega (arith, s.within);
            end = s.end;
            runs = rw e s.runs;
            stops = stop;
          },
        )
      where
        stop : (more : ℕ) → suc t.0 < more → run m w (take more (step ∷ h)) ≡ None
        stop zero lt = absurd (omega arith)
        stop (suc more) lt = rw e (t.2.stops more (omega arith))

    by : (o : Option World) → next m w step ≡ o → ((u : World) → Told m u (place + 1) h (refused_from m u (place + 1) h)) →
        Told m w place (step ∷ h) (place_or_rest o place (λ v. refused_from m v (place + 1) h))
    by None e rest = (0, omega arith, record { within = omega arith; end = w; runs = refl; stops = stop })
      where
        stop : (more : ℕ) → 0 < more → run m w (take more (step ∷ h)) ≡ None
        stop zero lt = absurd (omega arith)
        stop (suc more) lt = rw e
    by (Some u) e rest = later u e (refused_from m u (place + 1) h) (rest u)

not_both : {A : Type 0} (o : Option A) (v : A) → o ≡ None → o ≡ Some v → ⊥
not_both o v e f = cc

-- a place where it stops is the first fault, and the only one
stops_fault : (m : Machine) (h : List Step) (place count : ℕ) → place ≡ 1 + count → Stops m (opening m) h count → IsFirstFault m h place
stops_fault m h place count is s = record { beginning = count; place_is = omega (arith, is); within = s.within; is_history = (s.end, s.runs); is_longest = longest }
  where
    longest : (more : ℕ) → more ≤ length h → IsHistory m (take more h) → more ≤ count
    longest more le history =
        ⊎_elim (λ above. absurd (not_both (run m (opening m) (take more h)) history.0 (s.stops more above) history.1)) (λ below. below) (cases_lt count more)

one_fault : (m : Machine) (h : List Step) (place n : ℕ) → IsFirstFault m h place → IsFirstFault m h n → n ≡ place
one_fault m h place n a b =
    let up : a.beginning ≤ b.beginning = b.is_longest a.beginning (omega (arith, a.within)) a.is_history in
    let down : b.beginning ≤ a.beginning = a.is_longest b.beginning (omega (arith, b.within)) b.is_history in
    omega (arith, a.place_is, b.place_is)

no_history : (m : Machine) (h : List Step) (place : ℕ) → IsFirstFault m h place → IsHistory m h → ⊥
no_history m h place a history =
    let whole : take (length h) h ≡ h = take_all (length h) h (omega arith) in
    let le : length h ≤ a.beginning = a.is_longest (length h) (omega arith) (subst (IsHistory m) (sym whole) history) in
    omega (arith, a.within)

pub tells_first_fault : (m : Machine) (h : List Step) → TellsFirstFault m h
tells_first_fault m h = record { history = (history_from, history_to); fault = λ place. (fault_from place, fault_to place) }
  where
    told_here : Told m (opening m) 1 h (refused_place m h)
    told_here = told m (opening m) 1 h

    fault_of : (n : ℕ) → refused_place m h ≡ Some n → IsFirstFault m h n
    fault_of n e = let t = subst (Told m (opening m) 1 h) e told_here in stops_fault m h n t.0 t.1 t.2

    history_from : refused_place m h ≡ None → IsHistory m h
    history_from e = subst (Told m (opening m) 1 h) e told_here

    history_to : IsHistory m h → refused_place m h ≡ None
    history_to history = by (refused_place m h) refl
      where
        by : (o : Option ℕ) → refused_place m h ≡ o → refused_place m h ≡ None
        by None e = e
        by (Some n) e = absurd (no_history m h n (fault_of n e) history)

    fault_from : (place : ℕ) → refused_place m h ≡ Some place → IsFirstFault m h place
    fault_from place e = fault_of place e

    fault_to : (place : ℕ) → IsFirstFault m h place → refused_place m h ≡ Some place
    fault_to place a = by (refused_place m h) refl
      where
        by : (o : Option ℕ) → refused_place m h ≡ o → refused_place m h ≡ Some place
        by None e = absurd (no_history m h place a (history_from e))
        by (Some n) e = e ∙ ap Some (one_fault m h place n a (fault_of n e))
