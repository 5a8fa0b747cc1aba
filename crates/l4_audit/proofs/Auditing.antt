-- An audit goes on by one step.
use Rattle.std.proofs.Common.{◌≡◌, ℕ, ◌<◌, ◌+◌, length, get_or, take, Option, Some, None, Result, Ok, Err, List, [], ◌∷◌, ◌++◌, refl, ap, sym, ◌∙◌, subst}
use Rattle.std.specs.Prelude.{filter_map}
use Rattle.std.specs.List.{cons_option}
use Rattle.std.specs.Option.{option_to_list}
use Rattle.std.proofs.lemmas.List.{append-nil, take_more}
use Rattle.std.proofs.lemmas.List.Elements.{filter_map-append}
use Rattle.l4_model.specs.Machine.{Machine}
use Rattle.l4_model.specs.World.{Name, World, opening}
use Rattle.l4_model.specs.Conditions.{◌>>=◌}
use Rattle.l4_model.specs.Steps.{Step, Begin, next}
use Rattle.l4_model.specs.History.{run, reached, begun_name, waiting, waiting_name}
use Rattle.l4_model.proofs.Chains.{bind_then, some_is}
use Rattle.l4_model.proofs.Worlds.{reached_facts}
use Rattle.l4_core_model.proofs.Changed.{run-last}
use Rattle.l4_audit.specs.declared.reasons.StepFault.{StepFault}
use Rattle.l4_audit.specs.Inner.Audited.{Audited, IsPlaced}
use Rattle.l4_audit.specs.Inner.Auditing.{Auditing, IsUnderWay, Judges, waiting_send}
use Rattle.l4_audit.specs.Inner.Taking.{IsTaken, Judged}
use Rattle.l4_audit.proofs.Placing.{Placed, opening_placed, placed_at, step_placed}

-- Of every world that a history reaches.

one_step : (m : Machine) (before : List Step) (w u : World) (step : Step) → reached m before ≡ Some w → next m w step ≡ Some u → reached m (before ++ step ∷ []) ≡ Some u
one_step m before w u step r is = run-last m (opening m) before step ∙ ap (λ o. o >>= λ v. next m v step) r ∙ is

run_placed : (m : Machine) (before h : List Step) (w v : World) → reached m before ≡ Some w → run m w h ≡ Some v → Placed m w → Placed m v
run_placed m before [] w v r e placed = subst (Placed m) (some_is w v e) placed
run_placed m before (step ∷ h) w v r e placed =
    bind_then (next m w step) (λ u. run m u h) v e λ u is rest.
    run_placed m (before ++ step ∷ []) h u v (one_step m before w u step r is) rest (step_placed m w u step (reached_facts m before w r) is placed)

pub are_placed : (a : Audited) (begun : List Name) → IsUnderWay a begun → IsPlaced a
are_placed a begun way i d t declared now has =
    placed_at a.machine a.world i d t (run_placed a.machine [] way.steps (opening a.machine) a.world refl way.reached_by (opening_placed a.machine)) declared now has

-- The names of the sends that were begun.

one_at_most : {X : Type 0} (o : Option X) → cons_option o [] ≡ option_to_list o
one_at_most None = refl
one_at_most (Some x) = refl

filter_more : {A X : Type 0} (f : A → Option X) (xs : List A) (x : A) → filter_map f (xs ++ x ∷ []) ≡ filter_map f xs ++ option_to_list (f x)
filter_more f xs x = filter_map-append f xs (x ∷ []) ∙ ap (λ ys. filter_map f xs ++ ys) (one_at_most (f x))

pub begun_more : (h : List Step) (step : Step) → filter_map begun_name (h ++ step ∷ []) ≡ filter_map begun_name h ++ option_to_list (begun_name step)
begun_more h step = filter_more begun_name h step

-- One more of the names is looked at.
pub waiting_more : {X : Type 0} (f : Name → Option X) (names : List Name) (xs ys : List X) (n : ℕ) (s : Name) → n < length names → s ≡ get_or names n s → xs ≡ filter_map f (take n names) →
    ys ≡ xs ++ option_to_list (f s) → ys ≡ filter_map f (take (n + 1) names)
waiting_more f names xs ys n s lt at so_far more =
    let next : take (n + 1) names ≡ take n names ++ s ∷ [] = take_more names n s lt ∙ ap (λ y. take n names ++ y ∷ []) (sym at) in
    more ∙ ap (λ zs. zs ++ option_to_list (f s)) so_far ∙ sym (ap (filter_map f) next ∙ filter_more f (take n names) s)

pub waiting_begun : (m : Machine) (w : World) (h : List Step) → filter_map (waiting_send m w) (filter_map begun_name h) ≡ waiting m w h
waiting_begun m w [] = refl
waiting_begun m w (step ∷ h) = by (begun_name step) (waiting_begun m w h)
  where
    by : (o : Option Name) → filter_map (waiting_send m w) (filter_map begun_name h) ≡ filter_map (waiting_name m w) h →
        filter_map (waiting_send m w) (cons_option o (filter_map begun_name h)) ≡ cons_option (o >>= waiting_send m w) (filter_map (waiting_name m w) h)
    by None rest = rest
    by (Some s) rest = ap (cons_option (waiting_send m w s)) rest

-- One step

pub goes_on : (a b : Audited) (begun new : List Name) (step : Step) → IsUnderWay a begun → IsTaken a step b → new ≡ begun ++ option_to_list (begun_name step) → IsUnderWay b new
goes_on a b begun new step way taken more = record {
  steps = way.steps ++ step ∷ [];
  reached_by = ap (λ m. reached m (way.steps ++ step ∷ [])) taken.machine ∙ one_step a.machine way.steps a.world b.world step way.reached_by taken.possible;
  begun_by = begun_more way.steps step ∙ ap (λ xs. xs ++ option_to_list (begun_name step)) way.begun_by ∙ sym more;
}

pub begun_is : (step : Step) (name : Name) → begun_name step ≡ Some name → step ≡ Begin name
begun_is (Begin s) name e = ap Begin (some_is s name e)
begun_is _ name e = cc

-- A step that begins no send.

silent : (begun : List Name) (step : Step) → begun_name step ≡ None → begun ≡ begun ++ option_to_list (begun_name step)
silent begun step none = sym (ap (λ o. begun ++ option_to_list o) none ∙ append-nil begun)

pub stays_under_way : {A : Type 0} (a b : Audited) (begun : List Name) (step : Step) (r : Result A StepFault) → IsUnderWay a begun → begun_name step ≡ None → Judged a step r b → IsUnderWay b begun
stays_under_way a b begun step (Ok done) way none taken = goes_on a b begun begun step way taken (silent begun step none)
stays_under_way a b begun step (Err fault) way none judged = subst (λ x. IsUnderWay x begun) (sym judged.1) way

pub judges_silent : {A : Type 0} (a b : Audited) (begun : List Name) (step : Step) (r : Result A StepFault) (old new : Auditing) → record { at = a; begun = begun } ≡ old → new ≡ record { at = b; begun = begun } →
    begun_name step ≡ None → Judged a step r b → Judges old step r new
judges_silent a b begun step (Ok done) old new is made none taken =
    rw (← is, made) (record { taken = taken; begun = silent begun step none })
judges_silent a b begun step (Err fault) old new is made none judged =
    rw (← is, made) (judged.0, ap (λ x. record { at = x; begun = begun }) judged.1)
