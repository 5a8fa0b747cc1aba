-- What each processor knows of what happened, in the order of its events, is what happened to all.
use Rattle.std.proofs.Common.{◌≡◌, ℕ, zero, suc, ◌+◌, ◌<◌, cond, List, [], ◌∷◌, map, drop, refl, ap, ap₂, sym, ◌∙◌, arith}
use Rattle.std.specs.List.{AllByRecursion, range_with_len}
use Rattle.std.proofs.lemmas.Bool.{ne_eqb}
use Rattle.std.proofs.lemmas.List.FromFn.{get_or-map-range_with_len}
use Rattle.l4_model.specs.World.{changed}
use Rattle.l4_core_model.specs.Runs.{Action}
use Rattle.l4_merge.specs.Transitions.{Transition, happened_by}
use Rattle.l4_merge.specs.Recorded.{then_others, actions_in}
use Rattle.l4_merge.proofs.Own.{own, own_first}

-- Lists with an element for each processor

same_above : {A : Type 0} (f g : ℕ → A) (cpu from n : ℕ) → cpu < from → ((c : ℕ) → (c ≡ cpu → ⊥) → f c ≡ g c) →
    map f (range_with_len from n) ≡ map g (range_with_len from n)
same_above f g cpu from zero above same = refl
same_above f g cpu from (suc n) above same =
    ap₂ (λ x xs. x ∷ xs) (same from (λ e. omega arith)) (same_above f g cpu (from + 1) n (omega arith) same)

-- Where one of them changes and the others stay.
changed_one : {A : Type 0} (h : A → A) (f g : ℕ → A) (cpu from n i : ℕ) → from + i ≡ cpu → h (f cpu) ≡ g cpu → ((c : ℕ) → (c ≡ cpu → ⊥) → f c ≡ g c) →
    changed h (map f (range_with_len from n)) i ≡ map g (range_with_len from n)
changed_one h f g cpu from zero i at here same = refl
changed_one h f g cpu from (suc n) zero at here same =
    let is : from ≡ cpu = omega arith in
    ap₂ (λ x xs. x ∷ xs) (ap (λ c. h (f c)) is ∙ here ∙ ap g (sym is)) (same_above f g cpu (from + 1) n (omega arith) same)
changed_one h f g cpu from (suc n) (suc i) at here same =
    ap₂ (λ x xs. x ∷ xs) (same from (λ e. omega arith)) (changed_one h f g cpu (from + 1) n i (omega arith) here same)

-- What happened to a processor by these transitions.
abbrev pub happened_to : List Transition → (cpu : ℕ) → List Action
happened_to ds cpu = map happened_by (own cpu ds)

other_stays : (d : Transition) (ds : List Transition) (cpu : ℕ) → (cpu ≡ d.cpu → ⊥) → happened_to (d ∷ ds) cpu ≡ happened_to ds cpu
other_stays d ds cpu other = ap (λ b. map happened_by (cond b (d ∷ own cpu ds) (own cpu ds))) (ne_eqb d.cpu cpu (λ e. other (sym e)))

-- In the order of the transitions it is what happened by them.
pub happened_in_order : (n : ℕ) (ds : List Transition) → AllByRecursion (λ d. d.cpu < n) ds →
    actions_in (map (λ d. d.cpu) ds) (map (happened_to ds) (range_with_len 0 n)) ≡ map happened_by ds
happened_in_order n [] all = refl
happened_in_order n (d ∷ ds) all =
    let own = ap (map happened_by) (own_first d.cpu d ds refl) in
    let here = get_or-map-range_with_len (happened_to (d ∷ ds)) 0 n d.cpu d.cpu [] all.0 (omega arith) ∙ own in
    let rest = changed_one (drop 1) (happened_to (d ∷ ds)) (happened_to ds) d.cpu 0 n d.cpu (omega arith) (ap (drop 1) own) (other_stays d ds) in
    ap₂ (λ first each. then_others first (actions_in (map (λ d. d.cpu) ds) each)) here rest
    ∙ ap (λ hs. happened_by d ∷ hs) (happened_in_order n ds all.1)
