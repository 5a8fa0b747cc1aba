-- Threads are told to be stuck exactly where they are.
use Rattle.std.proofs.Common.{◌≡◌, ℕ, zero, suc, Bool, true, false, Option, Some, None, List, [], ◌∷◌, refl, ap, sym, ◌∙◌}
use Rattle.std.proofs.lemmas.Bool.{and_from}
use Rattle.std.specs.Prelude.{slice_get, not, is_some, ◌↔◌}
use Rattle.std.specs.List.{list_all}
use Rattle.l4_model.specs.Words.{GlobalId}
use Rattle.l4_model.specs.Machine.{Machine}
use Rattle.l4_model.specs.World.{World}
use Rattle.l4_model.specs.Steps.{Step, Tick, next}
use Rattle.l4_model.specs.History.{reached}
use Rattle.l4_model.specs.Still.{is_tick, late}
use Rattle.l4_model.proofs.Chains.{some_is}
use Rattle.l4_model.proofs.Places.{and_true}
use Rattle.l4_model.proofs.Sizes.{Sized}
use Rattle.l4_model.proofs.Worlds.{standing}
use Rattle.l4_audit.specs.Possible.{possible, IsListed, IsOpen}
use Rattle.l4_audit.proofs.Listed.{lists_possible}
use Rattle.l4_waits.specs.Deadlocks.{is_of, IsStuck, IsDeadlock, is_stuck, are_stuck}
use Rattle.l4_waits.proofs.Ticks.{ticks_from, are_ticks, possible_late, late_reached}

all_at : (p : Step → Bool) (xs : List Step) (i : ℕ) (x : Step) → list_all p xs ≡ true → slice_get xs i ≡ Some x → p x ≡ true
all_at p [] i x h at = cc
all_at p (y ∷ xs) zero x h at = ap p (sym (some_is y x at)) ∙ (and_true (p y) (list_all p xs) h).0
all_at p (y ∷ xs) (suc i) x h at = all_at p xs i x (and_true (p y) (list_all p xs) h).1 at

all_from : (p : Step → Bool) (xs : List Step) → ((i : ℕ) (x : Step) → slice_get xs i ≡ Some x → p x ≡ true) → list_all p xs ≡ true
all_from p [] h = refl
all_from p (x ∷ xs) h = and_from (p x) (list_all p xs) (h 0 x refl) (all_from p xs (λ i. h (suc i)))

-- No thread goes on by a tick.
no_tick : (id : GlobalId) (step : Step) → is_of id step ≡ true → is_tick step ≡ false
no_tick id (Tick cpu clock) h = cc
no_tick id _ h = refl

not_both : (b : Bool) → b ≡ true → not b ≡ true → ⊥
not_both true e h = cc
not_both false e h = cc

is_none_of : {A : Type 0} (o : Option A) → ((x : A) → o ≡ Some x → ⊥) → o ≡ None
is_none_of None never = refl
is_none_of (Some x) never = absurd (never x refl)

some_none : {A : Type 0} (o : Option A) → is_some o ≡ true → o ≡ None → ⊥
some_none None h e = cc
some_none (Some x) h e = cc

one_exactly : (m : Machine) (w : World) → Sized m w → (id : GlobalId) → (is_stuck (possible m (late w)) id ≡ true) ↔ IsStuck m w id
one_exactly m w sized id = (to, from)
  where
    to : is_stuck (possible m (late w)) id ≡ true → IsStuck m w id
    to none ticks later step all r own number =
        is_none_of (next m later step) λ v h.
        let not_tick = no_tick id step own in
        let listed : IsListed step (possible m (late w)) = ((lists_possible m (late w)).exactly step).1 (record { possible = possible_late m w later v ticks step sized all r not_tick h; no_tick = not_tick; number = number }) in
        not_both (is_of id step) own (all_at (λ s. not (is_of id s)) (possible m (late w)) listed.0 step none listed.1)

    by : IsStuck m w id → (i : ℕ) (step : Step) → slice_get (possible m (late w)) i ≡ Some step → (b : Bool) → is_of id step ≡ b → not b ≡ true
    by stuck i step at false e = refl
    by stuck i step at true e =
        let open_step : IsOpen m (late w) step = ((lists_possible m (late w)).exactly step).0 (i, at) in
        absurd (some_none (next m (late w) step) open_step.possible
        (stuck (ticks_from 0 w.clocks) (late w) step (are_ticks 0 w.clocks) (late_reached m w sized) e open_step.number))

    from : IsStuck m w id → is_stuck (possible m (late w)) id ≡ true
    from stuck = all_from (λ s. not (is_of id s)) (possible m (late w)) (λ i step at. by stuck i step at (is_of id step) refl)

all_exactly : (m : Machine) (w : World) → Sized m w → (ids : List GlobalId) → (are_stuck (possible m (late w)) ids ≡ true) ↔ IsDeadlock m w ids
all_exactly m w sized [] = (λ h. tt, λ h. refl)
all_exactly m w sized (id ∷ ids) = (
  λ h. let both = and_true (is_stuck (possible m (late w)) id) (are_stuck (possible m (late w)) ids) h in ((one_exactly m w sized id).0 both.0, (all_exactly m w sized ids).0 both.1),
  λ h. and_from (is_stuck (possible m (late w)) id) (are_stuck (possible m (late w)) ids) ((one_exactly m w sized id).1 h.0) ((all_exactly m w sized ids).1 h.1),
)

pub stuck_exactly : (m : Machine) (h : List Step) (w : World) → reached m h ≡ Some w → (ids : List GlobalId) → (are_stuck (possible m (late w)) ids ≡ true) ↔ IsDeadlock m w ids
stuck_exactly m h w r ids = all_exactly m w (standing m h w r).sized ids
