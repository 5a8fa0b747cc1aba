-- The choices of a search for stuck threads.
use Rattle.std.proofs.Common.{◌≡◌, ℕ, zero, suc, ◌<◌, ◌≤◌, Bool, true, false, ◌⊎◌, inl, inr, Option, Some, None, List, [], ◌∷◌, ◌++◌, length, take, refl, ap, sym, subst, ◌∙◌, arith}
use Rattle.std.proofs.lemmas.Slice.Eq.{bytes_eq-Decides}
use Rattle.std.specs.Prelude.{◌||◌, IfNone, IfSome}
use Rattle.std.specs.List.{list_any}
use Rattle.std.specs.Option.{option_map}
use Rattle.std.specs.Str.{bytes_eq}
use Rattle.l4_model.specs.Machine.{Machine}
use Rattle.l4_model.specs.World.{World}
use Rattle.l4_model.proofs.Chains.{some_is}
use Rattle.l4_worlds.specs.Histories.{IsTimed}
use Rattle.l4_explore.specs.Tries.{AreCoded, Next, LeadOn}
use Rattle.l4_explore.specs.Search.{Seen, seen_at, has_code, AreApart}
use Rattle.l4_futures.specs.Choices.{world_after}
use Rattle.l4_futures.specs.Inner.Search.{nexts, state_in, state_after}
use Rattle.l4_futures.proofs.Kept.{schedules}
use Rattle.l4_forever.specs.Inner.Walks.{all_nexts, are_fresh, AreWalked}
use Rattle.l4_all_endings.proofs.Leading.{all_lead, nexts_lead}
use Rattle.l4_stuck.specs.Inner.Going.{AreWalkedAfter}

-- States of worlds with equal codes are equal.
pub coded : (m : Machine) → IsTimed m → AreCoded (state_after m)
coded m timed = (schedules m timed).coded

-- Codes of found states

or_true : (b c : Bool) → c ≡ true → (b || c) ≡ true
or_true true c is = refl
or_true false c is = is

any_at : (p : Seen → Bool) (xs : List Seen) (i : ℕ) → i < length xs → p (seen_at xs i) ≡ true → list_any p xs ≡ true
any_at p [] i inside is = absurd (omega (arith, inside))
any_at p (x ∷ xs) zero inside is = ap (λ b. b || list_any p xs) is
any_at p (x ∷ xs) (suc i) inside is = or_true (p x) (list_any p xs) (any_at p xs i (omega (arith, inside)) is)

-- One of those up to a place is such.
record IsUpTo (p : Seen → Bool) (xs : List Seen) (place : ℕ) : Type 0 where
  i : ℕ
  low : i ≤ place
  is : p (seen_at xs i) ≡ true

up_to : (p : Seen → Bool) (xs : List Seen) (place : ℕ) → place < length xs → list_any p (take place xs ++ seen_at xs place ∷ []) ≡ true → IsUpTo p xs place
up_to p [] place inside any = absurd (omega (arith, inside))
up_to p (x ∷ xs) zero inside any = record { i = 0; low = omega arith; is = first (p x) any }
  where
    first : (b : Bool) → (b || false) ≡ true → b ≡ true
    first true any = refl
    first false any = any
up_to p (x ∷ xs) (suc place) inside any = by (p x) refl any (up_to p xs place (omega (arith, inside)))
  where
    by : (b : Bool) → p x ≡ b → (b || list_any p (take place xs ++ seen_at xs place ∷ [])) ≡ true → (list_any p (take place xs ++ seen_at xs place ∷ []) ≡ true → IsUpTo p xs place) → IsUpTo p (x ∷ xs) (suc place)
    by true is any later = record { i = 0; low = omega arith; is = is }
    by false is any later =
        let more = later any in
        let low = more.low in
        record { i = suc more.i; low = omega (arith, low); is = more.is }

by_false : (b : Bool) → (b ≡ true → ⊥) → b ≡ false
by_false true never = absurd (never refl)
by_false false never = refl

not_both : (b : Bool) → b ≡ false → b ≡ true → ⊥
not_both true e f = cc
not_both false e f = cc

pub no_one : {A : Type 0} (i : ℕ) → None ≡ Some i → A
no_one i is = cc

-- It stands behind a place, or was not found.
pub is_later : (found : List Seen) (place : ℕ) (code : List ℕ) (at : Option ℕ) (is : Bool) → place < length found → AreApart found →
    IfSome at (λ i. (i < length found) × ((seen_at found i).state.code ≡ code)) → IfNone at (has_code found code ≡ false) →
    ((i : ℕ) → at ≡ Some i → is ≡ true → place < i) → is ≡ true → has_code (take place found ++ seen_at found place ∷ []) code ≡ false
is_later found place code at is inside apart some none later so =
    by_false (has_code (take place found ++ seen_at found place ∷ []) code) (λ any. by at refl some none (up_to (λ s. bytes_eq code s.state.code) found place inside any))
  where
    by : (o : Option ℕ) → at ≡ o → IfSome o (λ i. (i < length found) × ((seen_at found i).state.code ≡ code)) → IfNone o (has_code found code ≡ false) → IsUpTo (λ s. bytes_eq code s.state.code) found place → ⊥
    by None is_none some none u =
        let low = u.low in
        not_both (has_code found code) none (any_at (λ s. bytes_eq code s.state.code) found u.i (omega (arith, low, inside)) u.is)
    by (Some i) is_some some none u =
        let low = u.low in
        let behind = later i is_some so in
        let same : (seen_at found u.i).state.code ≡ (seen_at found i).state.code = sym ((bytes_eq-Decides code (seen_at found u.i).state.code).0 u.is) ∙ sym some.1 in
        let one = apart u.i i (omega (arith, low, inside)) some.0 same in
        absurd (omega (arith, low, behind, one))

-- They lead on, whichever they are.
pub walked_lead : (m : Machine) (before : List Seen) (seen : Seen) (schedule : List ℕ) (choices : List Next) → AreWalkedAfter m before seen schedule choices → LeadOn (state_after m) schedule 0 choices
walked_lead m before seen schedule choices x = by x.are
  where
    by : ((choices ≡ all_nexts m x.world) ⊎ ((choices ≡ nexts m x.world) × (are_fresh before seen choices ≡ true))) → LeadOn (state_after m) schedule 0 choices
    by (inl all) = subst (LeadOn (state_after m) schedule 0) (sym all) (all_lead m schedule x.world x.leads)
    by (inr some) = subst (LeadOn (state_after m) schedule 0) (sym some.0) (nexts_lead m schedule x.world x.leads)

-- They are those of the state.
pub walked : (m : Machine) (before : List Seen) (seen : Seen) (schedule : List ℕ) (choices : List Next) → schedule ≡ seen.schedule → state_after m seen.schedule ≡ Some seen.state →
    AreWalkedAfter m before seen schedule choices → AreWalked m before seen choices
walked m before seen schedule choices same reached x =
    let leads : world_after m seen.schedule ≡ Some x.world = ap (world_after m) (sym same) ∙ x.leads in
    record {
      world = x.world;
      leads = leads;
      is = state_is x.world leads;
      are = x.are;
    }
  where
    some_state : (o : Option World) (w : World) → o ≡ Some w → option_map (state_in m) o ≡ Some seen.state → state_in m w ≡ seen.state
    some_state None w is at = cc
    some_state (Some v) w is at = ap (state_in m) (sym (some_is v w is)) ∙ some_is (state_in m v) seen.state at

    state_is : (w : World) → world_after m seen.schedule ≡ Some w → state_in m w ≡ seen.state
    state_is w leads = some_state (world_after m seen.schedule) w leads reached
