-- Threads that are told, one after another.
use Rattle.std.proofs.Common.{◌≡◌, ℕ, zero, suc, ◌+◌, ◌<◌, ◌≤◌, Bool, true, false, ◌⊎◌, inl, inr, Some, List, [], ◌∷◌, ◌++◌, length, refl, ap, sym, subst, ◌∙◌, arith}
use Rattle.std.proofs.lemmas.Bool.{ltb-true, ltb-false}
use Rattle.std.specs.Prelude.{nat_lt, slice_get, IsSome}
use Rattle.l4_model.specs.Machine.{Machine}
use Rattle.l4_model.specs.World.{World, opening}
use Rattle.l4_model.proofs.Chains.{some_is}
use Rattle.l4_worlds.specs.Histories.{IsTimed}
use Rattle.l4_explore.specs.Search.{Seen, seen_at, AreFound}
use Rattle.l4_futures.specs.Choices.{world_after}
use Rattle.l4_futures.specs.Inner.Search.{state_after, state_in}
use Rattle.l4_futures.proofs.Kept.{state_led}
use Rattle.l4_futures.proofs.Led.{is_led}
use Rattle.l4_forever.specs.Forever.{WaitsForEver}
use Rattle.l4_forever.specs.Inner.Graph.{AreReached, IsWorldAt}
use Rattle.l4_forever.specs.Moves.{IsNeverStuck}
use Rattle.l4_stuck.specs.Stuck.{AreStuckBelow, IsFirst, IsStuck, Stuck}

-- The thread at a found place is stuck by its schedule.
pub stuck_by : (m : Machine) (found : List Seen) (place thread : ℕ) (entries : List ℕ) → IsTimed m → AreReached m found → place < length found → entries ≡ (seen_at found place).schedule → length entries ≤ 1000001 →
    ((w : World) → IsWorldAt m found place w → WaitsForEver m w thread) → IsStuck m (record { thread = thread; entries = entries })
stuck_by m found place thread entries timed reached inside is few waits =
    let seen = seen_at found place in
    let on = state_led m seen.schedule seen.state (reached place inside) in
    let leads : world_after m entries ≡ Some on.0 = ap (world_after m) is ∙ on.1 in
    let led = is_led m entries on.0 timed few leads in
    record {
      led = record { leads = subst IsSome (sym leads) refl; few = few };
      stuck = record { world = led.world; reaches = led.reaches; for_ever = subst (λ w. WaitsForEver m w thread) (sym led.alike) (waits on.0 (record { inside = inside; leads = on.1 })) };
    }

-- The opening is found.
pub first_found : (m : Machine) (found : List Seen) → AreFound (state_after m) found → IsFirst m found
first_found m found are =
    let first = are.opening (state_in m (opening m)) refl in
    record { place = first.place; there = record { inside = first.inside; is = sym first.is } }

-- One thread more

pub none_told : (m : Machine) (is_whole : Bool) → AreStuckBelow m [] is_whole 0
none_told m is_whole = record { sound = λ k s at. cc; complete = λ whole thread below others. absurd (omega (arith, below)); rising = λ i j s t lt at. cc }

below_or : (i n : ℕ) → i < n + 1 → (i < n) ⊎ (i ≡ n)
below_or i n below = by (nat_lt i n) refl
  where
    by : (b : Bool) → nat_lt i n ≡ b → (i < n) ⊎ (i ≡ n)
    by true is = inl (ltb-true i n is)
    by false is = let ge = ltb-false i n is in inr (omega (arith, below, ge))

pub not_told : (m : Machine) (stuck : List Stuck) (is_whole : Bool) (thread : ℕ) → (is_whole ≡ true → IsNeverStuck m thread) → AreStuckBelow m stuck is_whole thread → AreStuckBelow m stuck is_whole (thread + 1)
not_told m stuck is_whole thread never h = record {
  sound = λ k s at. let one = h.sound k s at in let below = one.0 in (omega (arith, below), one.1);
  complete = λ whole t below others. by whole t others (below_or t thread below);
  rising = h.rising;
}
  where
    by : is_whole ≡ true → (t : ℕ) → ((k : ℕ) (s : Stuck) → slice_get stuck k ≡ Some s → s.thread ≡ t → ⊥) → (t < thread) ⊎ (t ≡ thread) → IsNeverStuck m t
    by whole t others (inl below) = h.complete whole t below others
    by whole t others (inr same) = subst (IsNeverStuck m) (sym same) (never whole)

-- What stands at a place of a list with one more: it stood there, or is the last.
last_or : (xs : List Stuck) (x : Stuck) (k : ℕ) (s : Stuck) → slice_get (xs ++ x ∷ []) k ≡ Some s → (slice_get xs k ≡ Some s) ⊎ ((k ≡ length xs) × (x ≡ s))
last_or [] x zero s at = inr (refl, some_is x s at)
last_or [] x (suc k) s at = cc
last_or (y ∷ xs) x zero s at = inl at
last_or (y ∷ xs) x (suc k) s at = by (last_or xs x k s at)
  where
    by : ((slice_get xs k ≡ Some s) ⊎ ((k ≡ length xs) × (x ≡ s))) → (slice_get xs k ≡ Some s) ⊎ ((suc k ≡ suc (length xs)) × (x ≡ s))
    by (inl before) = inl before
    by (inr last) = inr (ap suc last.0, last.1)

inside_of : (xs : List Stuck) (k : ℕ) (s : Stuck) → slice_get xs k ≡ Some s → k < length xs
inside_of [] k s at = cc
inside_of (x ∷ xs) zero s at = omega arith
inside_of (x ∷ xs) (suc k) s at = let less = inside_of xs k s at in omega (arith, less)

get_first : (xs : List Stuck) (x : Stuck) (k : ℕ) (s : Stuck) → slice_get xs k ≡ Some s → slice_get (xs ++ x ∷ []) k ≡ Some s
get_first [] x k s at = cc
get_first (y ∷ xs) x zero s at = at
get_first (y ∷ xs) x (suc k) s at = get_first xs x k s at

get_last : (xs : List Stuck) (x : Stuck) → slice_get (xs ++ x ∷ []) (length xs) ≡ Some x
get_last [] x = refl
get_last (y ∷ xs) x = get_last xs x

pub one_told : (m : Machine) (old new : List Stuck) (is_whole : Bool) (thread : ℕ) (x : Stuck) → new ≡ old ++ x ∷ [] → x.thread ≡ thread → IsStuck m x → AreStuckBelow m old is_whole thread → AreStuckBelow m new is_whole (thread + 1)
one_told m old new is_whole thread x is same stuck h =
    subst (λ xs. AreStuckBelow m xs is_whole (thread + 1)) (sym is) (record {
      sound = λ k s at. sound_of s (last_or old x k s at) (h.sound k s);
      complete = λ whole t below others. by whole t others (below_or t thread below);
      rising = λ i j s t lt at_i at_j. rises i j s t lt (last_or old x i s at_i) (last_or old x j t at_j);
    })
  where
    sound_of : {k : ℕ} (s : Stuck) → ((slice_get old k ≡ Some s) ⊎ ((k ≡ length old) × (x ≡ s))) → (slice_get old k ≡ Some s → (s.thread < thread) × IsStuck m s) → (s.thread < thread + 1) × IsStuck m s
    sound_of s (inl before) known = let one = known before in let below = one.0 in (omega (arith, below), one.1)
    sound_of s (inr last) known = subst (λ (y : Stuck). (y.thread < thread + 1) × IsStuck m y) last.1 (omega (arith, same), stuck)

    by : is_whole ≡ true → (t : ℕ) → ((k : ℕ) (s : Stuck) → slice_get (old ++ x ∷ []) k ≡ Some s → s.thread ≡ t → ⊥) → (t < thread) ⊎ (t ≡ thread) → IsNeverStuck m t
    by whole t others (inl below) = h.complete whole t below (λ k s at. others k s (get_first old x k s at))
    by whole t others (inr here) = absurd (others (length old) x (get_last old x) (same ∙ sym here))

    rises : (i j : ℕ) (s t : Stuck) → i < j → ((slice_get old i ≡ Some s) ⊎ ((i ≡ length old) × (x ≡ s))) → ((slice_get old j ≡ Some t) ⊎ ((j ≡ length old) × (x ≡ t))) → s.thread < t.thread
    rises i j s t lt (inl one) (inl two) = h.rising i j s t lt one two
    rises i j s t lt (inl one) (inr last) =
        let below = (h.sound i s one).0 in
        let is : t.thread ≡ thread = ap (λ (y : Stuck). y.thread) (sym last.1) ∙ same in
        omega (arith, below, is)
    rises i j s t lt (inr last) (inl two) = let inside = inside_of old j t two in let at = last.0 in absurd (omega (arith, lt, inside, at))
    rises i j s t lt (inr last) (inr other) = let one = last.0 in let two = other.0 in absurd (omega (arith, lt, one, two))
