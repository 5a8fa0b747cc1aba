-- Endings: replays of found schedules, and facts of those at rest by facts of all that was found.
use Rattle.std.proofs.Common.{◌≡◌, ℕ, zero, suc, ◌+◌, ◌<◌, ◌≤◌, Bool, true, false, cond, Option, Some, None, List, [], ◌∷◌, length, map, refl, ap, ◌∙◌, arith}
use Rattle.std.specs.Prelude.{filter, slice_index_or}
use Rattle.std.specs.Option.{option_map}
use Rattle.std.specs.List.{AllByRecursion}
use Rattle.std.proofs.lemmas.List.{length-append, length-map}
use Rattle.l4_model.specs.Machine.{Machine}
use Rattle.l4_model.specs.Conditions.{◌>>=◌}
use Rattle.l4_model.proofs.Chains.{some_is, bind_then}
use Rattle.l4_core_model.specs.Runs.{System, Action, Happened, happens, Run, then_event}
use Rattle.l4_core_model.specs.Schedules.{or_stays, Entry, entry_event, replays}
use Rattle.l4_bisimilar.specs.Shifted.{IsShifted}
use Rattle.l4_explore.specs.Search.{Seen, seen_at, unseen}
use Rattle.l4_states.specs.Choices.{after_choices, after_entry, choice}
use Rattle.l4_states.specs.Endings.{AreApart, ends_of, entries_of, IsAmong, led}

-- A replay of choices leads where they do, by an event for each.
pub record IsReplayed (m : Machine) (r : Run) (g : System) (s : List ℕ) : Type 0 where
  pub system : (replays m r (entries_of m s)).system ≡ g
  pub count : length (replays m r (entries_of m s)).events ≡ length r.events + length s

pub replayed : (m : Machine) (s : List ℕ) (r : Run) (g : System) →
    after_choices m r.system s ≡ Some g → IsReplayed m r g s
replayed m [] r g h = record { system = some_is r.system g h; count = omega arith }
replayed m (e ∷ s) r g h =
    bind_then (after_entry m r.system (choice m e)) _ g h λ k is more.
    bind_then (entry_event m r.system (choice m e)) _ k is λ action from then.
    one_more k action from more (happens m r.system action) refl then
    (λ x same. replayed m s (then_event r x) g
    (ap (λ (j : System). after_choices m j s) same ∙ more))
  where
    one_more : (k : System) (action : Action) →
        entry_event m r.system (choice m e) ≡ Some action → after_choices m k s ≡ Some g →
        (o : Option Happened) → happens m r.system action ≡ o →
        option_map (λ x. x.system) o ≡ Some k →
        ((x : Happened) → x.system ≡ k → IsReplayed m (then_event r x) g s) →
        IsReplayed m r g (e ∷ s)
    one_more k action from more None at is rest = cc
    one_more k action from more (Some x) at is rest =
        let goes = rest x (some_is x.system k is) in
        let next : or_stays r (entry_event m r.system (choice m e) >>= happens m r.system)
        ≡ then_event r x
        = ap (λ (o : Option Action). or_stays r (o >>= happens m r.system)) from
        ∙ ap (or_stays r) at in
        record {
          system = ap (λ (t : Run). (replays m t (entries_of m s)).system) next ∙ goes.system;
          count = ap (λ (t : Run). length (replays m t (entries_of m s)).events) next ∙ goes.count
              ∙ omega (arith, length-append r.events (x.event ∷ []));
        }

-- A fact of all elements of a list, by their places
pub all_places : {A : Type 0} (P : A → Type 0) (d : A) (xs : List A) →
    ((i : ℕ) → i < length xs → P (slice_index_or xs i d)) → AllByRecursion P xs
all_places P d [] h = tt
all_places P d (x ∷ xs) h =
    (h 0 (omega arith), all_places P d xs (λ i l. h (suc i) (omega (arith, l))))

module _ (m : Machine) where
  -- What is so of each end is so of its entries.
  pub all_ends : (P : List Entry → Type 0) (found : List Seen) →
      AllByRecursion (λ s. s.state.is_end ≡ true → P (entries_of m s.schedule)) found →
      AllByRecursion P (map (entries_of m) (ends_of found))
  all_ends P [] h = tt
  all_ends P (x ∷ xs) h = by x.state.is_end refl (all_ends P xs h.1)
    where
      by : (b : Bool) → x.state.is_end ≡ b →
          AllByRecursion P (map (entries_of m) (ends_of xs)) →
          AllByRecursion P (map (entries_of m) (map (λ (s : Seen). s.schedule)
          (cond b (x ∷ filter (λ s. s.state.is_end) xs) (filter (λ s. s.state.is_end) xs))))
      by true is rest = (h.0 is, rest)
      by false is rest = rest

  -- An end that was found is among them.
  pub among : (found : List Seen) (g : System) (i : ℕ) → i < length found →
      (seen_at found i).state.is_end ≡ true →
      IsShifted (led m (entries_of m (seen_at found i).schedule)) g →
      IsAmong m (map (entries_of m) (ends_of found)) g
  among [] g i inside is similar = absurd (omega (arith, inside))
  among (x ∷ xs) g zero inside is similar = by x.state.is_end is
    where
      by : (b : Bool) → b ≡ true →
          IsAmong m (map (entries_of m) (map (λ (s : Seen). s.schedule)
          (cond b (x ∷ filter (λ s. s.state.is_end) xs) (filter (λ s. s.state.is_end) xs)))) g
      by true e = record { place = 0; inside = omega arith; similar = similar }
      by false e = cc
  among (x ∷ xs) g (suc i) inside is similar =
      by x.state.is_end (among xs g i (omega (arith, inside)) is similar)
    where
      by : (b : Bool) → IsAmong m (map (entries_of m) (ends_of xs)) g →
          IsAmong m (map (entries_of m) (map (λ (s : Seen). s.schedule)
          (cond b (x ∷ filter (λ s. s.state.is_end) xs) (filter (λ s. s.state.is_end) xs)))) g
      by true a = record {
        place = suc a.place;
        inside = omega (arith, a.inside);
        similar = a.similar;
      }
      by false a = a

  -- States that were found, by their schedules
  abbrev pub AreUnlike : Seen → Seen → Type 0
  AreUnlike x y =
      (IsShifted (led m (entries_of m x.schedule)) (led m (entries_of m y.schedule)) → ⊥)
      × (length x.schedule ≤ length y.schedule)

  pub all_unlike : (found : List Seen) →
      ((i j : ℕ) → i < j → j < length found → AreUnlike (seen_at found i) (seen_at found j)) →
      AreApart m (map (entries_of m) (ends_of found))
  all_unlike [] h = tt
  all_unlike (x ∷ xs) h =
      by x.state.is_end (all_unlike xs (λ i j l k. h (suc i) (suc j) (omega (arith, l))
      (omega (arith, k))))
    where
      all : AllByRecursion (λ (f : List Entry).
          (IsShifted (led m (entries_of m x.schedule)) (led m f) → ⊥)
          × (length (entries_of m x.schedule) ≤ length f)) (map (entries_of m) (ends_of xs))
      all = all_ends (λ (f : List Entry).
          (IsShifted (led m (entries_of m x.schedule)) (led m f) → ⊥)
          × (length (entries_of m x.schedule) ≤ length f)) xs
          (all_places (λ s. s.state.is_end ≡ true →
          (IsShifted (led m (entries_of m x.schedule)) (led m (entries_of m s.schedule)) → ⊥)
          × (length (entries_of m x.schedule) ≤ length (entries_of m s.schedule))) unseen xs
          (λ j l is. let u = h 0 (suc j) (omega arith) (omega (arith, l)) in (
            u.0,
            omega (
              arith,
              u.1,
              length-map x.schedule (choice m),
              length-map (seen_at xs j).schedule (choice m),
            ),
          )))

      by : (b : Bool) → AreApart m (map (entries_of m) (ends_of xs)) →
          AreApart m (map (entries_of m) (map (λ (s : Seen). s.schedule)
          (cond b (x ∷ filter (λ s. s.state.is_end) xs) (filter (λ s. s.state.is_end) xs))))
      by true rest = (all, rest)
      by false rest = rest
