-- What a search has looked at, by whatever offers it goes on.
use Rattle.std.specs.Prelude.{map, slice_get}
use Rattle.std.proofs.Common.{◌≡◌, ℕ, ◌+◌, ◌-◌, ◌<◌, ◌≤◌, Bool, ◌⊎◌, inl, inr, Some, List, [], ◌∷◌, ◌++◌, length, refl, ap, sym, ◌∙◌, arith}
use Rattle.std.proofs.Math.ListN.{get_or-append}
use Rattle.std.proofs.Math.Nat.{eq-or-lt_of_le}
use Rattle.std.proofs.Math.Seq.{get_or-append_seam}
use Rattle.std.proofs.lemmas.Bool.{cases_lt}
use Rattle.std.proofs.lemmas.List.{length-append, length-map}
use Rattle.l4_model.specs.Machine.{Machine}
use Rattle.l4_model.specs.World.{World, opening}
use Rattle.l4_model.specs.History.{reached}
use Rattle.l4_worlds.specs.Histories.{IsTimed}
use Rattle.l4_explore.specs.Search.{Offers, Seen, unseen, seen_at, depth_of, IsExplored, IsCut, IsCutByStates}
use Rattle.l4_explore.proofs.Orders.{before_length}
use Rattle.l4_futures.specs.Choices.{world_after}
use Rattle.l4_futures.specs.Traces.{trace_along}
use Rattle.l4_futures.specs.Inner.Search.{state_in, state_after, schedules_of, traces_of}
use Rattle.l4_futures.specs.Endings.{length_of, AreWorlds, IsAsLong, IsWhole, IsCutByDepth, IsCutByWorlds}
use Rattle.l4_futures.proofs.Endings.{IsKnown, is_known, state_codes}
use Rattle.l4_futures.proofs.Kept.{state_led}
use Rattle.l4_futures.proofs.Listing.{IsOf, found_place, of_found}

as_they_are : (xs : List (List ℕ)) → map (λ s. s) xs ≡ xs
as_they_are [] = refl
as_they_are (x ∷ xs) = ap (λ ys. x ∷ ys) (as_they_are xs)

-- The schedule of what was found at a place, and what is found by a schedule.

pub schedule_at : (found : List Seen) (i : ℕ) → i < length found → slice_get (schedules_of found) i ≡ Some (seen_at found i).schedule
schedule_at found i l = ap (λ xs. slice_get xs i) (sym (as_they_are (schedules_of found))) ∙ found_place (λ s. s) found i l

pub found_by : (found : List Seen) (i : ℕ) (s : List ℕ) → slice_get (schedules_of found) i ≡ Some s → IsOf (λ s. s) found i s
found_by found i s at = of_found (λ s. s) found i s (ap (λ xs. slice_get xs i) (as_they_are (schedules_of found)) ∙ at)

-- States that were found, each by its schedule
record AreSeen (m : Machine) (seen : List Seen) (long : ℕ) : Type 0 where
  reached : (i : ℕ) → i < length seen → state_after m (seen_at seen i).schedule ≡ Some (seen_at seen i).state
  once : (i j : ℕ) → i < length seen → j < length seen → (seen_at seen i).state.code ≡ (seen_at seen j).state.code → i ≡ j
  near : (i : ℕ) → i < length seen → length (seen_at seen i).schedule ≤ long

module _ (m : Machine) (timed : IsTimed m) (seen : List Seen) (long : ℕ) (low : long ≤ 1000001) (are : AreSeen m seen long) where
  known_at : (i : ℕ) → i < length seen → IsKnown m (seen_at seen i)
  known_at i l = is_known m (seen_at seen i) timed (omega (arith, are.near i l, low)) (are.reached i l)

  are_worlds : AreWorlds m (traces_of m seen) long
  are_worlds = record {
    reach = λ i h at.
        let f = of_found (trace_along m) seen i h at in
        let k = known_at i f.inside in
        (k.led.world, ap (reached m) (sym f.is) ∙ k.led.reaches);
    apart = λ i j h other w v at_h at_other at_w at_v good.
        let f = of_found (trace_along m) seen i h at_h in
        let g = of_found (trace_along m) seen j other at_other in
        are.once i j f.inside g.inside
        (state_codes m timed (seen_at seen i) (seen_at seen j) (known_at i f.inside) (known_at j g.inside) w v
        (ap (reached m) f.is ∙ at_w) (ap (reached m) g.is ∙ at_v) good);
    near = λ i h at.
        let f = of_found (trace_along m) seen i h at in
        let k = known_at i f.inside in
        omega (arith, ap length_of (sym f.is) ∙ k.led.long, are.near i f.inside);
  }

  as_long : (i : ℕ) → i < length seen → IsAsLong (traces_of m seen) (length (seen_at seen i).schedule)
  as_long i l = record {
    place = i;
    history = trace_along m (seen_at seen i).schedule;
    at = found_place (trace_along m) seen i l;
    is = (known_at i l).led.long;
  }

-- One state more

below_or_last : (n i : ℕ) → i < n + 1 → (i < n) ⊎ (i ≡ n)
below_or_last n i l = elim (cases_lt i n) [ inl less ↦ inl less | inr le ↦ inr (omega arith) ]

module _ (m : Machine) (seen : List Seen) (one : Seen) (long : ℕ) (are : AreSeen m seen long)
    (leads : state_after m one.schedule ≡ Some one.state) (short : length one.schedule ≤ long)
    (new : (i : ℕ) → i < length seen → (seen_at seen i).state.code ≡ one.state.code → ⊥) where
  more : List Seen
  more = seen ++ one ∷ []

  old : (i : ℕ) → i < length seen → seen_at (seen ++ one ∷ []) i ≡ seen_at seen i
  old i l = get_or-append seen (one ∷ []) unseen i l

  last : (i : ℕ) → i ≡ length seen → seen_at (seen ++ one ∷ []) i ≡ one
  last i e = ap (seen_at (seen ++ one ∷ [])) e ∙ get_or-append_seam seen one [] unseen

  where_is : (i : ℕ) → i < length (seen ++ one ∷ []) → (i < length seen) ⊎ (i ≡ length seen)
  where_is i l = below_or_last (length seen) i (omega (arith, l, length-append seen (one ∷ [])))

  one_more_seen : AreSeen m (seen ++ one ∷ []) long
  one_more_seen = record {
    reached = λ i l. reached_at i (where_is i l);
    once = λ i j l k e. once_at i j (where_is i l) (where_is j k) e;
    near = λ i l. near_at i (where_is i l);
  }
    where
      reached_at : (i : ℕ) → (i < length seen) ⊎ (i ≡ length seen) → state_after m (seen_at (seen ++ one ∷ []) i).schedule ≡ Some (seen_at (seen ++ one ∷ []) i).state
      reached_at i (inl l) = rw (old i l) (are.reached i l)
      reached_at i (inr e) = rw (last i e) leads

      near_at : (i : ℕ) → (i < length seen) ⊎ (i ≡ length seen) → length (seen_at (seen ++ one ∷ []) i).schedule ≤ long
      near_at i (inl l) = rw (old i l) (are.near i l)
      near_at i (inr e) = rw (last i e) short

      code_of_old : (i : ℕ) (l : i < length seen) → (seen_at (seen ++ one ∷ []) i).state.code ≡ (seen_at seen i).state.code
      code_of_old i l = ap (λ (s : Seen). s.state.code) (old i l)

      code_of_last : (i : ℕ) → i ≡ length seen → (seen_at (seen ++ one ∷ []) i).state.code ≡ one.state.code
      code_of_last i e = ap (λ (s : Seen). s.state.code) (last i e)

      once_at : (i j : ℕ) → (i < length seen) ⊎ (i ≡ length seen) → (j < length seen) ⊎ (j ≡ length seen) →
          (seen_at (seen ++ one ∷ []) i).state.code ≡ (seen_at (seen ++ one ∷ []) j).state.code → i ≡ j
      once_at i j (inl l) (inl k) e = are.once i j l k (sym (code_of_old i l) ∙ e ∙ code_of_old j k)
      once_at i j (inl l) (inr k) e = absurd (new i l (sym (code_of_old i l) ∙ e ∙ code_of_last j k))
      once_at i j (inr l) (inl k) e = absurd (new j k (sym (code_of_old j k) ∙ sym e ∙ code_of_last i l))
      once_at i j (inr l) (inr k) e = l ∙ sym k

module _ (m : Machine) (timed : IsTimed m) (found : List Seen) (asked most depth : ℕ) (is_whole : Bool)
    (low : depth ≤ 1000000) (offers : Offers) (ex : IsExplored (state_after m) offers found depth is_whole) where
  within : (long : ℕ) → ((i : ℕ) → i < length found → length (seen_at found i).schedule ≤ long) → AreSeen m found long
  within long near = record { reached = ex.all.reached; once = ex.all.once; near = near }

  all_near : AreSeen m found (depth + 1)
  all_near = within (depth + 1) ex.near

  some : 0 < length found
  some = let o = ex.all.opening (state_in m (opening m)) refl in omega (arith, o.inside)

  -- None is longer than the last one.
  no_longer : (i : ℕ) → i < length found → length (seen_at found i).schedule ≤ depth_of found
  no_longer i l = by (eq-or-lt_of_le {n = i} {m = length found - 1} (omega arith))
    where
      by : (i ≡ length found - 1) ⊎ (i < length found - 1) → length (seen_at found i).schedule ≤ depth_of found
      by (inl e) = let same = ap (λ j. length (seen_at found j).schedule) e in omega (arith, same)
      by (inr less) = before_length (seen_at found i).schedule (seen_at found (length found - 1)).schedule (ex.all.rising i (length found - 1) less (omega arith))

  last_long : IsAsLong (traces_of m found) (depth_of found)
  last_long = as_long m timed found (depth + 1) (omega arith) all_near (length found - 1) (omega (arith, some))

  pub lead : (i : ℕ) (schedule : List ℕ) → slice_get (schedules_of found) i ≡ Some schedule → (w : World) × (world_after m schedule ≡ Some w)
  lead i schedule at =
      let f = found_by found i schedule at in
      let x = state_led m (seen_at found i).schedule (seen_at found i).state (ex.all.reached i f.inside) in
      (x.0, ap (world_after m) (sym f.is) ∙ x.1)

  by_depth : depth ≡ asked → depth_of found ≡ asked → IsCutByDepth (traces_of m found) asked depth
  by_depth all deep = record {
    all = all;
    deep = record {
      place = last_long.place;
      history = last_long.history;
      at = last_long.at;
      is = last_long.is ∙ deep;
    };
  }

  by_worlds : IsCutByStates (state_after m) offers found asked most depth → IsCutByWorlds m (length found) asked most depth
  by_worlds cut =
      let s = cut.stopped in
      let one : Seen = record { state = s.one_more.state; schedule = (seen_at found cut.place).schedule ++ s.one_more.entry ∷ [] } in
      let short : length one.schedule ≤ depth + 1 = omega (arith, cut.far, length-append (seen_at found cut.place).schedule (s.one_more.entry ∷ [])) in
      record {
        shallow = cut.shallow;
        full = cut.full;
        more = traces_of m (found ++ one ∷ []);
        one_more = length-map (schedules_of (found ++ one ∷ [])) (trace_along m) ∙ length-map (found ++ one ∷ []) (λ (s : Seen). s.schedule) ∙ length-append found (one ∷ []) ∙ omega (arith, cut.full);
        are = are_worlds m timed (found ++ one ∷ []) (depth + 1) (omega arith) (one_more_seen m found one (depth + 1) all_near s.leads short s.new);
      }

  pub cut_by : IsCut (state_after m) offers found asked most depth → IsCutByDepth (traces_of m found) asked depth ⊎ IsCutByWorlds m (length found) asked most depth
  cut_by (inl d) = inl (by_depth d.all d.deep)
  cut_by (inr s) = inr (by_worlds s)

  pub are_found : AreWorlds m (traces_of m found) (depth + 1)
  are_found = are_worlds m timed found (depth + 1) (omega arith) all_near

  pub by_whole : (depth ≡ depth_of found) × (depth < asked) → IsWhole m (traces_of m found) asked depth
  by_whole w =
      let near = within depth (λ i l. omega (arith, no_longer i l, w.0)) in
      record {
        shallow = w.1;
        are = are_worlds m timed found depth (omega arith) near;
        deep = record {
          place = last_long.place;
          history = last_long.history;
          at = last_long.at;
          is = last_long.is ∙ sym w.0;
        };
      }
