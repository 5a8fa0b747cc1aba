-- The choices that are tried lead on, by rising entries.
use Rattle.std.proofs.Common.{subst, ◌≡◌, ℕ, zero, suc, ◌+◌, ◌<◌, ◌≤◌, inl, inr, Bool, true, false, cond, Option, Some, None, List, [], ◌∷◌, ◌++◌, length, map, take, refl, ap, sym, ◌∙◌, arith}
use Rattle.std.proofs.lemmas.List.{take_more, map-append}
use Rattle.std.specs.Prelude.{is_some, find, filter, filter_map, get_or, min, IsSome}
use Rattle.std.specs.List.{range_with_len, cons_option, AllByRecursion}
use Rattle.std.specs.Option.{option_map}
use Rattle.l4_model.specs.Machine.{Machine}
use Rattle.l4_model.specs.World.{World, opening}
use Rattle.l4_model.specs.Conditions.{◌>>=◌}
use Rattle.l4_model.proofs.Chains.{bind_then, guard_then, some_is}
use Rattle.l4_explore.specs.Tries.{State, Next, LeadOn, AreCoded, deepest}
use Rattle.l4_explore.specs.Search.{Seen, Offers, seen_at, depth_of, IsCut, IsExplored}
use Rattle.l4_explore.specs.Inner.Views.{next_from}
use Rattle.l4_explore.specs.declared.tries.Choice.{Choice as Found}
use Rattle.l4_first.specs.First.{stands_alone}
use Rattle.l4_worlds.specs.Late.{next_late}
use Rattle.l4_futures.specs.Choices.{Choice, choice_at, step_at, entry_count, possible, tried, after_entry, after_entries, world_after}
use Rattle.l4_worlds.specs.Histories.{IsTimed}
use Rattle.l4_futures.proofs.Kept.{one_more, schedules, state_led}
use Rattle.l4_outlooks.specs.Inner.Foreseen.{Foreseen, IsBehind, IsLed}
use Rattle.l4_outlooks.proofs.Leading.{led as more_led}
use Rattle.l4_futures.specs.Inner.Search.{state_in, state_after, next_by, nexts, ends_of, AreTried}
use Rattle.l4_all_endings.specs.Tried.{next_at, nexts_at, entries_of, AreLed, AreOpen, LeadsToWorld}

-- They lead on.

lead_weaker : (f : List ℕ → Option State) (s : List ℕ) (a b : ℕ) (xs : List Next) → a ≤ b → LeadOn f s b xs → LeadOn f s a xs
lead_weaker f s a b [] le l = tt
lead_weaker f s a b (n ∷ ns) le l = (record { later = let later = l.0.later in omega (arith, le, later); leads = l.0.leads }, l.1)

module _ (m : Machine) (s : List ℕ) (w : World) (is : world_after m s ≡ Some w) where
  -- By a choice of entry `a`, and then by these
  lead_first : (a : ℕ) (c : Choice) (xs : List Next) → c.entry ≡ a → LeadOn (state_after m) s (a + 1) xs → LeadOn (state_after m) s a (cons_option (next_by m w c) xs)
  lead_first a c xs same rest = by (after_entry m w c.entry) refl
    where
      by : (o : Option World) → after_entry m w c.entry ≡ o → LeadOn (state_after m) s a (cons_option (option_map (λ v. record { entry = c.entry; state = state_in m v }) o) xs)
      by None none = lead_weaker (state_after m) s a (a + 1) xs (omega arith) rest
      by (Some v) goes = (
        record {
          later = omega (arith, same);
          leads = ap (option_map (state_in m)) (one_more m s c.entry (opening m) w v is goes);
        },
        subst (λ k. LeadOn (state_after m) s (k + 1) xs) (sym same) rest,
      )

  entry_is : (e : ℕ) (c : Choice) → choice_at m w e ≡ Some c → c.entry ≡ e
  entry_is e c at =
      bind_then (step_at m w e) _ c at λ step names rest.
      guard_then (is_some (next_late m w step)) _ c rest λ goes rest.
      ap (λ (x : Choice). x.entry) (sym (some_is _ c rest))

  lead_range : (n a : ℕ) → LeadOn (state_after m) s a (filter_map (next_by m w) (filter_map (choice_at m w) (range_with_len a n)))
  lead_range zero a = tt
  lead_range (suc n) a = by (choice_at m w a) refl (lead_range n (a + 1))
    where
      by : (o : Option Choice) → choice_at m w a ≡ o → LeadOn (state_after m) s (a + 1) (filter_map (next_by m w) (filter_map (choice_at m w) (range_with_len (a + 1) n))) →
          LeadOn (state_after m) s a (filter_map (next_by m w) (cons_option o (filter_map (choice_at m w) (range_with_len (a + 1) n))))
      by None none rest = lead_weaker (state_after m) s a (a + 1) _ (omega arith) rest
      by (Some c) at rest = lead_first a c _ (entry_is a c at) rest

  pub all_lead : LeadOn (state_after m) s 0 (filter_map (next_by m w) (possible m w))
  all_lead = lead_range (entry_count m w) 0

  pub nexts_lead : LeadOn (state_after m) s 0 (nexts m w)
  nexts_lead = by (find (λ c. stands_alone m c.step) (possible m w)) refl
    where
      by : (o : Option Choice) → find (λ c. stands_alone m c.step) (possible m w) ≡ o → LeadOn (state_after m) s 0 (nexts m w)
      by None none = rw none (lead_range (entry_count m w) 0)
      by (Some own) one = rw one (lead_weaker (state_after m) s 0 own.entry _ (omega arith) (lead_first own.entry own [] refl tt))

-- By entries as by choices

pub by_entries : (m : Machine) (w : World) (cs : List Choice) → filter_map (next_by m w) cs ≡ nexts_at m w (entries_of cs)
by_entries m w [] = refl
by_entries m w (c ∷ cs) = ap (cons_option (next_by m w c)) (by_entries m w cs)

-- What is tried is possible.

choice_open : (m : Machine) (w : World) (e : ℕ) (c : Choice) → choice_at m w e ≡ Some c → IsSome (after_entry m w c.entry)
choice_open m w e c at =
    bind_then (step_at m w e) _ c at λ step names rest.
    guard_then (is_some (next_late m w step)) _ c rest λ goes rest.
    subst (λ (x : Choice). IsSome (after_entry m w x.entry)) (some_is _ c rest)
    (subst IsSome (sym (ap (λ o. o >>= next_late m w) names)) goes)

abbrev AreAllOpen : Machine → World → List Choice → Type 0
AreAllOpen m w cs = AllByRecursion (λ (c : Choice). IsSome (after_entry m w c.entry)) cs

listed_open : (m : Machine) (w : World) (xs : List ℕ) → AreAllOpen m w (filter_map (choice_at m w) xs)
listed_open m w [] = tt
listed_open m w (x ∷ xs) = by (choice_at m w x) refl (listed_open m w xs)
  where
    by : (o : Option Choice) → choice_at m w x ≡ o → AreAllOpen m w (filter_map (choice_at m w) xs) → AreAllOpen m w (cons_option o (filter_map (choice_at m w) xs))
    by None at rest = rest
    by (Some c) at rest = (choice_open m w x c at, rest)

find_open : (m : Machine) (w : World) (p : Choice → Bool) (cs : List Choice) (c : Choice) → AreAllOpen m w cs → find p cs ≡ Some c → IsSome (after_entry m w c.entry)
find_open m w p [] c all found = cc
find_open m w p (x ∷ cs) c all found = by (p x) found (λ rest. find_open m w p cs c all.1 rest)
  where
    by : (b : Bool) → cond b (Some x) (find p cs) ≡ Some c → (find p cs ≡ Some c → IsSome (after_entry m w c.entry)) → IsSome (after_entry m w c.entry)
    by true here rest = subst (λ (y : Choice). IsSome (after_entry m w y.entry)) (some_is x c here) all.0
    by false found rest = rest found

entries_open : (m : Machine) (w : World) (cs : List Choice) → AreAllOpen m w cs → AreOpen m w (entries_of cs)
entries_open m w [] all = tt
entries_open m w (c ∷ cs) all = (all.0, entries_open m w cs all.1)

pub tried_open : (m : Machine) (w : World) → AreOpen m w (entries_of (tried m w))
tried_open m w = by (find (λ c. stands_alone m c.step) (possible m w)) refl
  where
    all : AreAllOpen m w (possible m w)
    all = listed_open m w (range_with_len 0 (entry_count m w))

    by : (o : Option Choice) → find (λ c. stands_alone m c.step) (possible m w) ≡ o → AreOpen m w (entries_of (tried m w))
    by None none = rw none (entries_open m w (possible m w) all)
    by (Some own) one = rw one (find_open m w (λ c. stands_alone m c.step) (possible m w) own all one, tt)

pub possible_open : (m : Machine) (w : World) → AreOpen m w (entries_of (possible m w))
possible_open m w = entries_open m w (possible m w) (listed_open m w (range_with_len 0 (entry_count m w)))

-- One entry after the other

pub open_at : (m : Machine) (w : World) (entries : List ℕ) (i : ℕ) → i < length entries → AreOpen m w entries → IsSome (after_entry m w (get_or entries i 0))
open_at m w [] i inside all = absurd (omega (arith, inside))
open_at m w (e ∷ es) zero inside all = all.0
open_at m w (e ∷ es) (suc i) inside all = open_at m w es i (omega (arith, inside)) all.1

pub nexts-append : (m : Machine) (w : World) (xs : List ℕ) (e : ℕ) (n : Next) → next_at m w e ≡ Some n → nexts_at m w (xs ++ e ∷ []) ≡ nexts_at m w xs ++ n ∷ []
nexts-append m w [] e n is = ap (λ o. cons_option o []) is
nexts-append m w (x ∷ xs) e n is = by (next_at m w x) (nexts-append m w xs e n is)
  where
    by : (o : Option Next) → nexts_at m w (xs ++ e ∷ []) ≡ nexts_at m w xs ++ n ∷ [] → cons_option o (nexts_at m w (xs ++ e ∷ [])) ≡ cons_option o (nexts_at m w xs) ++ n ∷ []
    by None rest = rest
    by (Some y) rest = ap (λ ys. y ∷ ys) rest

-- States of worlds with equal codes are equal.
pub coded : (m : Machine) → IsTimed m → AreCoded (state_after m)
coded m timed = (schedules m timed).coded

-- The world that entries lead to, one entry after the other

on_way : (m : Machine) (entries : List ℕ) (u w v : World) (i : ℕ) → i < length entries → after_entries m u (take i entries) ≡ Some w → after_entries m u entries ≡ Some v → IsSome (after_entry m w (get_or entries i 0))
on_way m [] u w v i inside led is = absurd (omega (arith, inside))
on_way m (e ∷ es) u w v zero inside led is =
    bind_then (after_entry m u e) (λ y. after_entries m y es) v is λ y first rest.
    subst (λ x. IsSome (after_entry m x e)) (some_is u w led) (subst IsSome (sym first) refl)
on_way m (e ∷ es) u w v (suc i) inside led is =
    bind_then (after_entry m u e) (λ y. after_entries m y es) v is λ y first rest.
    let on : after_entries m y (take i es) ≡ Some w = sym (ap (λ o. o >>= λ z. after_entries m z (take i es)) first) ∙ led in
    on_way m es y w v i (omega (arith, inside)) on rest

pub one_led : (m : Machine) (entries : List ℕ) (i e : ℕ) (o p : Foreseen) → i < length entries → e ≡ get_or entries i 0 → IsLed m (take i entries) o → IsBehind o e p → IsLed m (take (i + 1) entries) p
one_led m entries i e o p inside is led behind =
    subst (λ es. IsLed m es p) (sym (take_more entries i 0 inside ∙ ap (λ k. take i entries ++ k ∷ []) (sym is)))
    (more_led m (take i entries) e o p led behind)

-- An entry among those that lead to a world is possible where it stands.
pub open_on_way : (m : Machine) (entries : List ℕ) (i : ℕ) (o : Foreseen) → i < length entries → IsSome (world_after m entries) → IsLed m (take i entries) o → IsSome (after_entry o.machine o.world (get_or entries i 0))
open_on_way m entries i o inside leads led = by (world_after m entries) refl
  where
    by : (r : Option World) → world_after m entries ≡ r → IsSome (after_entry o.machine o.world (get_or entries i 0))
    by None none = let no : IsSome {T = World} None = subst IsSome none leads in cc
    by (Some v) is =
        subst (λ n. IsSome (after_entry n o.world (get_or entries i 0))) (sym led.machine)
        (on_way m entries (opening m) o.world v i inside led.leads is)

-- The first of them lead to a world too.

first_lead : (m : Machine) (entries : List ℕ) (u : World) (i : ℕ) → IsSome (after_entries m u entries) → IsSome (after_entries m u (take i entries))
first_lead m [] u zero leads = refl
first_lead m [] u (suc i) leads = refl
first_lead m (e ∷ es) u zero leads = refl
first_lead m (e ∷ es) u (suc i) leads = by (after_entry m u e) (λ y. first_lead m es y i) leads
  where
    by : (o : Option World) → ((y : World) → IsSome (after_entries m y es) → IsSome (after_entries m y (take i es))) → IsSome (o >>= λ y. after_entries m y es) → IsSome (o >>= λ y. after_entries m y (take i es))
    by None rest leads = leads
    by (Some y) rest leads = rest y leads

pub leads_before : (m : Machine) (entries : List ℕ) (i : ℕ) → IsSome (world_after m entries) → IsSome (world_after m (take i entries))
leads_before m entries i leads = first_lead m entries (opening m) i leads

-- Among several

pub open_before : (m : Machine) (w : World) (others rest : List ℕ) (i : ℕ) → i < length others → AreOpen m w (others ++ rest) → IsSome (after_entry m w (get_or others i 0))
open_before m w [] rest i inside all = absurd (omega (arith, inside))
open_before m w (e ∷ es) rest zero inside all = all.0
open_before m w (e ∷ es) rest (suc i) inside all = open_before m w es rest i (omega (arith, inside)) all.1

pub open_last : (m : Machine) (w : World) (others : List ℕ) (last : ℕ) → AreOpen m w (others ++ last ∷ []) → IsSome (after_entry m w last)
open_last m w [] last all = all.0
open_last m w (e ∷ es) last all = open_last m w es last all.1

-- One state more
pub one_next : (m : Machine) (w : World) (others : List ℕ) (i e : ℕ) (old new : List Found) (choice : Found) → i < length others → e ≡ get_or others i 0 → next_at m w e ≡ Some (next_from choice) → new ≡ old ++ choice ∷ [] →
    map next_from old ≡ nexts_at m w (take i others) → map next_from new ≡ nexts_at m w (take (i + 1) others)
one_next m w others i e old new choice inside is goes same before =
    ap (map next_from) same ∙ map-append next_from old (choice ∷ [])
    ∙ ap (λ ns. ns ++ next_from choice ∷ []) before
    ∙ sym (nexts-append m w (take i others) e (next_from choice) goes)
    ∙ ap (nexts_at m w) (sym (take_more others i 0 inside ∙ ap (λ k. take i others ++ k ∷ []) (sym is)))

pub last_next : (m : Machine) (w : World) (tried others : List ℕ) (last : ℕ) (old new : List Found) (choice : Found) → tried ≡ others ++ last ∷ [] → next_at m w last ≡ Some (next_from choice) → new ≡ old ++ choice ∷ [] →
    map next_from old ≡ nexts_at m w others → map next_from new ≡ nexts_at m w tried
last_next m w tried others last old new choice is goes same before =
    ap (map next_from) same ∙ map-append next_from old (choice ∷ [])
    ∙ ap (λ ns. ns ++ next_from choice ∷ []) before
    ∙ sym (nexts-append m w others last (next_from choice) goes)
    ∙ ap (nexts_at m w) (sym is)

-- How deep a search went
pub low : (f : List ℕ → Option State) (offers : Offers) (found : List Seen) (asked most depth : ℕ) (is_whole : Bool) → asked ≤ deepest → (is_whole ≡ true → (depth ≡ depth_of found) × (depth < asked)) →
    (is_whole ≡ false → IsCut f offers found (min asked deepest) most depth) → depth ≤ deepest
low f offers found asked most depth true few whole cut = let w = (whole refl).1 in omega (arith, w, few)
low f offers found asked most depth false few whole cut = by (cut refl)
  where
    by : IsCut f offers found (min asked deepest) most depth → depth ≤ deepest
    by (inl d) = let all = d.all in omega (arith, all)
    by (inr s) = let shallow = s.shallow in omega (arith, shallow)

-- Each found schedule leads to a world.

all_led : (m : Machine) (found : List Seen) → ((i : ℕ) → i < length found → LeadsToWorld m (seen_at found i).schedule) → AreLed m (ends_of found)
all_led m [] each = tt
all_led m (s ∷ ss) each = by s.state.is_end (all_led m ss (λ i inside. each (suc i) (omega (arith, inside))))
  where
    by : (b : Bool) → AreLed m (ends_of ss) → AreLed m (map (λ (x : Seen). x.schedule) (cond b (s ∷ filter (λ (x : Seen). x.state.is_end) ss) (filter (λ (x : Seen). x.state.is_end) ss)))
    by true rest = (each 0 (omega arith), rest)
    by false rest = rest

pub ends_led : (m : Machine) (found : List Seen) (depth : ℕ) (is_whole : Bool) → depth ≤ deepest → IsExplored (state_after m) (AreTried m) found depth is_whole → AreLed m (ends_of found)
ends_led m found depth is_whole few explored = all_led m found each
  where
    each : (i : ℕ) → i < length found → LeadsToWorld m (seen_at found i).schedule
    each i inside =
        let led = state_led m (seen_at found i).schedule (seen_at found i).state (explored.all.reached i inside) in
        let near = explored.near i inside in
        record { leads = subst IsSome (sym led.1) refl; few = omega (arith, near, few) }
