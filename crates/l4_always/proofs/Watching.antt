-- The choices of a search for a world that meets a condition.
use Rattle.std.proofs.Common.{◌≡◌, ℕ, zero, suc, ◌<◌, Bool, true, false, ◌⊎◌, inl, inr, Option, Some, None, List, [], ◌∷◌, ◌++◌, length, get_or, refl, ap, sym, subst, ◌∙◌, arith}
use Rattle.std.specs.Prelude.{IsSome, filter_map, is_some, not, slice_get}
use Rattle.std.specs.List.{cons_option, range_with_len}
use Rattle.std.specs.Option.{option_map}
use Rattle.l4_model.specs.Machine.{Machine}
use Rattle.l4_model.specs.World.{World, opening}
use Rattle.l4_model.specs.Conditions.{◌>>=◌, ◌>>◌}
use Rattle.l4_model.specs.Steps.{Step}
use Rattle.l4_model.proofs.Chains.{bind_then, guard_then, some_is}
use Rattle.l4_worlds.specs.Late.{next_late}
use Rattle.l4_explore.specs.Tries.{LeadOn, Next, State}
use Rattle.l4_explore.specs.Search.{Seen, has_code}
use Rattle.l4_futures.specs.Choices.{Choice, after_entry, choice_at, entry_count, possible, step_at, world_after}
use Rattle.l4_futures.specs.Inner.Search.{state_after, state_in}
use Rattle.l4_futures.proofs.Kept.{one_more}
use Rattle.l4_forever.specs.Inner.Walks.{all_nexts}
use Rattle.l4_invariants.specs.Inner.Reads.{Reads, goes_unseen}
use Rattle.l4_invariants.specs.Inner.Searched.{AreAllTried, AreWatched, IsLone}
use Rattle.l4_outlooks.specs.Inner.Named.{open_step}
use Rattle.l4_all_endings.specs.Tried.{entries_of, next_at}
use Rattle.l4_all_endings.proofs.Leading.{all_lead}
use Rattle.l4_always.specs.Inner.Unseen.{AreAllAfter, AreWatchedAfter, IsUnseenBy}

abbrev one : (entry : ℕ) → Step → Choice
one entry step = record { entry = entry; step = step }

-- An entry whose step is possible

pub choice_of : (m : Machine) (w : World) (entry : ℕ) (step : Step) → open_step m w entry ≡ Some step → choice_at m w entry ≡ Some (one entry step)
choice_of m w entry step h = by (step_at m w entry) h
  where
    by : (o : Option Step) → (o >>= λ step. is_some (next_late m w step) >> Some step) ≡ Some step →
        (o >>= λ step. is_some (next_late m w step) >> Some (one entry step)) ≡ Some (one entry step)
    by None h = cc
    by (Some other) h = with (is_some (next_late m w other)) h
      where
        with : (b : Bool) → (b >> Some other) ≡ Some step → (b >> Some (one entry other)) ≡ Some (one entry step)
        with true h = ap (λ s. Some (one entry s)) (some_is other step h)
        with false h = cc

pub is_open : (m : Machine) (w : World) (entry : ℕ) (step : Step) → open_step m w entry ≡ Some step → IsSome (after_entry m w entry)
is_open m w entry step h =
    bind_then (step_at m w entry) _ step h λ other names rest.
    guard_then (is_some (next_late m w other)) _ step rest λ goes rest.
    subst IsSome (sym (ap (λ o. o >>= next_late m w) names)) goes

pub unseen_by : (m : Machine) (reads : Reads) (w : World) (entry : ℕ) (step : Step) (next : Next) → open_step m w entry ≡ Some step → goes_unseen m reads w step ≡ true → next_at m w entry ≡ Some next →
    IsUnseenBy m reads w entry next
unseen_by m reads w entry step next names hidden leads = record { step = step; is = choice_of m w entry step names; unseen = hidden; leads = leads }

-- Each possible choice is the one of its entry.

own_entry : (m : Machine) (w : World) (e : ℕ) (c : Choice) → choice_at m w e ≡ Some c → choice_at m w c.entry ≡ Some c
own_entry m w e c at =
    bind_then (step_at m w e) _ c at λ step names rest.
    guard_then (is_some (next_late m w step)) _ c rest λ goes rest.
    ap (λ (x : Choice). choice_at m w x.entry) (sym (some_is (one e step) c rest)) ∙ at

abbrev AreOwn : Machine → World → List Choice → Type 0
AreOwn m w cs = (i : ℕ) (c : Choice) → slice_get cs i ≡ Some c → choice_at m w c.entry ≡ Some c

listed : (m : Machine) (w : World) (xs : List ℕ) → AreOwn m w (filter_map (choice_at m w) xs)
listed m w [] = λ i c at. cc
listed m w (x ∷ xs) = by (choice_at m w x) refl (listed m w xs)
  where
    by : (o : Option Choice) → choice_at m w x ≡ o → AreOwn m w (filter_map (choice_at m w) xs) → AreOwn m w (cons_option o (filter_map (choice_at m w) xs))
    by None is rest = rest
    by (Some d) is rest = each
      where
        each : AreOwn m w (d ∷ filter_map (choice_at m w) xs)
        each zero c at = subst (λ (y : Choice). choice_at m w y.entry ≡ Some y) (some_is d c at) (own_entry m w x d is)
        each (suc i) c at = rest i c at

pub possible_own : (m : Machine) (w : World) → AreOwn m w (possible m w)
possible_own m w = listed m w (range_with_len 0 (entry_count m w))

entry_at : (cs : List Choice) (i d : ℕ) → i < length cs → (c : Choice) × (slice_get cs i ≡ Some c) × (c.entry ≡ get_or (entries_of cs) i d)
entry_at [] i d lt = absurd (omega (arith, lt))
entry_at (c ∷ cs) zero d lt = (c, refl, refl)
entry_at (c ∷ cs) (suc i) d lt = entry_at cs i d (omega (arith, lt))

length-entries : (cs : List Choice) → length (entries_of cs) ≡ length cs
length-entries [] = refl
length-entries (c ∷ cs) = ap suc (length-entries cs)

-- A choice that goes unseen, and that leads to a later state, is one alone.
pub lone : (m : Machine) (reads : Reads) (before : List Seen) (seen : Seen) (w : World) (all : List ℕ) (i d entry : ℕ) (next : Next) → all ≡ entries_of (possible m w) → i < length all →
    entry ≡ get_or all i d → IsUnseenBy m reads w entry next → has_code (before ++ seen ∷ []) next.state.code ≡ false → IsLone m reads before seen w (next ∷ [])
lone m reads before seen w all i d entry next are lt at u later =
    let c = entry_at (possible m w) i d (omega (arith, lt, ap length are, length-entries (possible m w))) in
    let same : c.0.entry ≡ entry = c.2 ∙ ap (λ xs. get_or xs i d) (sym are) ∙ sym at in
    let is : c.0 ≡ one entry u.step = some_is c.0 (one entry u.step) (sym (possible_own m w i c.0 c.1) ∙ ap (choice_at m w) same ∙ u.is) in
    record {
      place = i;
      choice = c.0;
      is_possible = c.1;
      unseen = ap (λ (x : Choice). goes_unseen m reads w x.step) is ∙ u.unseen;
      next = next;
      leads = ap (next_at m w) same ∙ u.leads;
      fresh = ap not later;
      are = refl;
    }

-- The choices lead on, whichever they are.

lone_leads : (m : Machine) (reads : Reads) (before : List Seen) (seen : Seen) (s : List ℕ) (w : World) (choices : List Next) → world_after m s ≡ Some w → IsLone m reads before seen w choices → LeadOn (state_after m) s 0 choices
lone_leads m reads before seen s w choices leads l = subst (LeadOn (state_after m) s 0) (sym l.are) (by (after_entry m w l.choice.entry) refl l.leads)
  where
    by : (o : Option World) → after_entry m w l.choice.entry ≡ o → option_map (λ v. record { entry = l.choice.entry; state = state_in m v }) o ≡ Some l.next → LeadOn (state_after m) s 0 (l.next ∷ [])
    by None is none = cc
    by (Some v) is some = (
      record {
        later = omega arith;
        leads = ap (λ (n : Next). state_after m (s ++ n.entry ∷ [])) (sym (some_is _ l.next some))
            ∙ ap (option_map (state_in m)) (one_more m s l.choice.entry (opening m) w v leads is)
            ∙ ap (λ (n : Next). Some n.state) (some_is _ l.next some);
      },
      tt,
    )

pub watched_lead : (m : Machine) (reads : Reads) (before : List Seen) (seen : Seen) (schedule : List ℕ) (choices : List Next) → AreWatchedAfter m reads before seen schedule choices → LeadOn (state_after m) schedule 0 choices
watched_lead m reads before seen schedule choices x = by x.are
  where
    by : ((choices ≡ all_nexts m x.world) ⊎ IsLone m reads before seen x.world choices) → LeadOn (state_after m) schedule 0 choices
    by (inl all) = subst (LeadOn (state_after m) schedule 0) (sym all) (all_lead m schedule x.world x.leads)
    by (inr l) = lone_leads m reads before seen schedule x.world choices x.leads l

pub all_tried_lead : (m : Machine) (schedule : List ℕ) (choices : List Next) → AreAllAfter m schedule choices → LeadOn (state_after m) schedule 0 choices
all_tried_lead m schedule choices x = subst (LeadOn (state_after m) schedule 0) (sym x.are) (all_lead m schedule x.world x.leads)

-- They are those of the state.

some_state : (m : Machine) (state : State) (o : Option World) (w : World) → o ≡ Some w → option_map (state_in m) o ≡ Some state → state_in m w ≡ state
some_state m state None w is at = cc
some_state m state (Some v) w is at = ap (state_in m) (sym (some_is v w is)) ∙ some_is (state_in m v) state at

pub watched : (m : Machine) (reads : Reads) (before : List Seen) (seen : Seen) (schedule : List ℕ) (choices : List Next) → schedule ≡ seen.schedule → state_after m seen.schedule ≡ Some seen.state →
    AreWatchedAfter m reads before seen schedule choices → AreWatched m reads before seen choices
watched m reads before seen schedule choices same reached x =
    let leads : world_after m seen.schedule ≡ Some x.world = ap (world_after m) (sym same) ∙ x.leads in
    record { world = x.world; leads = leads; is = some_state m seen.state (world_after m seen.schedule) x.world leads reached; are = x.are }

pub all_tried : (m : Machine) (before : List Seen) (seen : Seen) (schedule : List ℕ) (choices : List Next) → schedule ≡ seen.schedule → state_after m seen.schedule ≡ Some seen.state →
    AreAllAfter m schedule choices → AreAllTried m before seen choices
all_tried m before seen schedule choices same reached x =
    let leads : world_after m seen.schedule ≡ Some x.world = ap (world_after m) (sym same) ∙ x.leads in
    record { world = x.world; leads = leads; is = some_state m seen.state (world_after m seen.schedule) x.world leads reached; are = x.are }
