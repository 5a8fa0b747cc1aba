-- What a history comes to is read in a found world, where a search is whole.
use Rattle.std.proofs.Common.{◌≡◌, ℕ, zero, suc, ◌+◌, ◌<◌, ◌≤◌, Bool, true, false, ◌⊎◌, inl, inr, Some, List, [], ◌∷◌, ◌++◌, length, refl, ap, sym, ◌∙◌, arith}
use Rattle.std.proofs.lemmas.Bool.{and_parts}
use Rattle.std.specs.Prelude.{◌&&◌, not, slice_get}
use Rattle.l4_model.specs.Words.{GlobalId}
use Rattle.l4_model.specs.Machine.{Machine, Declaration}
use Rattle.l4_model.specs.World.{World, Thread, opening}
use Rattle.l4_model.specs.Conditions.{Found, found}
use Rattle.l4_model.specs.Steps.{Step, Local, Begin, Wait, Order}
use Rattle.l4_model.proofs.Chains.{bind_then, some_is}
use Rattle.l4_model.proofs.Inversions.{local_taken}
use Rattle.l4_model.proofs.Places.{known}
use Rattle.l4_worlds.specs.Timeless.{timeless}
use Rattle.l4_worlds.specs.Late.{next_late, run_late, no_ticks}
use Rattle.l4_worlds.specs.Histories.{IsTimed}
use Rattle.l4_worlds.specs.Bare.{bare}
use Rattle.l4_worlds.specs.Numberless.{numberless}
use Rattle.l4_worlds.proofs.LateWorlds.{timeless_twice}
use Rattle.l4_worlds.proofs.Reaching.{reached_late}
use Rattle.l4_first.specs.First.{stands_alone, GoesFirst, GoesBeside, GoesAnyway}
use Rattle.l4_first.proofs.First.{alone_anyway}
use Rattle.l4_explore.specs.Tries.{State}
use Rattle.l4_explore.specs.Search.{Seen, seen_at, IsExplored, IsFound}
use Rattle.l4_futures.specs.Inner.Asked.{TellsNoneApart}
use Rattle.l4_futures.specs.Inner.Search.{state_in, state_after}
use Rattle.l4_futures.proofs.Ways.{by_steps}
use Rattle.l4_forever.specs.Inner.Graph.{AreReached, IsWorldAt, StandsAt}
use Rattle.l4_forever.proofs.Passing.{Arrives, arrived, arrives, carried, length_middle}
use Rattle.l4_invariants.specs.Inner.Reads.{Reads, AreReadAlike, IsReadBy, goes_unseen, is_visible, run_is_visible}
use Rattle.l4_invariants.specs.Invariants.{IsNeverMet}
use Rattle.l4_invariants.specs.Inner.Searched.{AreWatched, IsNoneMet}
use Rattle.l4_invariants.proofs.Unseen.{unseen}
use Rattle.l4_invariants.proofs.Staying.{StaysBeside, local_beside}
use Rattle.l4_invariants.proofs.Going.{AllCome, OneComes, Goes, goes_on}

-- A step that goes unseen is told first, or beside the others, and goes unseen there too.

pub record GoesUnseen (m : Machine) (reads : Reads) (a z : World) (own : Step) (steps : List Step) : Type 0 where
  pub beside : GoesBeside m a z own steps
  pub alike : AreReadAlike m reads z beside.last

module _ (m : Machine) (timed : IsTimed m) (reads : Reads) where
  stands : (w : World) (own : Step) → goes_unseen m reads w own ≡ true → stands_alone m own ≡ true
  stands w own hidden = (and_parts (stands_alone m own) (not (is_visible m reads w own)) hidden).0

  still_unseen : (w z : World) (id : GlobalId) (t u : Found) → found m w id ≡ Some t → found m z id ≡ Some u →
      slice_get z.threads t.at ≡ Some t.now →
      goes_unseen m reads w (Local id) ≡ true → goes_unseen m reads z (Local id) ≡ true
  still_unseen w z id t u at_w at_z stays hidden =
      let k = known m w id t at_w in
      let l = known m z id u at_z in
      let place : t.at ≡ u.at = some_is t.at u.at (sym k.place ∙ l.place) in
      let declared : t.declared ≡ u.declared =
      some_is t.declared u.declared (sym k.declared ∙ ap (slice_get m.threads) place ∙ l.declared) in
      let now : t.now ≡ u.now = some_is t.now u.now (sym stays ∙ ap (slice_get z.threads) place ∙ l.now) in
      let same : run_is_visible reads (found m z id) ≡ run_is_visible reads (found m w id) =
      ap (run_is_visible reads) at_z
      ∙ ap (λ (x : Thread). run_is_visible reads (Some (record u { now = x }))) (sym now)
      ∙ ap (λ (d : Declaration). run_is_visible reads (Some (record u { declared = d; now = t.now }))) (sym declared)
      ∙ sym (ap (run_is_visible reads) at_w) in
      ap (λ b. stands_alone m (Local id) && not b) same ∙ hidden

  of_local : (h : List Step) (w a z : World) (id : GlobalId) (steps : List Step) →
      run_late m (opening m) h ≡ Some w → goes_unseen m reads w (Local id) ≡ true →
      next_late m w (Local id) ≡ Some a →
      run_late m w steps ≡ Some z → GoesFirst m a z (Local id) steps ⊎ GoesUnseen m reads a z (Local id) steps
  of_local h w a z id steps was hidden may leads =
      let k = local_taken m w a id may in
      by k.t k.found
      (local_beside m timed id (stands w (Local id) hidden) steps h w a z k.t was k.found may leads)
    where
      by : (t : Found) → found m w id ≡ Some t →
          GoesFirst m a z (Local id) steps ⊎ StaysBeside m a z (Local id) steps t.at t.now →
          GoesFirst m a z (Local id) steps ⊎ GoesUnseen m reads a z (Local id) steps
      by t is (inl first) = inl first
      by t is (inr beside) =
          let l = local_taken m z beside.beside.last id beside.beside.possible in
          inr (record {
            beside = beside.beside;
            alike =
                unseen m reads z beside.beside.last (Local id)
                (still_unseen w z id t l.t is l.found beside.stays hidden) beside.beside.possible;
          })

  unseen_beside : (a z : World) (own : Step) (steps : List Step) → goes_unseen m reads z own ≡ true →
      GoesAnyway m a z own steps → GoesFirst m a z own steps ⊎ GoesUnseen m reads a z own steps
  unseen_beside a z own steps hidden (inl first) = inl first
  unseen_beside a z own steps hidden (inr beside) =
      inr (record { beside = beside; alike = unseen m reads z beside.last own hidden beside.possible })

  pub unseen_anyway : (h : List Step) (w a z : World) (own : Step) (steps : List Step) →
      run_late m (opening m) h ≡ Some w → goes_unseen m reads w own ≡ true → next_late m w own ≡ Some a →
      run_late m w steps ≡ Some z → GoesFirst m a z own steps ⊎ GoesUnseen m reads a z own steps
  unseen_anyway h w a z own steps was hidden may leads = by own hidden may
    where
      by : (own : Step) → goes_unseen m reads w own ≡ true → next_late m w own ≡ Some a →
          GoesFirst m a z own steps ⊎ GoesUnseen m reads a z own steps
      by (Local id) hidden may = of_local h w a z id steps was hidden may leads
      by (Begin s) hidden may =
          unseen_beside a z (Begin s) steps hidden
          (alone_anyway m h w a z (Begin s) steps timed was (stands w (Begin s) hidden) may leads)
      by (Wait id) hidden may =
          unseen_beside a z (Wait id) steps hidden
          (alone_anyway m h w a z (Wait id) steps timed was (stands w (Wait id) hidden) may leads)
      by (Order caller target what) hidden may =
          unseen_beside a z (Order caller target what) steps hidden
          (alone_anyway m h w a z (Order caller target what) steps timed was
          (stands w (Order caller target what) hidden) may leads)
      by _ hidden may = cc

-- A found world where the condition is the same

pub record IsSeenAs (m : Machine) (found : List Seen) (condition : World → Bool) (z : World) : Type 0 where
  pub place : ℕ
  pub world : World
  pub at : IsWorldAt m found place world
  pub same : condition world ≡ condition z

module _ (m : Machine) (timed : IsTimed m) (reads : Reads) (condition : World → Bool)
    (tells : TellsNoneApart condition) (read : IsReadBy m reads condition) (found : List Seen)
    (reached : AreReached m found) (on : (i : ℕ) → i < length found → Goes m reads found i) where
  abbrev Finds : ℕ → Type 0
  Finds k =
      (i : ℕ) (steps : List Step) (w z : World) → length steps ≤ k → IsWorldAt m found i w → run_late m w steps ≡
      Some z → IsSeenAs m found condition z

  through : (z last : World) → condition last ≡ condition z → IsSeenAs m found condition last →
      IsSeenAs m found condition z
  through z last same s = record { place = s.place; world = s.world; at = s.at; same = s.same ∙ same }

  onward : (k : ℕ) → Finds k → (to : ℕ) (u z : World) (steps : List Step) → Arrives m found to u → length steps ≤ k →
      run_late m u steps ≡ Some z → IsSeenAs m found condition z
  onward k ih to u z steps a short leads =
      let c = carried m timed found reached to u z steps a leads in
      through z c.last (sym (tells z c.last c.good))
      (ih to c.more a.v c.last (omega (arith, short, c.as_many)) a.at c.leads)

  here : (i : ℕ) (w z : World) → IsWorldAt m found i w → run_late m w [] ≡ Some z → IsSeenAs m found condition z
  here i w z at leads = record { place = i; world = w; at = at; same = ap condition (some_is w z leads) }

  abbrev Later : (k d : ℕ) → Type 0
  Later k d =
      (to : ℕ) (more : List Step) (x y : World) → length found ≤ to + d → length more ≤ suc k → IsWorldAt m found to
      x → run_late m x more ≡ Some y → IsSeenAs m found condition y

  find_one : (k : ℕ) → Finds k → (d i : ℕ) (steps : List Step) (w z : World) → length found ≤ i + d →
      length steps ≤ suc k → IsWorldAt m found i w → run_late m w steps ≡ Some z → IsSeenAs m found condition z
  find_one k ih zero i steps w z room short at leads = absurd (omega (arith, room, at.inside))
  find_one k ih (suc d) i [] w z room short at leads = here i w z at leads
  find_one k ih (suc d) i (s ∷ steps) w z room short at leads =
      of (on i at.inside) (λ to more x y far long. find_one k ih d to more x y far long)
    where
      way : (g : Goes m reads found i) → Later k d → (one : OneComes m reads found i g.world) →
          GoesFirst m one.behind z one.step (s ∷ steps) ⊎ GoesUnseen m reads one.behind z one.step (s ∷ steps) →
          IsSeenAs m found condition z
      way g rest one (inl first) =
          let a = arrives m timed found reached i g.world one.behind one.step one.to g.at one.possible one.there in
          let as_many : length (s ∷ steps) ≡ suc (length (first.before ++ first.after)) =
          ap length first.is ∙ length_middle first.before first.after one.step in
          onward k ih one.to one.behind z (first.before ++ first.after) a (omega (arith, short, as_many)) first.leads
      way g rest one (inr aside) =
          let last = aside.beside.last in
          let a = arrives m timed found reached i g.world one.behind one.step one.to g.at one.possible one.there in
          let c = carried m timed found reached one.to one.behind last (s ∷ steps) a aside.beside.leads in
          through z last (sym (read z last aside.alike))
          (through last c.last (sym (tells last c.last c.good))
          (rest one.to c.more a.v c.last (omega (arith, room, one.later)) (omega (arith, short, c.as_many)) a.at
          c.leads))

      from : (g : Goes m reads found i) → Later k d → run_late m g.world (s ∷ steps) ≡ Some z →
          (AllCome m found i g.world ⊎ OneComes m reads found i g.world) → IsSeenAs m found condition z
      from g rest runs (inl all) =
          bind_then (next_late m g.world s) (λ u. run_late m u steps) z runs λ u goes more.
          let to = all s u goes in
          let a = arrives m timed found reached i g.world u s to.to g.at goes to.there in
          onward k ih to.to u z steps a (omega (arith, short)) more
      from g rest runs (inr one) =
          let x = by_steps m (seen_at found i).schedule (opening m) g.world g.at.leads in
          way g rest one
          (unseen_anyway m timed reads x.steps g.world one.behind z one.step (s ∷ steps) x.runs one.unseen one.possible
          runs)

      of : (g : Goes m reads found i) → Later k d → IsSeenAs m found condition z
      of g rest =
          let same : w ≡ g.world = some_is w g.world (sym at.leads ∙ g.at.leads) in
          from g rest (ap (λ x. run_late m x (s ∷ steps)) (sym same) ∙ leads) g.on

  find : (k : ℕ) → Finds k
  find zero i [] w z short at leads = here i w z at leads
  find zero i (s ∷ steps) w z short at leads = absurd (omega (arith, short))
  find (suc k) i steps w z short at leads = find_one k (find k) (length found) i steps w z (omega arith) short at leads

  pub found_as : (h : List Step) (z : World) (first : ℕ) → StandsAt m found (opening m) first →
      run_late m (opening m) h ≡ Some z → IsSeenAs m found condition z
  found_as h z first there leads =
      let a = arrived m timed found reached [] (opening m) first refl there in
      onward (length h) (find (length h)) first (opening m) z h a (omega arith) leads

-- No history meets what no found world meets.

pub without_time : (condition : World → Bool) → TellsNoneApart condition → (w : World) →
    condition (timeless w) ≡ condition w
without_time condition tells w = tells (timeless w) w (ap (λ x. numberless (bare x)) (timeless_twice w))

not_both : (b : Bool) → b ≡ false → b ≡ true → ⊥
not_both true e f = cc
not_both false e f = cc

-- Who is read in a found world does not meet what none of these meets.
none_meets : (m : Machine) (condition : World → Bool) (seen : List Seen) (z : World) → IsNoneMet m seen condition →
    IsSeenAs m seen condition z → condition z ≡ true → ⊥
none_meets m condition seen z none s holds =
    not_both (condition s.world) (none s.place s.world s.at) (s.same ∙ holds)

pub opening_found : (m : Machine) (found : List Seen) →
    ((state : State) → state_after m [] ≡ Some state → IsFound found state []) →
    (place : ℕ) × StandsAt m found (opening m) place
opening_found m found first =
    let f = first (state_in m (opening m)) refl in
    (f.place, record { inside = f.inside; is = sym f.is })

pub never_met : (m : Machine) (reads : Reads) (condition : World → Bool) (seen : List Seen) (depth : ℕ) → IsTimed m →
    TellsNoneApart condition → IsReadBy m reads condition →
    IsExplored (state_after m) (AreWatched m reads) seen depth true → IsNoneMet m seen condition → IsNeverMet m
    condition
never_met m reads condition seen depth timed tells read explored none h meets =
    let late = reached_late m meets.before meets.world meets.reaches in
    let first = opening_found m seen explored.all.opening in
    none_meets m condition seen (timeless meets.world) none
    (found_as m timed reads condition tells read seen explored.all.reached
    (λ i inside. goes_on m reads seen i inside (explored.gone_on i inside (inr refl)))
    (no_ticks meets.before) (timeless meets.world) first.0 first.1 late)
    (without_time condition tells meets.world ∙ meets.met)
