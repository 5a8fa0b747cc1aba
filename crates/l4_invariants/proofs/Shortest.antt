-- The history of a found world, and a shortest one where all that is possible was tried.
use Rattle.std.proofs.Common.{◌≡◌, ℕ, zero, suc, ◌+◌, ◌<◌, ◌≤◌, Bool, true, false, ◌⊎◌, inl, inr, Some, List, [], ◌∷◌, ◌++◌, length, refl, ap, sym, ◌∙◌, arith}
use Rattle.std.proofs.lemmas.Bool.{cases_lt}
use Rattle.std.proofs.lemmas.List.{length-append}
use Rattle.l4_model.specs.Machine.{Machine}
use Rattle.l4_model.specs.World.{World, opening}
use Rattle.l4_model.specs.Steps.{Step}
use Rattle.l4_model.proofs.Chains.{bind_then, some_is}
use Rattle.l4_worlds.specs.Timeless.{timeless}
use Rattle.l4_worlds.specs.Late.{next_late, run_late, no_ticks}
use Rattle.l4_worlds.specs.Histories.{IsTimed}
use Rattle.l4_worlds.proofs.Reaching.{reached_late, without_append}
use Rattle.l4_explore.specs.Tries.{State, deepest}
use Rattle.l4_explore.specs.Search.{Seen, seen_at, IsExplored, IsFound, IsGoneOn}
use Rattle.l4_explore.proofs.Orders.{not_after_length}
use Rattle.l4_futures.specs.Choices.{world_after}
use Rattle.l4_futures.specs.Endings.{length_of}
use Rattle.l4_futures.specs.Inner.Asked.{TellsNoneApart}
use Rattle.l4_futures.specs.Inner.Search.{state_after, state_in}
use Rattle.l4_futures.specs.Traces.{trace_along}
use Rattle.l4_futures.proofs.Led.{is_led}
use Rattle.l4_forever.specs.Inner.Graph.{AreReached, IsWorldAt}
use Rattle.l4_forever.proofs.Passing.{arrived, arrives, carried}
use Rattle.l4_invariants.specs.Invariants.{Meets, MeetsAtLast, IsNotMetWithin, IsShortest}
use Rattle.l4_invariants.specs.Inner.Searched.{AreAllTried, IsFirstMet, IsNoneMet}
use Rattle.l4_invariants.proofs.Going.{AllCome, all_come}
use Rattle.l4_invariants.proofs.Finding.{without_time}

-- The history of entries that lead to a world meets what the world meets.

pub met : (m : Machine) (condition : World → Bool) (entries : List ℕ) (w : World) → IsTimed m →
    TellsNoneApart condition → length entries ≤ 1000001 → world_after m entries ≡ Some w → condition w ≡ true →
    MeetsAtLast m condition (trace_along m entries)
met m condition entries w timed tells short leads holds =
    let l = is_led m entries w timed short leads in
    record {
      world = l.world;
      reaches = l.reaches;
      met = sym (without_time condition tells l.world) ∙ ap condition l.alike ∙ holds;
    }

-- Where all that is possible was tried, each world is found by no more steps than lead to it.

pub record IsNear (m : Machine) (found : List Seen) (condition : World → Bool) (z : World) (long : ℕ) : Type 0 where
  pub place : ℕ
  pub world : World
  pub at : IsWorldAt m found place world
  pub same : condition world ≡ condition z
  pub near : length (seen_at found place).schedule ≤ long

pub record GoesAll (m : Machine) (found : List Seen) (place : ℕ) : Type 0 where
  pub world : World
  pub at : IsWorldAt m found place world
  pub all : AllCome m found place world

module _ (m : Machine) (timed : IsTimed m) (condition : World → Bool) (tells : TellsNoneApart condition)
    (found : List Seen) (reached : AreReached m found) (depth : ℕ)
    (on : (i : ℕ) → i < length found → length (seen_at found i).schedule < depth → GoesAll m found i) where
  nearer : (z last : World) (long more : ℕ) → condition last ≡ condition z → IsNear m found condition last long →
      long ≤ more → IsNear m found condition z more
  nearer z last long more same n less =
      record { place = n.place; world = n.world; at = n.at; same = n.same ∙ same; near = omega (arith, n.near, less) }

  nearest : (k i : ℕ) (steps : List Step) (w z : World) → length steps ≤ k →
      length (seen_at found i).schedule + length steps ≤ depth → IsWorldAt m found i w → run_late m w steps ≡ Some z →
      IsNear m found condition z (length (seen_at found i).schedule + length steps)
  nearest k i [] w z short room at leads =
      record { place = i; world = w; at = at; same = ap condition (some_is w z leads); near = omega arith }
  nearest zero i (s ∷ steps) w z short room at leads = absurd (omega (arith, short))
  nearest (suc k) i (s ∷ steps) w z short room at leads =
      of (on i at.inside (omega (arith, room)))
      (λ j more x y less deep there runs. nearest k j more x y less deep there runs)
    where
      of : (g : GoesAll m found i) →
          ((j : ℕ) (more : List Step) (x y : World) → length more ≤ k →
          length (seen_at found j).schedule + length more ≤ depth → IsWorldAt m found j x → run_late m x more ≡ Some y →
          IsNear m found condition y (length (seen_at found j).schedule + length more)) →
          IsNear m found condition z (length (seen_at found i).schedule + length (s ∷ steps))
      of g rest =
          let same : w ≡ g.world = some_is w g.world (sym at.leads ∙ g.at.leads) in
          bind_then (next_late m g.world s) (λ u. run_late m u steps) z
          (ap (λ x. run_late m x (s ∷ steps)) (sym same) ∙ leads) λ u goes more.
          let to = g.all s u goes in
          let a = arrives m timed found reached i g.world u s to.to g.at goes to.there in
          let c = carried m timed found reached to.to u z steps a more in
          let n =
          rest to.to c.more a.v c.last (omega (arith, short, c.as_many)) (omega (arith, room, to.near, c.as_many))
          a.at c.leads in
          nearer z c.last (length (seen_at found to.to).schedule + length c.more)
          (length (seen_at found i).schedule + length (s ∷ steps)) (sym (tells z c.last c.good)) n
          (omega (arith, to.near, c.as_many))

  pub near_as : (h : List Step) (z : World) → length h ≤ depth →
      ((state : State) → state_after m [] ≡ Some state → IsFound found state []) → run_late m (opening m) h ≡ Some z →
      IsNear m found condition z (length h)
  near_as h z short first leads =
      let f = first (state_in m (opening m)) refl in
      let none : length (seen_at found f.place).schedule ≤ 0 =
      not_after_length (seen_at found f.place).schedule [] f.early in
      let a = arrived m timed found reached [] (opening m) f.place refl (record { inside = f.inside; is = sym f.is }) in
      let c = carried m timed found reached f.place (opening m) z h a leads in
      let n =
      nearest (length c.more) f.place c.more a.v c.last (omega arith) (omega (arith, none, short, c.as_many)) a.at
      c.leads in
      nearer z c.last (length (seen_at found f.place).schedule + length c.more) (length h)
      (sym (tells z c.last c.good)) n (omega (arith, none, c.as_many))

not_both : (b : Bool) → b ≡ false → b ≡ true → ⊥
not_both true e f = cc
not_both false e f = cc

-- What lies on the way of a history is not longer than it.
beginning : (before after : List Step) → length_of before ≤ length_of (before ++ after)
beginning before after =
    omega (arith, ap length (without_append before after), length-append (no_ticks before) (no_ticks after))

module _ (m : Machine) (condition : World → Bool) (seen : List Seen) (depth : ℕ) (is_whole : Bool) (timed : IsTimed m)
    (tells : TellsNoneApart condition) (explored : IsExplored (state_after m) (AreAllTried m) seen depth is_whole) where
  goes_all : (i : ℕ) → i < length seen → length (seen_at seen i).schedule < depth → GoesAll m seen i
  goes_all i inside short = by (explored.gone_on i inside (inl short))
    where
      by : IsGoneOn (AreAllTried m) seen i → GoesAll m seen i
      by s = record {
        world = s.offered.world;
        at = record { inside = inside; leads = s.offered.leads };
        all = all_come m seen i s.offered.world s.choices s.offered.are s.all_met;
      }

  near_met : (h : List Step) → (meets : Meets m condition h) → length_of h ≤ depth →
      IsNear m seen condition (timeless meets.world) (length_of meets.before)
  near_met h meets short =
      let on_the_way = beginning meets.before meets.after in
      near_as m timed condition tells seen explored.all.reached depth goes_all (no_ticks meets.before)
      (timeless meets.world)
      (omega (arith, on_the_way, ap length_of meets.is, short)) explored.all.opening
      (reached_late m meets.before meets.world meets.reaches)

  pub not_met_within : IsNoneMet m seen condition → IsNotMetWithin m condition depth
  not_met_within none h short meets =
      let n = near_met h meets short in
      not_both (condition n.world) (none n.place n.world n.at)
      (n.same ∙ without_time condition tells meets.world ∙ meets.met)

  pub shortest : (place : ℕ) → depth ≤ deepest → IsFirstMet m seen condition place →
      IsShortest m condition (trace_along m (seen_at seen place).schedule)
  shortest place low first = record {
    meets = met m condition (seen_at seen place).schedule first.world timed tells short first.at.leads first.met;
    least = λ other meets. by other meets (cases_lt depth (length_of other));
  }
    where
      short : length (seen_at seen place).schedule ≤ 1000001
      short = omega (arith, low, explored.near place first.at.inside)

      long : length_of (trace_along m (seen_at seen place).schedule) ≡ length (seen_at seen place).schedule
      long = (is_led m (seen_at seen place).schedule first.world timed short first.at.leads).long

      by : (other : List Step) (meets : Meets m condition other) →
          (depth < length_of other) ⊎ (length_of other ≤ depth) →
          length_of (trace_along m (seen_at seen place).schedule) ≤ length_of other
      by other meets (inl far) = omega (arith, long, far, explored.near place first.at.inside)
      by other meets (inr within) =
          let n = near_met other meets within in
          let least =
          first.first n.place n.world n.at (n.same ∙ without_time condition tells meets.world ∙ meets.met) in
          let on_the_way = beginning meets.before meets.after in
          omega (arith, long, least, n.near, on_the_way, ap length_of meets.is)
