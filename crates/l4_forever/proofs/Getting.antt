-- Where a thread is stuck for ever, a whole search finds a place where it is.
use Rattle.std.proofs.Common.{◌≡◌, ℕ, zero, suc, ◌+◌, ◌<◌, ◌≤◌, Bool, true, false, ◌⊎◌, inl, inr, Some, List, [], ◌∷◌, ◌++◌, length, refl, ap, sym, subst, ◌∙◌, arith}
use Rattle.l4_model.specs.Machine.{Machine}
use Rattle.l4_model.specs.World.{World, opening}
use Rattle.l4_model.specs.Conditions.{◌>>=◌}
use Rattle.l4_model.specs.Steps.{Step}
use Rattle.l4_model.proofs.Chains.{bind_then, some_is}
use Rattle.l4_worlds.specs.Timeless.{timeless}
use Rattle.l4_worlds.specs.Late.{next_late, run_late, no_ticks}
use Rattle.l4_worlds.specs.Histories.{IsTimed}
use Rattle.l4_worlds.specs.Bare.{AreAsGood}
use Rattle.l4_worlds.proofs.LateFutures.{late_futures}
use Rattle.l4_worlds.proofs.Reaching.{reached_late}
use Rattle.l4_first.specs.First.{GoesAnyway}
use Rattle.l4_first.proofs.First.{alone_anyway}
use Rattle.l4_explore.specs.Search.{Seen, seen_at}
use Rattle.l4_futures.proofs.Ways.{by_steps, run_late-append}
use Rattle.l4_forever.specs.Waits.{wait_at, is_waiting}
use Rattle.l4_forever.specs.Forever.{WaitsForEver, IsStuckForEver}
use Rattle.l4_forever.specs.Inner.Graph.{AreReached, AllGo, IsGraph, IsGoneOn, IsWorldAt, OneGoes}
use Rattle.l4_forever.specs.Moves.{moves_at, AreJustified, IsNeverStuck, MayMove}
use Rattle.l4_forever.specs.declared.edges.Edge.{Edge}
use Rattle.l4_forever.proofs.Waiting.{wait_good}
use Rattle.l4_forever.proofs.Passing.{Arrives, Carried, arrived, arrives, carried, length_middle}

-- Who waits for ever does so in each world as good, and in each later one.

good_too : (m : Machine) → IsTimed m → (thread : ℕ) (g h : List Step) (z v : World) → run_late m (opening m) g ≡ Some z → run_late m (opening m) h ≡ Some v → AreAsGood z v → WaitsForEver m z thread → WaitsForEver m v thread
good_too m timed thread g h z v at_z at_v good e =
    record {
      waits = ap is_waiting (sym (wait_good z v thread good)) ∙ e.waits;
      stays = λ steps u leads.
          let f = late_futures m steps h g v z u timed at_v at_z (sym good) leads in
          wait_good u f.after thread f.as_good ∙ e.stays f.more f.after f.leads_to ∙ wait_good z v thread good;
    }

later_too : (m : Machine) (thread : ℕ) (z v : World) (s : Step) → next_late m z s ≡ Some v → WaitsForEver m z thread → WaitsForEver m v thread
later_too m thread z v s goes e =
    let one : wait_at v thread ≡ wait_at z thread = e.stays (s ∷ []) v (ap (λ o. o >>= λ x. Some x) goes) in
    record {
      waits = ap is_waiting one ∙ e.waits;
      stays = λ steps u leads. e.stays (s ∷ steps) u (ap (λ o. o >>= λ x. run_late m x steps) goes ∙ leads) ∙ sym one;
    }

record Stands (m : Machine) (found : List Seen) (thread : ℕ) : Type 0 where
  place : ℕ
  world : World
  at : IsWorldAt m found place world
  for_ever : WaitsForEver m world thread

module _ (m : Machine) (timed : IsTimed m) (found : List Seen) (edges : List Edge) (thread : ℕ)
    (reached : AreReached m found) (on : (i : ℕ) → i < length found → IsGoneOn m found edges i) where
  abbrev Gets : ℕ → Type 0
  Gets k = (i : ℕ) (steps : List Step) (w z : World) → length steps ≤ k → IsWorldAt m found i w → run_late m w steps ≡ Some z → WaitsForEver m z thread → Stands m found thread

  there_too : (to : ℕ) (u z : World) (steps : List Step) (a : Arrives m found to u) → run_late m u steps ≡ Some z → (c : Carried m a.v steps z) → WaitsForEver m z thread → WaitsForEver m c.last thread
  there_too to u z steps a leads c e =
      let x = by_steps m a.entries (opening m) u a.led in
      let y = by_steps m (seen_at found to).schedule (opening m) a.v a.at.leads in
      good_too m timed thread (x.steps ++ steps) (y.steps ++ c.more) z c.last
      (run_late-append m x.steps steps (opening m) u z x.runs leads)
      (run_late-append m y.steps c.more (opening m) a.v c.last y.runs c.leads)
      c.good e

  onward : (k : ℕ) → Gets k → (to : ℕ) (u z : World) (steps : List Step) → Arrives m found to u → length steps ≤ k → run_late m u steps ≡ Some z → WaitsForEver m z thread → Stands m found thread
  onward k ih to u z steps a short leads e =
      let c = carried m timed found reached to u z steps a leads in
      ih to c.more a.v c.last (omega (arith, short, c.as_many)) a.at c.leads (there_too to u z steps a leads c e)

  here : (i : ℕ) (w z : World) → IsWorldAt m found i w → run_late m w [] ≡ Some z → WaitsForEver m z thread → Stands m found thread
  here i w z at leads e = record { place = i; world = w; at = at; for_ever = subst (λ x. WaitsForEver m x thread) (sym (some_is w z leads)) e }

  abbrev Later : (k d : ℕ) → Type 0
  Later k d = (to : ℕ) (more : List Step) (x y : World) → length found ≤ to + d → length more ≤ suc k → IsWorldAt m found to x → run_late m x more ≡ Some y → WaitsForEver m y thread → Stands m found thread

  get_one : (k : ℕ) → Gets k → (d i : ℕ) (steps : List Step) (w z : World) → length found ≤ i + d → length steps ≤ suc k → IsWorldAt m found i w → run_late m w steps ≡ Some z → WaitsForEver m z thread → Stands m found thread
  get_one k ih zero i steps w z room short at leads e = absurd (omega (arith, room, at.inside))
  get_one k ih (suc d) i [] w z room short at leads e = here i w z at leads e
  get_one k ih (suc d) i (s ∷ steps) w z room short at leads e =
      of (on i at.inside) (λ to more x y far long. get_one k ih d to more x y far long)
    where
      way : (h : IsGoneOn m found edges i) → Later k d → (one : OneGoes m found edges i h.world) → GoesAnyway m one.behind z one.step (s ∷ steps) → Stands m found thread
      way h rest one (inl first) =
          let a = arrives m timed found reached i h.world one.behind one.step one.goes.to h.at one.possible one.goes.there in
          let as_many : length (s ∷ steps) ≡ suc (length (first.before ++ first.after)) = ap length first.is ∙ length_middle first.before first.after one.step in
          onward k ih one.goes.to one.behind z (first.before ++ first.after) a (omega (arith, short, as_many)) first.leads e
      way h rest one (inr beside) =
          let a = arrives m timed found reached i h.world one.behind one.step one.goes.to h.at one.possible one.goes.there in
          let c = carried m timed found reached one.goes.to one.behind beside.last (s ∷ steps) a beside.leads in
          rest one.goes.to c.more a.v c.last (omega (arith, room, one.later)) (omega (arith, short, c.as_many)) a.at c.leads
          (there_too one.goes.to one.behind beside.last (s ∷ steps) a beside.leads c (later_too m thread z beside.last one.step beside.possible e))

      from : (h : IsGoneOn m found edges i) → Later k d → run_late m h.world (s ∷ steps) ≡ Some z → (AllGo m found edges i h.world ⊎ OneGoes m found edges i h.world) → Stands m found thread
      from h rest runs (inl all) =
          bind_then (next_late m h.world s) (λ u. run_late m u steps) z runs λ u goes more.
          let to = all s u goes in
          let a = arrives m timed found reached i h.world u s to.to h.at goes to.there in
          onward k ih to.to u z steps a (omega (arith, short)) more e
      from h rest runs (inr one) =
          let x = by_steps m (seen_at found i).schedule (opening m) h.world h.at.leads in
          way h rest one (alone_anyway m x.steps h.world one.behind z one.step (s ∷ steps) timed x.runs one.alone one.possible runs)

      of : (h : IsGoneOn m found edges i) → Later k d → Stands m found thread
      of h rest =
          let same : w ≡ h.world = some_is w h.world (sym at.leads ∙ h.at.leads) in
          from h rest (ap (λ x. run_late m x (s ∷ steps)) (sym same) ∙ leads) h.goes

  get : (k : ℕ) → Gets k
  get zero i [] w z short at leads e = here i w z at leads e
  get zero i (s ∷ steps) w z short at leads e = absurd (omega (arith, short))
  get (suc k) i steps w z short at leads e = get_one k (get k) (length found) i steps w z (omega arith) short at leads e

not_both : (b : Bool) → b ≡ false → b ≡ true → ⊥
not_both true e f = cc
not_both false e f = cc

pub never : (m : Machine) (found : List Seen) (edges : List Edge) (thread : ℕ) (moves : List Bool) → IsTimed m → AreReached m found → IsGraph m found edges → AreJustified m found thread moves →
    ((place : ℕ) → moves_at moves place ≡ true) → IsNeverStuck m thread
never m found edges thread moves timed reached graph just all h stuck =
    let late = reached_late m h stuck.world stuck.reaches in
    let a = arrived m timed found reached [] (opening m) graph.first refl graph.opening in
    by (onward m timed found edges thread reached graph.gone_on (length (no_ticks h)) (get m timed found edges thread reached graph.gone_on (length (no_ticks h))) graph.first (opening m) (timeless stuck.world) (no_ticks h) a (omega arith) late stuck.for_ever)
  where
    moved : (s : Stands m found thread) → MayMove m s.world thread → ⊥
    moved s (inl rests) = not_both (is_waiting (wait_at s.world thread)) rests s.for_ever.waits
    moved s (inr goes) = goes.moved (s.for_ever.stays goes.steps goes.last goes.leads)

    by : Stands m found thread → ⊥
    by s = moved s (just s.place s.world s.at (all s.place))
