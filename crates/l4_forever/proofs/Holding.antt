-- A thread that stands still at a place of a graph waits for ever there.
use Rattle.std.proofs.Common.{◌≡◌, ℕ, zero, suc, ◌+◌, ◌<◌, ◌≤◌, Bool, true, false, ◌⊎◌, inl, inr, Some, List, [], ◌∷◌, ◌++◌, length, refl, ap, sym, subst, ◌∙◌, arith}
use Rattle.l4_model.specs.Machine.{Machine}
use Rattle.l4_model.specs.World.{World, opening}
use Rattle.l4_model.specs.Steps.{Step}
use Rattle.l4_model.proofs.Chains.{bind_then, some_is}
use Rattle.l4_worlds.specs.Late.{next_late, run_late}
use Rattle.l4_worlds.specs.Histories.{IsTimed}
use Rattle.l4_first.specs.First.{GoesAnyway}
use Rattle.l4_first.proofs.First.{alone_anyway}
use Rattle.l4_explore.specs.Search.{Seen, seen_at}
use Rattle.l4_futures.proofs.Ways.{by_steps}
use Rattle.l4_forever.specs.Waits.{wait_at, is_waiting}
use Rattle.l4_forever.specs.Forever.{WaitsForEver}
use Rattle.l4_forever.specs.Inner.Graph.{AreReached, AllGo, HasEdge, IsWorldAt, OneGoes}
use Rattle.l4_forever.specs.Moves.{moves_at, HoldsAt, StandsStill}
use Rattle.l4_forever.specs.declared.edges.Edge.{Edge}
use Rattle.l4_forever.proofs.Waiting.{wait_good, own_keeps}
use Rattle.l4_forever.proofs.Passing.{Arrives, arrives, carried, length_middle}

module _ (m : Machine) (timed : IsTimed m) (found : List Seen) (edges : List Edge) (thread : ℕ)
    (moves : List Bool) (reached : AreReached m found)
    (still : StandsStill m found edges thread moves) where
  abbrev Keeps : ℕ → List Step → World → World → Type 0
  Keeps i steps w v = moves_at moves i ≡ false → IsWorldAt m found i w → run_late m w steps ≡ Some v → wait_at v thread ≡ wait_at w thread

  abbrev Holds : ℕ → Type 0
  Holds k = (i : ℕ) (steps : List Step) (w v : World) → length steps ≤ k → Keeps i steps w v

  onward : (k : ℕ) → Holds k → (i to : ℕ) (u z : World) (steps : List Step) (h : HoldsAt m found edges thread moves i) → HasEdge edges i to → Arrives m found to u → length steps ≤ k → run_late m u steps ≡ Some z → wait_at z thread ≡ wait_at h.on.world thread
  onward k ih i to u z steps h edge a short leads =
      let c = carried m timed found reached to u z steps a leads in
      wait_good z c.last thread c.good
      ∙ ih to c.more a.v c.last (omega (arith, short, c.as_many)) (h.stays to edge) a.at c.leads
      ∙ h.same to a.v edge a.at

  abbrev Later : (k d : ℕ) → Type 0
  Later k d = (to : ℕ) (more : List Step) (x y : World) → length found ≤ to + d → length more ≤ suc k → Keeps to more x y

  hold_one : (k : ℕ) → Holds k → (d i : ℕ) (steps : List Step) (w v : World) → length found ≤ i + d → length steps ≤ suc k → Keeps i steps w v
  hold_one k ih zero i steps w v room short free at leads = absurd (omega (arith, room, at.inside))
  hold_one k ih (suc d) i [] w v room short free at leads = ap (λ x. wait_at x thread) (sym (some_is w v leads))
  hold_one k ih (suc d) i (s ∷ steps) w v room short free at leads =
      of (still i free) (λ to more x y far long. hold_one k ih d to more x y far long)
    where
      way : (h : HoldsAt m found edges thread moves i) → Later k d → (one : OneGoes m found edges i h.on.world) → run_late m h.on.world (s ∷ steps) ≡ Some v → GoesAnyway m one.behind v one.step (s ∷ steps) → wait_at v thread ≡ wait_at h.on.world thread
      way h rest one runs (inl first) =
          let a = arrives m timed found reached i h.on.world one.behind one.step one.goes.to h.on.at one.possible one.goes.there in
          let as_many : length (s ∷ steps) ≡ suc (length (first.before ++ first.after)) = ap length first.is ∙ length_middle first.before first.after one.step in
          onward k ih i one.goes.to one.behind v (first.before ++ first.after) h one.goes.edge a (omega (arith, short, as_many)) first.leads
      way h rest one runs (inr beside) =
          let a = arrives m timed found reached i h.on.world one.behind one.step one.goes.to h.on.at one.possible one.goes.there in
          let c = carried m timed found reached one.goes.to one.behind beside.last (s ∷ steps) a beside.leads in
          let there : wait_at c.last thread ≡ wait_at a.v thread =
          rest one.goes.to c.more a.v c.last (omega (arith, room, one.later)) (omega (arith, short, c.as_many)) (h.stays one.goes.to one.goes.edge) a.at c.leads in
          sym (own_keeps m h.on.world one.behind v beside.last one.step thread one.alone one.possible h.waits beside.possible)
          ∙ wait_good beside.last c.last thread c.good
          ∙ there
          ∙ h.same one.goes.to a.v one.goes.edge a.at

      from : (h : HoldsAt m found edges thread moves i) → Later k d → run_late m h.on.world (s ∷ steps) ≡ Some v → (AllGo m found edges i h.on.world ⊎ OneGoes m found edges i h.on.world) → wait_at v thread ≡ wait_at h.on.world thread
      from h rest runs (inl all) =
          bind_then (next_late m h.on.world s) (λ u. run_late m u steps) v runs λ u goes more.
          let to = all s u goes in
          let a = arrives m timed found reached i h.on.world u s to.to h.on.at goes to.there in
          onward k ih i to.to u v steps h to.edge a (omega (arith, short)) more
      from h rest runs (inr one) =
          let x = by_steps m (seen_at found i).schedule (opening m) h.on.world h.on.at.leads in
          way h rest one runs (alone_anyway m x.steps h.on.world one.behind v one.step (s ∷ steps) timed x.runs one.alone one.possible runs)

      of : (h : HoldsAt m found edges thread moves i) → Later k d → wait_at v thread ≡ wait_at w thread
      of h rest =
          let same : w ≡ h.on.world = some_is w h.on.world (sym at.leads ∙ h.on.at.leads) in
          from h rest (ap (λ x. run_late m x (s ∷ steps)) (sym same) ∙ leads) h.on.goes ∙ ap (λ x. wait_at x thread) (sym same)

  hold : (k : ℕ) → Holds k
  hold zero i [] w v short free at leads = ap (λ x. wait_at x thread) (sym (some_is w v leads))
  hold zero i (s ∷ steps) w v short free at leads = absurd (omega (arith, short))
  hold (suc k) i steps w v short free at leads = hold_one k (hold k) (length found) i steps w v (omega arith) short free at leads

  pub for_ever : (place : ℕ) (w : World) → moves_at moves place ≡ false → IsWorldAt m found place w → WaitsForEver m w thread
  for_ever place w free at =
      let h = still place free in
      let same : h.on.world ≡ w = some_is h.on.world w (sym h.on.at.leads ∙ at.leads) in
      record {
        waits = ap (λ x. is_waiting (wait_at x thread)) (sym same) ∙ h.waits;
        stays = λ steps v leads. hold (length steps) place steps w v (omega arith) free at leads;
      }
