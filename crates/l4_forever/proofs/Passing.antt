-- What goes on from a world goes on from the found one of its state.
use Rattle.std.proofs.Common.{◌≡◌, ℕ, zero, suc, ◌<◌, Some, List, [], ◌∷◌, ◌++◌, length, map, refl, ap, sym, ◌∙◌}
use Rattle.std.proofs.lemmas.List.{length-map}
use Rattle.l4_model.specs.Machine.{Machine}
use Rattle.l4_model.specs.World.{World, opening}
use Rattle.l4_model.specs.Conditions.{◌>>=◌}
use Rattle.l4_model.specs.Steps.{Step}
use Rattle.l4_worlds.specs.Late.{next_late, run_late}
use Rattle.l4_worlds.specs.Histories.{IsTimed}
use Rattle.l4_worlds.specs.Numberless.{numberless_step}
use Rattle.l4_worlds.specs.Bare.{AreAsGood}
use Rattle.l4_worlds.proofs.LateFutures.{late_futures}
use Rattle.l4_explore.specs.Tries.{State}
use Rattle.l4_explore.specs.Search.{Seen, seen_at}
use Rattle.l4_futures.specs.Inner.Codes.{code_of}
use Rattle.l4_futures.specs.Choices.{world_after}
use Rattle.l4_futures.specs.Inner.Search.{state_in, state_after}
use Rattle.l4_futures.proofs.Entries.{named}
use Rattle.l4_futures.proofs.Ways.{by_steps}
use Rattle.l4_futures.proofs.Kept.{as_good, one_more, same_code, state_led}
use Rattle.l4_forever.specs.Inner.Graph.{AreReached, IsWorldAt, StandsAt}

-- A world to which entries lead, and the found world of its state
pub record Arrives (m : Machine) (found : List Seen) (to : ℕ) (u : World) : Type 0 where
  pub v : World
  pub at : IsWorldAt m found to v
  pub entries : List ℕ
  pub led : world_after m entries ≡ Some u
  pub codes : code_of m u ≡ code_of m v

pub record Carried (m : Machine) (v : World) (steps : List Step) (z : World) : Type 0 where
  pub more : List Step
  pub as_many : length more ≡ length steps
  pub last : World
  pub leads : run_late m v more ≡ Some last
  pub good : AreAsGood z last

module _ (m : Machine) (timed : IsTimed m) (found : List Seen) (reached : AreReached m found) where
  pub arrived : (entries : List ℕ) (u : World) (to : ℕ) → world_after m entries ≡ Some u → StandsAt m found u to → Arrives m found to u
  arrived entries u to led there =
      let p = state_led m (seen_at found to).schedule (seen_at found to).state (reached to there.inside) in
      record {
        v = p.0;
        at = record { inside = there.inside; leads = p.1 };
        entries = entries;
        led = led;
        codes = same_code m u p.0 (ap (λ (c : State). c.code) (there.is ∙ sym p.2));
      }

  pub arrives : (i : ℕ) (w u : World) (step : Step) (to : ℕ) → IsWorldAt m found i w → next_late m w step ≡ Some u → StandsAt m found u to → Arrives m found to u
  arrives i w u step to at goes there =
      let n = named m w u step goes in
      arrived ((seen_at found i).schedule ++ n.entry ∷ []) u to
      (one_more m (seen_at found i).schedule n.entry (opening m) w u at.leads (ap (λ o. o >>= next_late m w) n.names ∙ goes)) there

  pub good_there : (to : ℕ) (u : World) (a : Arrives m found to u) → AreAsGood u a.v
  good_there to u a = as_good m timed a.entries (seen_at found to).schedule u a.v a.led a.at.leads a.codes

  pub carried : (to : ℕ) (u z : World) (steps : List Step) (a : Arrives m found to u) → run_late m u steps ≡ Some z → Carried m a.v steps z
  carried to u z steps a leads =
      let x = by_steps m a.entries (opening m) u a.led in
      let y = by_steps m (seen_at found to).schedule (opening m) a.v a.at.leads in
      let f = late_futures m steps x.steps y.steps u a.v z timed x.runs y.runs (good_there to u a) leads in
      record {
        more = f.more;
        as_many = sym (length-map f.more numberless_step) ∙ ap length f.same_steps ∙ length-map steps numberless_step;
        last = f.after;
        leads = f.leads_to;
        good = f.as_good;
      }

pub length_middle : (before after : List Step) (own : Step) → length (before ++ own ∷ after) ≡ suc (length (before ++ after))
length_middle [] after own = refl
length_middle (x ∷ before) after own = ap suc (length_middle before after own)
