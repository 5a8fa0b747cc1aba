-- What is possible late is possible with all clocks at their last value, and worlds as good as each other have the same late futures.
use Rattle.std.proofs.Common.{◌≡◌, ◌-◌, ◌^◌, false, Option, Some, None, List, [], ◌∷◌, map, refl, ap, sym, ◌∙◌, arith}
use Rattle.std.specs.Option.{option_map}
use Rattle.l4_model.specs.Machine.{Machine}
use Rattle.l4_model.specs.World.{World, opening}
use Rattle.l4_model.specs.Conditions.{◌>>=◌}
use Rattle.l4_model.specs.Steps.{Step, next}
use Rattle.l4_model.specs.Still.{is_tick, late}
use Rattle.l4_model.proofs.Chains.{bind_then, some_is}
use Rattle.l4_worlds.specs.Timeless.{timeless}
use Rattle.l4_worlds.specs.Late.{next_late, run_late}
use Rattle.l4_worlds.specs.Inner.Room.{IsRoomy}
use Rattle.l4_worlds.specs.Histories.{IsTimed, IsStillLate}
use Rattle.l4_worlds.specs.Numberless.{numberless, numberless_step}
use Rattle.l4_worlds.specs.Bare.{bare, AreAsGood, GoesAsWellLate}
use Rattle.l4_worlds.proofs.AsGood.{other_late}
use Rattle.l4_worlds.proofs.LateWorlds.{IsLate, late_step, late_decided, decided_kept, no_later}
use Rattle.l4_worlds.proofs.OfSteps.{late_timeless}
use Rattle.l4_worlds.proofs.OwedOnce.{AreDecided}
use Rattle.l4_worlds.proofs.Passing.{possible_late, possible_now}
use Rattle.l4_worlds.proofs.Reaching.{short_roomy}
use Rattle.l4_worlds.proofs.Ticks.{at_time_alike}

never : {A : Type 0} (o : Option A) (y : A) → o ≡ None → o ≡ Some y → ⊥
never None y p q = cc
never (Some z) y p q = cc

same_now : (m : Machine) (w : World) (step : Step) → IsTimed m → IsLate m w → is_tick step ≡ false → next_late m (late w) step ≡ next m (late w) step
same_now m w step timed is_late tick = by (next m (late w) step) (next_late m (late w) step) refl refl
  where
    room : IsRoomy m w (2 ^ 62 - 1)
    room =
        let s = is_late.standing in
        short_roomy m w (2 ^ 62 - 1 - 2 ^ 42) s.sized.threads s.sized.clocks s.sound is_late.short (no_later m w (2 ^ 62 - 1 - 2 ^ 42) is_late) (omega arith)

    by : (o p : Option World) → next m (late w) step ≡ o → next_late m (late w) step ≡ p → p ≡ o
    by None None here there = refl
    by (Some x) p here there = sym there ∙ possible_late m (late w) x step tick here
    by None (Some y) here there = absurd (never (next m (late w) step) y here (possible_now m w y (2 ^ 62 - 1) step timed.processors room there))

pub late_now : (m : Machine) (steps : List Step) (w : World) (step : Step) → IsTimed m → run_late m (opening m) steps ≡ Some w → is_tick step ≡ false → next_late m w step ≡ option_map timeless (next m (late w) step)
late_now m steps w step timed r tick =
    let is_late = (late_decided m steps w timed r).0 in
    ap (λ x. next_late m x step) (sym (at_time_alike (2 ^ 62 - 1) w ∙ is_late.no_time))
    ∙ late_timeless m (late w) step ∙ ap (option_map timeless) (same_now m w step timed is_late tick)

-- Futures

goes_late : (m : Machine) (steps : List Step) (w v u : World) → IsTimed m → IsLate m w → AreDecided m w → IsLate m v → AreDecided m v → AreAsGood w v → run_late m w steps ≡ Some u → GoesAsWellLate m v steps u
goes_late m [] w v u timed a b c d e r =
    record { more = []; same_steps = refl; after = v; leads_to = refl; as_good = ap (λ x. numberless (bare (timeless x))) (sym (some_is w u r)) ∙ e }
goes_late m (step ∷ steps) w v u timed a b c d e r =
    bind_then (next_late m w step) (λ x. run_late m x steps) u r λ x is rest.
    let same : numberless (bare w) ≡ numberless (bare v) = ap (λ y. numberless (bare y)) (sym a.no_time) ∙ e ∙ ap (λ y. numberless (bare y)) c.no_time in
    let l = other_late m w v x step b.once d.once same is in
    let x_late = late_step m (AreDecided m) (decided_kept m) timed w x step is a b in
    let y_late = late_step m (AreDecided m) (decided_kept m) timed v l.after l.last l.possible c d in
    let as_good : AreAsGood x l.after = ap (λ y. numberless (bare y)) x_late.0.no_time ∙ sym l.as_good ∙ ap (λ y. numberless (bare y)) (sym y_late.0.no_time) in
    let f = goes_late m steps x l.after u timed x_late.0 x_late.1 y_late.0 y_late.1 as_good rest in
    record {
      more = l.last ∷ f.more;
      same_steps = ap (λ s. s ∷ map numberless_step f.more) l.same_step ∙ ap (λ xs. numberless_step step ∷ xs) f.same_steps;
      after = f.after;
      leads_to = ap (λ o. o >>= λ y. run_late m y f.more) l.possible ∙ f.leads_to;
      as_good = f.as_good;
    }

pub late_futures : (m : Machine) (steps g h : List Step) (w v u : World) → IsTimed m → run_late m (opening m) g ≡ Some w → run_late m (opening m) h ≡ Some v → AreAsGood w v → run_late m w steps ≡ Some u →
    GoesAsWellLate m v steps u
late_futures m steps g h w v u timed rw_ rv e r =
    let a = late_decided m g w timed rw_ in
    let b = late_decided m h v timed rv in
    goes_late m steps w v u timed a.0 a.1 b.0 b.1 e r

pub late_still : (m : Machine) (g h : List Step) (w v : World) → IsTimed m → run_late m (opening m) g ≡ Some w → run_late m (opening m) h ≡ Some v → AreAsGood w v → IsStillLate m w → IsStillLate m v
late_still m g h w v timed rw_ rv e still step = by (next_late m v step) refl
  where
    moves : (x : World) → next_late m v step ≡ Some x → ⊥
    moves x is =
        let f = late_futures m (step ∷ []) h g v w x timed rv rw_ (sym e) (ap (λ o. o >>= λ y. Some y) is) in
        none f.more f.same_steps f.leads_to
      where
        none : (more : List Step) → map numberless_step more ≡ map numberless_step (step ∷ []) → {y : World} → run_late m w more ≡ Some y → ⊥
        none [] same leads = cc
        none (s ∷ more) same leads = never _ _ (ap (λ o. o >>= λ z. run_late m z more) (still s)) leads

    by : (o : Option World) → next_late m v step ≡ o → o ≡ None
    by None is = refl
    by (Some x) is = absurd (moves x is)
