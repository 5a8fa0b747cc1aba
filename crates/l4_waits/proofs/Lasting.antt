-- Only still worlds follow a still world.
use Rattle.std.proofs.Common.{◌≡◌, Bool, true, false, Option, Some, None, List, [], ◌∷◌, refl, ap, ◌∙◌, subst}
use Rattle.l4_model.specs.Machine.{Machine}
use Rattle.l4_model.specs.World.{World}
use Rattle.l4_model.specs.Steps.{Step, next}
use Rattle.l4_model.specs.History.{run}
use Rattle.l4_model.specs.Conditions.{◌>>=◌}
use Rattle.l4_model.specs.Still.{is_tick, IsStill}
use Rattle.l4_model.proofs.Chains.{bind_then, some_is}

some_is_not_none : {A : Type 0} (o : Option A) (x : A) → o ≡ Some x → o ≡ None → ⊥
some_is_not_none None x e h = cc
some_is_not_none (Some y) x e h = cc

-- A step that is possible there is a tick.
only_ticks : (m : Machine) (w u : World) (step : Step) → IsStill m w → next m w step ≡ Some u → is_tick step ≡ true
only_ticks m w u step still is = by (is_tick step) refl
  where
    by : (b : Bool) → is_tick step ≡ b → b ≡ true
    by true e = refl
    by false e = absurd (some_is_not_none (next m w step) u is (still [] w step tt refl e))

after_tick : (m : Machine) (w u : World) (tick : Step) → IsStill m w → is_tick tick ≡ true → next m w tick ≡ Some u → IsStill m u
after_tick m w u tick still ticks is more later step all r other =
    still (tick ∷ more) later step (ticks, all) (ap (λ o. o >>= λ v. run m v more) is ∙ r) other

pub stay_still : (m : Machine) (w later : World) (steps : List Step) → IsStill m w → run m w steps ≡ Some later → IsStill m later
stay_still m w later [] still r = subst (IsStill m) (some_is w later r) still
stay_still m w later (step ∷ steps) still r =
    bind_then (next m w step) (λ u. run m u steps) later r λ u is rest.
    stay_still m u later steps (after_tick m w u step still (only_ticks m w u step still is) is) rest
