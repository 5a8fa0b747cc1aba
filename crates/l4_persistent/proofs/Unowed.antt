-- Where no message is propagated, no retarget is ever owed.
use Rattle.std.proofs.Common.{subst, ◌≡◌, Bool, true, false, Some, List, [], ◌∷◌, refl}
use Rattle.std.specs.Prelude.{◌&&◌}
use Rattle.l4_model.specs.Machine.{Machine}
use Rattle.l4_model.specs.World.{World, opening}
use Rattle.l4_model.specs.Steps.{Step, next}
use Rattle.l4_model.specs.History.{run, reached}
use Rattle.l4_model.proofs.Chains.{bind_then, some_is}
use Rattle.l4_model.proofs.Owed.{step_among, step_apart}
use Rattle.l4_model.proofs.Sound.{step_sound}
use Rattle.l4_model.proofs.Sizes.{step_sized}
use Rattle.l4_model.proofs.Lists.{step_listed}
use Rattle.l4_model.proofs.Worlds.{Standing, standing}
use Rattle.l4_first.specs.First.{may_turn}
use Rattle.l4_first.proofs.Plain.{NothingOwed, owes_kept, opening_owes}
use Rattle.l4_persistent.specs.Inner.Posts.{may_propagate}

one_standing : (m : Machine) (w v : World) (step : Step) → next m w step ≡ Some v → Standing m w → Standing m v
one_standing m w v step is s = record {
  sized = step_sized m w v step is s.sized;
  sound = step_sound m w v step is s.sound;
  listed = step_listed m w v step is s.sound s.listed;
  among = step_among m w v step is s.sound s.among;
  apart = step_apart m w v step is s.sound s.listed s.apart;
}

run_owes : (m : Machine) (h : List Step) (w v : World) → run m w h ≡ Some v → Standing m w → NothingOwed m w →
    NothingOwed m v
run_owes m [] w v is s n = subst (NothingOwed m) (some_is w v is) n
run_owes m (step ∷ h) w v is s n =
    bind_then (next m w step) (λ u. run m u h) v is λ u one rest.
    run_owes m h u v rest (one_standing m w u step one s) ((owes_kept m).by_step w u step one s n)

turns_none : (m : Machine) → may_propagate m ≡ false → may_turn m ≡ false
turns_none m none = by m.retargeting
  where
    by : (b : Bool) → (b && may_propagate m) ≡ false
    by true = none
    by false = refl

pub unowed : (m : Machine) (h : List Step) (w : World) → may_propagate m ≡ false → reached m h ≡ Some w → w.owed ≡ []
unowed m h w none is = (run_owes m h (opening m) w is (standing m [] (opening m) refl)
    (opening_owes m (turns_none m none))).none
