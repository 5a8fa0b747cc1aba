-- Where a send goes to nobody.
use Rattle.std.proofs.Common.{◌≡◌, true, None, refl}
use Rattle.l4_model.specs.Words.{Id, NilThread, AnyThread, AnyLocalThread, LocalThread, GlobalThread}
use Rattle.l4_model.specs.Machine.{Machine}
use Rattle.l4_model.specs.World.{World}
use Rattle.l4_model.specs.Conditions.{found_by, is_no_destination}
use Rattle.l4_core_model.specs.Local.{destination_place}

-- snobody
pub nowhere_is : (m : Machine) (w : World) (to : Id) → destination_place m to ≡ None → (to ≡ NilThread → ⊥) → is_no_destination to (found_by m w to) ≡ true
nowhere_is m w NilThread h not_nil = absurd (not_nil refl)
nowhere_is m w AnyThread h not_nil = refl
nowhere_is m w AnyLocalThread h not_nil = refl
nowhere_is m w (LocalThread word) h not_nil = refl
nowhere_is m w (GlobalThread t) h not_nil = rw h
