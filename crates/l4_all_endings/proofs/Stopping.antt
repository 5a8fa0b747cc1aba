-- Worlds that are kept on the way to others.
use Rattle.std.proofs.Common.{◌≡◌, ℕ, zero, suc, ◌≤◌, Some, refl, List, [], ◌∷◌, ◌++◌, length, take, ap, subst, sym, ◌∙◌, arith}
use Rattle.std.specs.Prelude.{slice_get}
use Rattle.l4_model.specs.Machine.{Machine}
use Rattle.l4_model.proofs.Chains.{some_is}
use Rattle.l4_outlooks.specs.Inner.Foreseen.{Foreseen, IsLed, opens}
use Rattle.l4_all_endings.specs.Inner.Way.{AreStops, IsOnWay, Stop}

pub stop_at : (m : Machine) (stops : List Stop) (i : ℕ) (s : Stop) → AreStops m stops → slice_get stops i ≡ Some s → s.machine ≡ m
stop_at m [] i s are is = cc
stop_at m (x ∷ stops) zero s are is = ap (λ (y : Stop). y.machine) (sym (some_is x s is)) ∙ are.0
stop_at m (x ∷ stops) (suc i) s are is = stop_at m stops i s are.1 is

pub stops_before : (m : Machine) (stops : List Stop) (n : ℕ) → AreStops m stops → AreStops m (take n stops)
stops_before m [] zero are = tt
stops_before m [] (suc n) are = tt
stops_before m (x ∷ stops) zero are = tt
stops_before m (x ∷ stops) (suc n) are = (are.0, stops_before m stops n are.1)

pub stops_more : (m : Machine) (stops : List Stop) (s : Stop) → AreStops m stops → s.machine ≡ m → AreStops m (stops ++ s ∷ [])
stops_more m [] s are is = (is, tt)
stops_more m (x ∷ stops) s are is = (are.0, stops_more m stops s are.1 is)

-- A world that the first of some entries lead to
pub stops_here : (m : Machine) (entries : List ℕ) (s : Stop) (o : Foreseen) → s.machine ≡ m → length s.entries ≤ length entries → take (length s.entries) entries ≡ s.entries → IsLed s.machine s.entries o → IsOnWay m entries o (length s.entries)
stops_here m entries s o same inside first led = record {
  inside = inside;
  led = subst (λ es. IsLed m es o) (sym first) (subst (λ n. IsLed n s.entries o) same led);
}

pub opens_here : (m : Machine) (entries : List ℕ) (o : Foreseen) → o ≡ opens m → IsOnWay m entries o 0
opens_here m entries o is = record { inside = omega arith; led = subst (IsLed m (take 0 entries)) (sym is) (by entries) }
  where
    by : (entries : List ℕ) → IsLed m (take 0 entries) (opens m)
    by [] = record { machine = refl; leads = refl; as_many = refl }
    by (e ∷ es) = record { machine = refl; leads = refl; as_many = refl }
