-- In a world that is still no retarget is owed.
use Rattle.std.specs.Prelude.{ℕ, ◌≡◌, true, false, is_some, Option, Some, None, List, [], ◌∷◌, length}
use Rattle.std.specs.List.{AllByRecursion}
use Rattle.std.proofs.Common.{refl, ap, ◌∙◌, arith}
use Rattle.std.proofs.lemmas.Option.{slice_get-get_or}
use Rattle.l4_model.specs.Machine.{Machine, Declaration, is_declared, place_of}
use Rattle.l4_model.specs.World.{World, Owed, opening_thread, owed_of}
use Rattle.l4_model.specs.Steps.{Retarget, next}
use Rattle.l4_model.specs.Still.{IsStill}
use Rattle.l4_model.specs.Reached.{WorldFacts, IsOwedAmong}
use Rattle.l4_model.proofs.Places.{place_id, same_name_refl}

-- One that is owed can be done.
can_be_done : (m : Machine) (w : World) (o : Owed) (owed : List Owed) → w.owed ≡ o ∷ owed → is_declared m o.originator ≡ true →
    length w.threads ≡ length m.threads → next m w (Retarget o.send) ≡ None → ⊥
can_be_done m w o owed is declared size none = by (place_of m o.originator) refl declared
  where
    nobody : Declaration
    nobody = record { id = o.originator; cpu = 0; space = 0; script = [] }

    by : (place : Option ℕ) → place_of m o.originator ≡ place → is_some place ≡ true → ⊥
    by None at declared = cc
    by (Some i) at declared =
        let itself = same_name_refl o.send in
        let first : owed_of (o ∷ owed) o.send ≡ Some o = rw itself refl in
        let one : owed_of w.owed o.send ≡ Some o = ap (λ os. owed_of os o.send) is ∙ first in
        let within = (place_id m o.originator i at nobody).0 in
        let as_declared = slice_get-get_or m.threads i nobody within in
        let now = slice_get-get_or w.threads i opening_thread (omega (arith, size, within)) in
        let yes : is_some (next m w (Retarget o.send)) ≡ true = rw (one, at, as_declared, now) refl in
        let no : is_some (next m w (Retarget o.send)) ≡ false = ap is_some none in
        cc

pub still_owes_nothing : (m : Machine) (w : World) → WorldFacts m w → IsStill m w → w.owed ≡ []
still_owes_nothing m w facts still = by w.owed refl facts.owed_among
  where
    by : (owed : List Owed) → w.owed ≡ owed → AllByRecursion (IsOwedAmong m) owed → w.owed ≡ []
    by [] is among = is
    by (o ∷ owed) is among =
        absurd (can_be_done m w o owed is among.0.originator facts.threads_counted (still [] w (Retarget o.send) tt refl refl))
