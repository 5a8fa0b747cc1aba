-- Where a thread stands still, and where none does.
use Rattle.std.proofs.Common.{◌≡◌, ◌<◌, ◌≤◌, ℕ, Bool, true, false, Option, None, Some, List, length, arith}
use Rattle.std.specs.Prelude.{IfNone, IfSome}
use Rattle.l4_model.specs.Machine.{Machine}
use Rattle.l4_model.specs.World.{World}
use Rattle.l4_worlds.specs.Histories.{IsTimed}
use Rattle.l4_explore.specs.Search.{Seen, IsGoneOn as IsSearchedOn}
use Rattle.l4_forever.specs.Forever.{WaitsForEver}
use Rattle.l4_forever.specs.Inner.Graph.{AreReached, IsWorldAt}
use Rattle.l4_forever.specs.Moves.{moves_at, AreJustified, IsNeverStuck}
use Rattle.l4_forever.specs.Inner.Rows.{wait_by, AreSpread}
use Rattle.l4_forever.specs.Waits.{is_waiting}
use Rattle.l4_forever.specs.Inner.Walks.{AreWalked}
use Rattle.l4_forever.proofs.Getting.{never}
use Rattle.l4_forever.proofs.Grounds.{on_from, standing}
use Rattle.l4_forever.proofs.Holding.{for_ever}
use Rattle.l4_stuck.specs.Inner.Going.{rows_of, IsGraphOf}
use Rattle.l4_stuck.specs.Stuck.{IsFirst}
use Rattle.l4_stuck.specs.declared.graph.Graph.{Graph}

-- What is not marked is known, and the thread waits there.
abbrev pub AreFree : Graph → (known thread : ℕ) → (moves : List Bool) → Type 0
AreFree g known thread moves = (place : ℕ) → moves_at moves place ≡ false → (place < known) × (is_waiting (wait_by (rows_of g) place thread) ≡ true)

module _ (m : Machine) (found : List Seen) (g : Graph) (known thread : ℕ) (moves : List Bool) (timed : IsTimed m) (reached : AreReached m found) (are : IsGraphOf m found g) (few : known ≤ length found)
    (searched : (i : ℕ) → i < known → IsSearchedOn (AreWalked m) found i) where
  -- At a place that is not marked in the end it waits for ever.
  pub still_at : AreFree g known thread moves → AreSpread (rows_of g) g.edges.items thread moves → (o : Option ℕ) →
      IfSome o (λ place. moves_at moves place ≡ false) → IfSome o (λ i. (i < length found) × ((w : World) → IsWorldAt m found i w → WaitsForEver m w thread))
  still_at free spread None is = is
  still_at free spread (Some place) is =
      let inside = (free place is).0 in (
        omega (arith, inside, few),
        λ w at. for_ever m timed found g.edges.items thread moves reached (standing m found (rows_of g) g.edges.items known thread moves are searched few free spread) place w is at,
      )

  -- Where all are marked, and nothing was left out, nothing makes it stuck.
  pub none_at : IsFirst m found → (length found ≤ known → AreJustified m found thread moves) → (o : Option ℕ) → IfNone o ((place : ℕ) → moves_at moves place ≡ true) → IfNone o (length found ≤ known → IsNeverStuck m thread)
  none_at first just None all = λ whole.
      never m found g.edges.items thread moves timed reached
      (record { first = first.place; opening = first.there; gone_on = λ i inside. on_from m found g.edges.items i (are.all i inside) (searched i (omega (arith, inside, whole))) }) (just whole) all
  none_at first just (Some place) all = all
