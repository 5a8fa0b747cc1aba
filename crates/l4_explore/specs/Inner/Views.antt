-- What a contract sees of the values of this crate.
use Rattle.std.specs.Prelude.{ℕ, ◌<◌, ◌≡◌, Bool, Option, None, Some, List, [], ◌∷◌, ◌++◌, length, map}
use Rattle.std.specs.List.{zip}
use Rattle.l4_explore.specs.Tries.{State, Next}
use Rattle.l4_explore.specs.Search.{Seen, seen_at}
use Rattle.l4_explore.specs.Inner.Grown.{Node, AreNodes}
use Rattle.l4_explore.specs.declared.tries.Reached.{Reached}
use Rattle.l4_explore.specs.declared.tries.Choice.{Choice}
use Rattle.l4_explore.specs.declared.found.Arrival.{Arrival}

abbrev pub state_from : Reached → State
state_from r = record { code = r.code.items; is_end = r.is_end }

abbrev pub next_from : Choice → Next
next_from c = record { entry = c.entry; state = state_from c.reached }

-- How a state was found, and whether it is an end.
pub record Arrived : Type 0 where
  pub from : ℕ
  pub entry : ℕ
  pub is_end : Bool

abbrev pub arrived_by : Arrival × Bool → Arrived
arrived_by p = record { from = p.0.from; entry = p.0.entry; is_end = p.1 }

abbrev pub all_arrived : List Arrival → (ends : List Bool) → List Arrived
all_arrived arrivals ends = map arrived_by (zip arrivals ends)

abbrev pub node_from : List ℕ × Arrived → Node
node_from e = record {
  state = record { code = e.0; is_end = e.1.is_end };
  from = e.1.from;
  entry = e.1.entry;
}

abbrev pub nodes_from : List (List ℕ) → List Arrived → List Node
nodes_from codes arrivals = map node_from (zip codes arrivals)

-- Each code has an arrival.
pub record AreArrivals (codes : List (List ℕ)) (arrivals : List Arrived) : Type 0 where
  pub each : length arrivals ≡ length codes
  pub nodes : AreNodes (nodes_from codes arrivals)

pub record AreKept (codes : List (List ℕ)) (arrivals : List Arrival) (ends : List Bool) :
    Type 0 where
  pub each_end : length ends ≡ length arrivals
  pub are : AreArrivals codes (all_arrived arrivals ends)

-- The state was found from an earlier one, by one more entry.
abbrev pub IsStep : List Seen → (place from entry : ℕ) → Type 0
IsStep seen place from entry =
    (from < place)
    × ((seen_at seen place).schedule ≡ (seen_at seen from).schedule ++ entry ∷ [])

-- How a state was found: the first one by the empty schedule, each other one from an earlier one.
abbrev pub IsArrived : List Seen → (place : ℕ) → Option Arrival → Type 0
IsArrived seen place None = (seen_at seen place).schedule ≡ []
IsArrived seen place (Some a) = IsStep seen place a.from a.entry
