-- What a search goes on by that looks for threads which are stuck for ever.
use Rattle.std.specs.Prelude.{◌≡◌, ◌⊎◌, not, Bool, true, Some, List, [], ◌∷◌, ◌++◌, filter_map}
use Rattle.std.specs.List.{list_all}
use Rattle.l4_model.specs.Machine.{Machine}
use Rattle.l4_model.specs.World.{World}
use Rattle.l4_explore.specs.Tries.{Next}
use Rattle.l4_explore.specs.Search.{Seen, has_code}
use Rattle.l4_futures.specs.Choices.{possible, world_after}
use Rattle.l4_futures.specs.Inner.Search.{next_by, nexts, state_in}

-- All that is possible, each with the state that it leads to.
abbrev pub all_nexts : Machine → World → List Next
all_nexts m w = filter_map (next_by m w) (possible m w)

-- It leads to a state that is neither this one nor one of those before it.
abbrev pub is_fresh : (before : List Seen) → Seen → Next → Bool
is_fresh before seen n = not (has_code (before ++ seen ∷ []) n.state.code)

abbrev pub are_fresh : (before : List Seen) → Seen → List Next → Bool
are_fresh before seen choices = list_all (is_fresh before seen) choices

-- The choices of a found state, after the search has gone on from those before it: all that are
-- possible, or those that a search of endings tries, where none leads back.
pub record AreWalked (m : Machine) (before : List Seen) (seen : Seen) (choices : List Next) :
    Type 0 where
  pub world : World
  pub leads : world_after m seen.schedule ≡ Some world
  pub is : state_in m world ≡ seen.state
  pub are : (choices ≡ all_nexts m world)
      ⊎ ((choices ≡ nexts m world) × (are_fresh before seen choices ≡ true))
