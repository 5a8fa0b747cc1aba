-- What a search says of a condition that no world on the way may meet.
use Rattle.std.specs.Prelude.{ℕ, ◌≡◌, ◌+◌, ◌≤◌, ◌⊎◌, Bool, true, false, min, Option, None, Some, List, [], length, map, slice_get}
use Rattle.l4_model.specs.Machine.{Machine}
use Rattle.l4_model.specs.World.{World}
use Rattle.l4_explore.specs.Tries.{deepest}
use Rattle.l4_futures.specs.Choices.{world_after}
use Rattle.l4_futures.specs.Endings.{AreWorlds, IsCutByDepth, IsCutByWorlds, IsWhole}
use Rattle.l4_futures.specs.Traces.{trace_along}
use Rattle.l4_all_endings.specs.Tried.{LeadsToWorld}
use Rattle.l4_invariants.specs.Invariants.{IsNeverMet, IsShortest, MeetsAtLast}
use Rattle.l4_condition_lines.specs.Conditions.{meets, world_text}
use Rattle.l4_always.specs.declared.search.Met.{Met}
use Rattle.l4_always.specs.declared.search.Verdict.{Verdict}

-- The lines that a world tells on the way, if there is one.
abbrev pub world_told : Machine → Option World → List ℕ
world_told m None = []
world_told m (Some w) = world_text m w

-- So many schedules lead to worlds, no two of them as good as each other, by at most so many steps
-- but ticks.
pub record AreLookedAt (m : Machine) (schedules : List (List ℕ)) (worlds long : ℕ) : Type 0 where
  pub count : length schedules ≡ worlds
  pub lead : (i : ℕ) (schedule : List ℕ) → slice_get schedules i ≡ Some schedule →
      (w : World) × (world_after m schedule ≡ Some w)
  pub are : AreWorlds m (map (trace_along m) schedules) long

-- None of these worlds meets a condition.
abbrev pub IsMetByNone : Machine → (condition : World → Bool) → List (List ℕ) → Type 0
IsMetByNone m condition schedules =
    (i : ℕ) (schedule : List ℕ) (w : World) → slice_get schedules i ≡ Some schedule →
    world_after m schedule ≡ Some w → condition w ≡ false

-- So many worlds were looked at, and none of them meets it.
pub record AreUnmet (m : Machine) (condition : World → Bool) (worlds : ℕ) : Type 0 where
  pub schedules : List (List ℕ)
  pub long : ℕ
  pub are : AreLookedAt m schedules worlds long
  pub none : IsMetByNone m condition schedules

-- The history of these entries meets it in its last world. It is said whether it is a shortest one.
-- Only where as many worlds were looked at as may be it is not known.
pub record IsMet (m : Machine) (condition : World → Bool) (most : ℕ) (met : Met) : Type 0 where
  pub led : LeadsToWorld m met.entries.items
  pub meets : MeetsAtLast m condition (trace_along m met.entries.items)
  pub shortest : met.is_shortest ≡ true → IsShortest m condition (trace_along m met.entries.items)
  pub unknown : met.is_shortest ≡ false → AreUnmet m condition most

-- Where no world was found that meets it, and the search is whole, no history meets it.
abbrev pub IsSaid : Machine → (condition : World → Bool) → (most : ℕ) → Option Met →
    (is_whole : Bool) → Type 0
IsSaid m condition most None is_whole = is_whole ≡ true → IsNeverMet m condition
IsSaid m condition most (Some met) is_whole = IsMet m condition most met

-- What the search has looked at: so many worlds, to which at most `depth` steps but ticks lead, or
-- one more. If none is said to meet the condition, none of them does. Where the search is whole, it
-- did not come as far as it may; where it is cut, it did, or there is one world more.
pub record HasLooked (m : Machine) (condition : World → Bool) (asked most : ℕ) (v : Verdict) :
    Type 0 where
  pub schedules : List (List ℕ)
  pub are : AreLookedAt m schedules v.worlds (v.depth + 1)
  pub few : v.worlds ≤ most
  pub whole : v.is_whole ≡ true → IsWhole m (map (trace_along m) schedules) asked v.depth
  pub cut : v.is_whole ≡ false →
      IsCutByDepth (map (trace_along m) schedules) asked v.depth ⊎
      IsCutByWorlds m v.worlds asked most v.depth
  pub none : v.met ≡ None → IsMetByNone m condition schedules

-- What is said, and what was looked at.
pub record IsVerdict (m : Machine) (asked : List (List ℕ)) (depth most : ℕ) (v : Verdict) :
    Type 0 where
  pub said : IsSaid m (meets m asked) most v.met v.is_whole
  pub looked : HasLooked m (meets m asked) (min depth deepest) most v
