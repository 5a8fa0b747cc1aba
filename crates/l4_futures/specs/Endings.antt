-- The endings of a machine, whatever its scheduler does and whatever time passes.
use Rattle.std.specs.Prelude.{ℕ, ◌+◌, ◌≡◌, ◌≤◌, ◌<◌, ◌⊎◌, Bool, true, false, Some, List, length, map, slice_get}
use Rattle.l4_model.specs.Machine.{Machine}
use Rattle.l4_model.specs.World.{World, opening}
use Rattle.l4_model.specs.Steps.{Step}
use Rattle.l4_model.specs.History.{reached}
use Rattle.l4_model.specs.Still.{IsStill}
use Rattle.l4_worlds.specs.Late.{no_ticks}
use Rattle.l4_worlds.specs.Bare.{AreAsGood}
use Rattle.l4_worlds.specs.Histories.{IsUntimed}
use Rattle.l4_futures.specs.Choices.{Choice, tried, after_entry, world_after}
use Rattle.l4_futures.specs.Traces.{trace_along}

-- How long a history is: its steps that are no ticks.
abbrev pub length_of : List Step → ℕ
length_of h = length (no_ticks h)

-- A history that ends in this world, in which nothing but clocks can go on.
pub record ComesToEnd (m : Machine) (h : List Step) (w : World) : Type 0 where
  pub reaches : reached m h ≡ Some w
  pub still : IsStill m w

-- No finite period but zero stands there. Where one stands in a still world, no clock can go on to
-- its end.
pub record IsEnding (m : Machine) (h : List Step) (w : World) : Type 0 where
  pub comes : ComesToEnd m h w
  pub untimed : IsUntimed w

-- A listed trace, not longer than this, leads to a world that is as good.
pub record IsListed (m : Machine) (traces : List (List Step)) (w : World)
    (long : ℕ) : Type 0 where
  pub place : ℕ
  pub trace : List Step
  pub at : slice_get traces place ≡ Some trace
  pub world : World
  pub reaches : reached m trace ≡ Some world
  pub as_good : AreAsGood w world
  pub short : length_of trace ≤ long

-- Each ending that a history comes to is listed once, by a shortest history.
pub record AreAllEndings (m : Machine) (traces : List (List Step)) (depth : ℕ)
    (is_whole : Bool) : Type 0 where
  -- complete: each ending to which a history of at most `depth` steps but ticks comes is listed
  pub complete : (h : List Step) (w : World) → IsEnding m h w → length_of h ≤ depth →
      IsListed m traces w (length_of h)
  pub whole : is_whole ≡ true → (h : List Step) (w : World) → IsEnding m h w →
      IsListed m traces w (length_of h)
  -- sound: each listed trace is a history that comes to an ending
  pub sound : (i : ℕ) (trace : List Step) → slice_get traces i ≡ Some trace →
      (w : World) × IsEnding m trace w
  -- shortest: no history with fewer steps but ticks comes to a world as good
  pub shortest : (i : ℕ) (trace h : List Step) (w v : World) → slice_get traces i ≡ Some trace →
      reached m trace ≡ Some w → reached m h ≡ Some v → AreAsGood w v →
      length_of trace ≤ length_of h
  -- apart: no two listed traces come to worlds as good as each other
  pub apart : (i j : ℕ) (trace other : List Step) (w v : World) →
      slice_get traces i ≡ Some trace → slice_get traces j ≡ Some other →
      reached m trace ≡ Some w → reached m other ≡ Some v → AreAsGood w v → i ≡ j
  -- rising: the shorter ones come first
  pub rising : (i j : ℕ) (trace other : List Step) → i < j →
      slice_get traces i ≡ Some trace → slice_get traces j ≡ Some other →
      length_of trace ≤ length_of other

-- What a search has looked at.

-- Each of these is a history. No two of them come to worlds as good as each other, and none is
-- longer than this.
pub record AreWorlds (m : Machine) (histories : List (List Step)) (depth : ℕ) : Type 0 where
  pub reach : (i : ℕ) (h : List Step) → slice_get histories i ≡ Some h →
      (w : World) × (reached m h ≡ Some w)
  pub apart : (i j : ℕ) (h other : List Step) (w v : World) →
      slice_get histories i ≡ Some h → slice_get histories j ≡ Some other →
      reached m h ≡ Some w → reached m other ≡ Some v → AreAsGood w v → i ≡ j
  pub near : (i : ℕ) (h : List Step) → slice_get histories i ≡ Some h → length_of h ≤ depth

-- One of them is as long as this.
pub record IsAsLong (histories : List (List Step)) (long : ℕ) : Type 0 where
  pub place : ℕ
  pub history : List Step
  pub at : slice_get histories place ≡ Some history
  pub is : length_of history ≡ long

-- A whole search did not come as far as it may. Its longest history is as long as this.
pub record IsWhole (m : Machine) (histories : List (List Step)) (asked depth : ℕ) : Type 0 where
  pub shallow : depth < asked
  pub are : AreWorlds m histories depth
  pub deep : IsAsLong histories depth

-- Why a search is not whole: it came to a world by as many steps as it may take ..
pub record IsCutByDepth (histories : List (List Step)) (asked depth : ℕ) : Type 0 where
  pub all : depth ≡ asked
  pub deep : IsAsLong histories asked

-- .. or to one world more than it may keep.
pub record IsCutByWorlds (m : Machine) (worlds asked most depth : ℕ) : Type 0 where
  pub shallow : depth < asked
  pub full : worlds ≡ most
  pub more : List (List Step)
  pub one_more : length more ≡ most + 1
  pub are : AreWorlds m more (depth + 1)

-- One of these schedules leads to a world that is as good.
pub record IsAmong (m : Machine) (schedules : List (List ℕ)) (w : World) : Type 0 where
  pub place : ℕ
  pub schedule : List ℕ
  pub at : slice_get schedules place ≡ Some schedule
  pub world : World
  pub leads : world_after m schedule ≡ Some world
  pub as_good : AreAsGood w world

-- Each choice that is tried where this schedule leads comes to such a world.
abbrev pub IsGoneOn : Machine → (schedules : List (List ℕ)) → (schedule : List ℕ) → Type 0
IsGoneOn m schedules schedule =
    (i : ℕ) (w v : World) (c : Choice) → world_after m schedule ≡ Some w →
    slice_get (tried m w) i ≡ Some c → after_entry m w c.entry ≡ Some v → IsAmong m schedules v

-- A search of at most `asked` steps but ticks and `most` worlds has looked at so many worlds, the
-- opening among them. From those to which fewer than `depth` steps lead, and if it is whole from
-- all, it went on by each choice that is tried there.
pub record HasLooked (m : Machine) (asked most worlds depth : ℕ) (is_whole : Bool) : Type 0 where
  pub schedules : List (List ℕ)
  pub count : length schedules ≡ worlds
  pub few : worlds ≤ most
  pub lead : (i : ℕ) (schedule : List ℕ) → slice_get schedules i ≡ Some schedule →
      (w : World) × (world_after m schedule ≡ Some w)
  pub are : AreWorlds m (map (trace_along m) schedules) (depth + 1)
  pub first : IsAmong m schedules (opening m)
  pub gone_on : (i : ℕ) (schedule : List ℕ) → slice_get schedules i ≡ Some schedule →
      (length schedule < depth) ⊎ (is_whole ≡ true) → IsGoneOn m schedules schedule
  pub whole : is_whole ≡ true → IsWhole m (map (trace_along m) schedules) asked depth
  pub cut : is_whole ≡ false →
      IsCutByDepth (map (trace_along m) schedules) asked depth ⊎
      IsCutByWorlds m worlds asked most depth
