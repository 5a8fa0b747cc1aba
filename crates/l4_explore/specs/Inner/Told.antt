-- What a listener is told on the way.
use Rattle.std.specs.Prelude.{ℕ, ◌≤◌, ◌≡◌, Bool, true, List, ◌++◌, length, take}
use Rattle.l4_explore.specs.Search.{Seen}
use Rattle.l4_explore.specs.Told.{ends_among, Hears}

-- A listener that was told of the ends among the found states before `from` has been told of those
-- among `count` states: of all if it wants to hear of more.
pub record IsToldOn {Of : Type 0} (hears : (old new : Of) → Hears) (old new : Of)
    (found : List Seen) (from : ℕ) (more : Bool) : Type 0 where
  pub count : ℕ
  pub within : count ≤ length found
  pub all : more ≡ true → count ≡ length found
  pub told : (start : Of) → hears start old (ends_among (take from found)) true →
      hears start new (ends_among (take count found)) more

-- The found states stay, and more may stand behind them.
pub record AreMore (old new : List Seen) : Type 0 where
  pub more : List Seen
  pub is : new ≡ old ++ more
