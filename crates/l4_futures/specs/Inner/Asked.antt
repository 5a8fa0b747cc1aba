-- What may be asked of endings.
use Rattle.std.specs.Prelude.{ℕ, ◌≡◌, ◌≤◌, ◌⊎◌, Bool, true, false, Some, List, slice_get}
use Rattle.l4_model.specs.Machine.{Machine}
use Rattle.l4_model.specs.World.{World}
use Rattle.l4_model.specs.Steps.{Step}
use Rattle.l4_model.specs.History.{reached}
use Rattle.l4_worlds.specs.Bare.{AreAsGood}
use Rattle.l4_futures.specs.Endings.{IsEnding, length_of}

-- It is the same of worlds as good as each other.
abbrev pub TellsNoneApart : (asked : World → Bool) → Type 0
TellsNoneApart asked = (w v : World) → AreAsGood w v → asked w ≡ asked v

-- No listed trace comes to a world that is asked for.
abbrev pub IsNoneListed : Machine → (traces : List (List Step)) → (asked : World → Bool) → Type 0
IsNoneListed m traces asked =
    (i : ℕ) (trace : List Step) (w : World) → slice_get traces i ≡ Some trace →
    reached m trace ≡ Some w → asked w ≡ false

-- No history comes to an ending that is asked for, if the search is whole. If it is cut, none of at
-- most `depth` steps but ticks does.
abbrev pub IsNoneReached : Machine → (depth : ℕ) → (is_whole : Bool) → (asked : World → Bool) →
    Type 0
IsNoneReached m depth is_whole asked =
    (h : List Step) (w : World) → IsEnding m h w →
    (length_of h ≤ depth) ⊎ (is_whole ≡ true) → asked w ≡ false
