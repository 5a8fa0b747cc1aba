-- Who may post to whom, by the row of a state.
use Rattle.std.specs.Prelude.{ℕ, ◌<◌, ◌≡◌, ◌&&◌, ◌||◌, Bool, true, List}
use Rattle.l4_states.specs.Inner.Remembered.{pair_place}
use Rattle.l4_parts.specs.declared.parts.Part.{Part}
use Rattle.l4_parts.specs.Inner.Numbers.{part_at}
use Rattle.l4_parts.specs.Inner.Known.{number_at}
use Rattle.l4_sets.specs.Inner.Sets.{has}

abbrev pub part_of : List Part → (row : List ℕ) → (place : ℕ) → Part
part_of parts row place = part_at parts (number_at row place)

-- A processor may post to another one, and no letter is under way.
abbrev pub may_post_in : List Part → (row : List ℕ) → (cpus from to : ℕ) → Bool
may_post_in parts row cpus from to =
    (part_of parts row (pair_place cpus from to)).rests
    && (has (part_of parts row from).contacts.posts to
    || has (part_of parts row to).contacts.waits from)

-- With each processor of the set all that may are in it.
abbrev pub IsClosedIn : List Part → (row : List ℕ) → (cpus set : ℕ) → Type 0
IsClosedIn parts row cpus set =
    (from to : ℕ) → from < cpus → to < cpus → has set to ≡ true →
    may_post_in parts row cpus from to ≡ true → has set from ≡ true
