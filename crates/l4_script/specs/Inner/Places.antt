-- Where the thread of a number stands.
use Rattle.std.specs.Prelude.{ℕ, ◌%◌, ◌==◌, if◌then◌else◌, nat_eq, Option, Some, slice_get}
use Rattle.std.specs.HashMap.{get}
use Rattle.l4_script.specs.declared.places.Placed.{Placed}
use Rattle.l4_script.specs.declared.places.Places.{Places}

abbrev pub slot_of : ℕ → ℕ
slot_of number = number % 1024

-- What stands in a slot, if it is of this number, else one of the others.
abbrev pub placed_in : Option (Option Placed) → (number : ℕ) → (others : Option ℕ) → Option ℕ
placed_in (Some (Some placed)) number others = if placed.number == number
    then Some placed.place else others
placed_in _ number others = others

-- By the slot of the number, or by its own.
abbrev pub place_by : Places → ℕ → Option ℕ
place_by places number = placed_in (slice_get places.slots.items (slot_of number)) number
    (get nat_eq places.others number)
