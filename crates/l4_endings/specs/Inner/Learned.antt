-- What is found out of a choice.
use Rattle.std.specs.Prelude.{ℕ, ◌+◌, ◌/◌, ◌%◌, ◌<◌, ◌≤◌, ◌≡◌, ◌⊎◌, nat_lt, Bool, true, false, if◌then◌else◌, Option, None, Some, List, [], ◌∷◌, ◌++◌, Vec, length, slice_get}
use Rattle.std.proofs.Common.{Global}
use Rattle.l4_model.specs.Machine.{Machine}
use Rattle.l4_core_model.specs.Runs.{opening_system}
use Rattle.l4_states.specs.Choices.{after_choices}
use Rattle.l4_states.specs.Inner.Remembered.{pair_place}
use Rattle.l4_parts.specs.declared.parts.Part.{Part}
use Rattle.l4_parts.specs.declared.events.Event.{Event}
use Rattle.l4_parts.specs.Inner.Numbers.{part_at}
use Rattle.l4_parts.specs.Inner.Known.{number_at, written, AreWrites, IsOf, IsRowBehind}

-- The numbers of the parts that a choice reads.
abbrev pub Reads : (row : List ℕ) → (cpus number : ℕ) → ℕ × ℕ → Type 0
Reads row cpus number read =
    (read.0 ≡ number_at row (number / (cpus + 2)))
    × (read.1 ≡ (if nat_lt (number % (cpus + 2)) cpus
    then number_at row (pair_place cpus (number % (cpus + 2)) (number / (cpus + 2)))
    else number_at row (number / (cpus + 2))))

-- The row behind one more choice, or that it can't be made.
abbrev pub IsFound : Machine → (numbers : List ℕ) → (number : ℕ) → List Part →
    Option (Vec ℕ Global) → Type 0
IsFound m numbers number parts None =
    after_choices m (opening_system m) (numbers ++ number ∷ []) ≡ None
IsFound m numbers number parts (Some row) =
    IsRowBehind m (numbers ++ number ∷ []) parts row.items

-- What a choice does that leads from one row to another one, or to none.
abbrev pub DoesAs : (old : List ℕ) → Option (Vec ℕ Global) → Event → Type 0
DoesAs old None e = (e.is_possible ≡ false) × (e.writes.items ≡ [])
DoesAs old (Some new) e =
    (e.is_possible ≡ true) × AreWrites old new.items (length old) e.writes.items

pub record IsEventFrom (number : ℕ) (read : ℕ × ℕ) (old : List ℕ) (new : Option (Vec ℕ Global))
    (e : Event) : Type 0 where
  pub choice_is : e.choice ≡ number
  pub part_is : e.part ≡ read.0
  pub queue_is : e.queue ≡ read.1
  pub does : DoesAs old new e

-- The event of this number is that of a choice, where a row has its parts.
pub record IsEventAt (m : Machine) (events : List Event) (row : List ℕ) (number place : ℕ) :
    Type 0 where
  pub event : Event
  pub at : slice_get events place ≡ Some event
  pub of : IsOf m event row number

-- What the event of this number says has become of a row.
pub record IsGone (events : List Event) (place : ℕ) (old new : List ℕ) (possible : Bool) :
    Type 0 where
  pub event : Event
  pub at : slice_get events place ≡ Some event
  pub possible_is : possible ≡ event.is_possible
  pub row_is : new ≡ written event.writes.items old

-- A choice takes a letter, and there is none.
pub record TakesNone (parts : List Part) (row : List ℕ) (cpus number : ℕ) : Type 0 where
  pub takes : number % (cpus + 2) < cpus
  pub none : (part_at parts
      (number_at row (pair_place cpus (number % (cpus + 2)) (number / (cpus + 2))))).rests ≡ true

-- A choice takes no letter, and its processor has nothing to do and nothing armed.
pub record IsOfResting (parts : List Part) (row : List ℕ) (cpus number : ℕ) : Type 0 where
  pub takes_none : cpus ≤ number % (cpus + 2)
  pub rests : (part_at parts (number_at row (number / (cpus + 2)))).rests ≡ true

-- Its parts say that a choice can't be made.
abbrev pub IsIdle : List Part → (row : List ℕ) → (cpus number : ℕ) → Type 0
IsIdle parts row cpus number =
    (TakesNone parts row cpus number) ⊎ (IsOfResting parts row cpus number)
