-- What is known of a machine: its parts of states, and what choices do.
use Rattle.std.specs.Prelude.{ℕ, ◌<◌, ◌≡◌, ◌==◌, Bool, true, false, Option, None, Some, List, [], ◌∷◌, length, slice_index_or, slice_set}
use Rattle.std.specs.List.{list_any, AllByRecursion}
use Rattle.l4_model.specs.Machine.{Machine}
use Rattle.l4_core_model.specs.Runs.{System, opening_system}
use Rattle.l4_states.specs.Choices.{after_choices, after_entry, choice, IsEarly, IsNear, IsReached}
use Rattle.l4_states.specs.Inner.Remembered.{cpu_of, local_at, pair_place, part_code, place_count, poster_of, rests_at, AreSame}
use Rattle.l4_states.proofs.Early.{AreLow}
use Rattle.l4_persistent.proofs.Slow.{AreSlow}
use Rattle.l4_codes.specs.Inner.Written.{unwritten, Writes}
use Rattle.l4_sets.specs.Inner.Contacts.{AreContacts}
use Rattle.l4_parts.specs.declared.parts.Part.{Part}
use Rattle.l4_parts.specs.declared.events.Event.{Event}
use Rattle.l4_parts.specs.declared.events.Write.{Write}
use Rattle.l4_parts.specs.Inner.Numbers.{part_at}

-- It is the part of a state at a place.
pub record IsAt (m : Machine) (g : System) (place : ℕ) (p : Part) : Type 0 where
  pub place_is : p.place ≡ place
  pub code_is : Writes (part_code m g place) unwritten p.code

-- The part at a place has this number.
pub record HasAt (m : Machine) (g : System) (parts : List Part) (place number : ℕ) : Type 0 where
  pub inside : number < length parts
  pub at : IsAt m g place (part_at parts number)

-- Wherever a part stands, that is so of the state that is told of the part: whether nothing is to be
-- done there, how near the least deadline is, and whom the processor waits for and may post to.
pub record IsTrue (m : Machine) (p : Part) : Type 0 where
  pub rests : (g : System) → IsReached m g → IsAt m g p.place p → rests_at m g p.place ≡ p.rests
  pub near : (g : System) → IsReached m g → p.place < m.cpus → IsAt m g p.place p →
      IsNear g p.place
  pub contacts : (g : System) → IsReached m g → p.place < m.cpus → IsAt m g p.place p →
      AreContacts m p.place (local_at m g p.place) p.contacts

abbrev pub AreTrue : Machine → List Part → Type 0
AreTrue m parts = (number : ℕ) → number < length parts → IsTrue m (part_at parts number)

-- A state as a row: of each place the number of its part.
abbrev pub number_at : List ℕ → (place : ℕ) → ℕ
number_at row place = slice_index_or row place 0

pub record IsRow (m : Machine) (g : System) (parts : List Part) (row : List ℕ) : Type 0 where
  pub long : length row ≡ place_count m
  pub at : (place : ℕ) → place < place_count m → HasAt m g parts place (number_at row place)

-- The row of the state that choices lead to.
pub record IsRowBehind (m : Machine) (numbers : List ℕ) (parts : List Part) (row : List ℕ) :
    Type 0 where
  pub system : System
  pub leads : after_choices m (opening_system m) numbers ≡ Some system
  pub low : AreLow (length numbers) system.locals
  pub slow : AreSlow (length numbers) system.locals
  pub row_is : IsRow m system parts row

-- What a row becomes.
abbrev pub written : List Write → List ℕ → List ℕ
written [] row = row
written (w ∷ ws) row = written ws (slice_set row w.place w.new)

-- Each place that is written has the number that it is written over.
abbrev pub Fit : List Write → List ℕ → Type 0
Fit ws row = AllByRecursion (λ w. (w.place < length row) × (number_at row w.place ≡ w.old)) ws

abbrev pub is_written : List Write → (place : ℕ) → Bool
is_written ws place = list_any (λ w. w.place == place) ws

-- A state that core runs lead to, by few choices.
pub record IsLed (m : Machine) (g : System) : Type 0 where
  pub reached : IsReached m g
  pub early : IsEarly g

-- What an event says of the state that its choice leads to from g, if it leads on.
abbrev pub Foretells : Machine → List Part → Event → (g : System) → Option System → Type 0
Foretells m parts e g None = e.is_possible ≡ false
Foretells m parts e g (Some h) =
    (e.is_possible ≡ true)
    × AllByRecursion (λ w. HasAt m h parts w.place w.new) e.writes.items
    × ((place : ℕ) → place < place_count m → is_written e.writes.items place ≡ false →
    AreSame m g h place)

-- A state has the parts that an event reads.
pub record HasParts (m : Machine) (parts : List Part) (e : Event) (g : System) : Type 0 where
  pub own : HasAt m g parts (cpu_of m e.choice) e.part
  pub taken : poster_of m e.choice < m.cpus →
      HasAt m g parts (pair_place m.cpus (poster_of m e.choice) (cpu_of m e.choice)) e.queue
  pub olds : AllByRecursion (λ w. HasAt m g parts w.place w.old) e.writes.items

-- In every state with these parts the choice does what the event says.
pub record IsEvent (m : Machine) (parts : List Part) (e : Event) : Type 0 where
  pub own : e.part < length parts
  pub taken : e.queue < length parts
  pub olds : AllByRecursion (λ w. w.old < length parts) e.writes.items
  pub does : (g : System) → IsLed m g → cpu_of m e.choice < m.cpus → HasParts m parts e g →
      Foretells m parts e g (after_entry m g (choice m e.choice))

abbrev pub AreEvents : Machine → List Part → List Event → Type 0
AreEvents m parts es = AllByRecursion (IsEvent m parts) es

-- All that is remembered is true.
pub record AreKnown (m : Machine) (parts : List Part) (events : List Event) : Type 0 where
  pub parts_are : AreTrue m parts
  pub events_are : AreEvents m parts events

-- What `event_at` gives past the end.
abbrev pub no_writes : List Write
no_writes = []

-- The event is that of a choice where the row has its parts.
pub record IsOf (m : Machine) (e : Event) (row : List ℕ) (number : ℕ) : Type 0 where
  pub choice_is : e.choice ≡ number
  pub own : number_at row (cpu_of m number) ≡ e.part
  pub taken : poster_of m number < m.cpus →
      number_at row (pair_place m.cpus (poster_of m number) (cpu_of m number)) ≡ e.queue
  pub fit : Fit e.writes.items row

-- All places below one at which two rows differ are written.
pub record AreWrites (old new : List ℕ) (below : ℕ) (ws : List Write) : Type 0 where
  pub each : AllByRecursion (λ w. (w.place < below) × (number_at old w.place ≡ w.old)
      × (number_at new w.place ≡ w.new)) ws
  pub others : (place : ℕ) → place < below → is_written ws place ≡ false →
      number_at old place ≡ number_at new place
