-- What an event reads and writes of a state. Wherever it reads the same, it does the same.
use Rattle.std.specs.Prelude.{ℕ, ◌+◌, ◌-◌, ◌*◌, ◌/◌, ◌%◌, ◌<◌, ◌≡◌, nat_lt, Bool, if◌then◌else◌, Option, None, Some, List, length, slice_get}
use Rattle.l4_model.specs.Machine.{Machine}
use Rattle.l4_core_model.specs.Local.{Local, opening_local}
use Rattle.l4_core_model.specs.Runs.{System, letters, is_empty, local_at_rest}
use Rattle.l4_states.specs.Inner.Codes.{local_code, mail_from_code}
use Rattle.l4_states.specs.Choices.{after_entry, choice, IsEarly, IsReached}

-- What a processor knows.
abbrev pub known_of : Machine → (cpu : ℕ) → Option Local → Local
known_of m cpu None = opening_local m cpu
known_of m cpu (Some l) = l

abbrev pub local_at : Machine → System → (cpu : ℕ) → Local
local_at m g cpu = known_of m cpu (slice_get g.locals cpu)

-- A state is made of parts, each at its place: first what each processor knows, then the letters of
-- each pair, those to processor 0 first.
abbrev pub place_count : Machine → ℕ
place_count m = m.cpus + m.cpus * m.cpus

abbrev pub pair_place : (cpus from to : ℕ) → ℕ
pair_place cpus from to = cpus + (to * cpus + from)

abbrev pub receiver_at : Machine → (place : ℕ) → ℕ
receiver_at m place = (place - m.cpus) / m.cpus

abbrev pub poster_at : Machine → (place : ℕ) → ℕ
poster_at m place = (place - m.cpus) % m.cpus

-- The numbers of a part, in front of what follows.
abbrev pub part_code : Machine → System → (place : ℕ) → List ℕ → List ℕ
part_code m g place =
    if nat_lt place m.cpus then local_code (length m.threads) (local_at m g place)
    else mail_from_code g.mail (receiver_at m place) (poster_at m place)

-- Whether nothing is to be done, armed or under way there.
abbrev pub rests_at : Machine → System → (place : ℕ) → Bool
rests_at m g place =
    if nat_lt place m.cpus then local_at_rest m g place
    else is_empty (letters g.mail (poster_at m place) (receiver_at m place))

-- Two states have the same part at a place.
abbrev pub AreSame : Machine → (g h : System) → (place : ℕ) → Type 0
AreSame m g h place = (rest : List ℕ) → part_code m g place rest ≡ part_code m h place rest

-- A choice is one of a processor's. It takes a letter where it is below the number of processors,
-- that of the poster.
abbrev pub cpu_of : Machine → (number : ℕ) → ℕ
cpu_of m number = number / (m.cpus + 2)

abbrev pub poster_of : Machine → (number : ℕ) → ℕ
poster_of m number = number % (m.cpus + 2)

-- Two states that core runs lead to are the same in all that a choice reads: in what its processor
-- knows, and in the letters that it takes the first one of.
pub record ReadsTheSame (m : Machine) (number : ℕ) (g h : System) : Type 0 where
  pub first : IsReached m g
  pub second : IsReached m h
  pub first_early : IsEarly g
  pub second_early : IsEarly h
  pub own : AreSame m g h (cpu_of m number)
  pub taken : poster_of m number < m.cpus →
      AreSame m g h (pair_place m.cpus (poster_of m number) (cpu_of m number))

-- It has led from g to a, and from h to b: it leaves the same parts as they are, and parts that were
-- the same are the same again.
pub record DoTheSame (m : Machine) (g h a b : System) : Type 0 where
  pub again : (place : ℕ) → place < place_count m → AreSame m g h place → AreSame m a b place
  pub stay : (place : ℕ) → place < place_count m → AreSame m g a place → AreSame m h b place

-- Either it can be made in both, and does the same, or in neither.
abbrev pub AreTheSame : Machine → (g h : System) → Option System → Option System → Type 0
AreTheSame m g h None None = Unit {0}
AreTheSame m g h (Some a) (Some b) = DoTheSame m g h a b
AreTheSame m g h None (Some b) = ⊥
AreTheSame m g h (Some a) None = ⊥

-- What a choice does is known wherever it reads the same.
abbrev pub AreRemembered : Machine → Type 0
AreRemembered m =
    (g h : System) (number : ℕ) → cpu_of m number < m.cpus → ReadsTheSame m number g h →
    AreTheSame m g h (after_entry m g (choice m number)) (after_entry m h (choice m number))
