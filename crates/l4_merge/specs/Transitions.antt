-- What a processor does by itself, one transition after the other.
use Rattle.std.specs.Prelude.{ℕ, ◌==◌, ◌≡◌, Bool, true, false, Option, Some, List, [], ◌∷◌, map, filter}
use Rattle.std.specs.List.{flat_map}
use Rattle.l4_model.specs.Machine.{Machine}
use Rattle.l4_core_model.specs.Letters.{Letter}
use Rattle.l4_core_model.specs.Local.{Local}
use Rattle.l4_core_model.specs.Acts.{Work}
use Rattle.l4_core_model.specs.Turns.{turn, advance}
use Rattle.l4_core_model.specs.Mail.{handle}
use Rattle.l4_core_model.specs.Runs.{Event, Action, Handles, Turns, Ticks}

-- A local event of a processor: it handles a letter that came from another one, takes the core's
-- turn, or ticks.
pub data LocalEvent : Type 0 where
  Handled : (from : ℕ) → Letter → LocalEvent
  Turned : LocalEvent
  Ticked : (clock : ℕ) → LocalEvent

-- A turn handles a letter or is the core's own. A tick is none.
abbrev pub is_turn : LocalEvent → Bool
is_turn (Handled from letter) = true
is_turn Turned = true
is_turn (Ticked clock) = false

-- What a local event does. None where it is not possible.
abbrev pub work_of : Machine → (cpu : ℕ) → Local → LocalEvent → Option Work
work_of m cpu l (Handled from letter) = handle m cpu l letter
work_of m cpu l Turned = turn m cpu l
work_of m cpu l (Ticked clock) = advance m cpu clock l

-- What a local event is among the actions of all processors.
abbrev pub action_of : (cpu : ℕ) → LocalEvent → Action
action_of cpu (Handled from letter) = Handles cpu from
action_of cpu Turned = Turns cpu
action_of cpu (Ticked clock) = Ticks cpu clock

-- The letter that a local event handles, if any, with the processor that the letter came from.
abbrev pub letter_of : LocalEvent → List (ℕ × Letter)
letter_of (Handled from letter) = (from, letter) ∷ []
letter_of Turned = []
letter_of (Ticked clock) = []

-- A local event that a processor did, with what it did.
pub record Transition : Type 0 where
  pub cpu : ℕ
  pub event : LocalEvent
  pub work : Work

-- The event of a transition, as its log has it.
abbrev pub told_by : Transition → Event
told_by d = record { cpu = d.cpu; stamp = d.work.local.stamp; steps = d.work.steps }

-- What happened by a transition.
abbrev pub happened_by : Transition → Action
happened_by d = action_of d.cpu d.event

-- The letters that transitions posted, each with the processor that it goes to.
abbrev pub posted_by : List Transition → List (ℕ × Letter)
posted_by = flat_map (λ d. d.work.letters)

-- The letters that transitions handled, each with the processor that it came from.
abbrev pub handled_by : List Transition → List (ℕ × Letter)
handled_by = flat_map (λ d. letter_of d.event)

-- Of letters with their processors, those of one processor.
abbrev pub letters_with : (cpu : ℕ) → List (ℕ × Letter) → List Letter
letters_with cpu ls = map (λ p. p.1) (filter (λ p. p.0 == cpu) ls)

-- A processor does a transition from a local state on.
pub record Does (m : Machine) (cpu : ℕ) (l : Local) (d : Transition) : Type 0 where
  pub own : d.cpu ≡ cpu
  pub work : work_of m cpu l d.event ≡ Some d.work

-- A processor's transitions lead, one after the other, from one local state to another.
abbrev pub Lead : Machine → (cpu : ℕ) → Local → List Transition → Local → Type 0
Lead m cpu l [] now = l ≡ now
Lead m cpu l (d ∷ ds) now = Does m cpu l d × Lead m cpu d.work.local ds now
