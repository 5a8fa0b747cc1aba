-- All that may happen next in a core run, by numbers, and the states that lists of them lead to.
use Rattle.std.specs.Prelude.{ℕ, ◌+◌, ◌*◌, ◌/◌, ◌%◌, ◌<◌, ◌≡◌, ◌↔◌, ◌==◌, nat_lt, if◌then◌else◌, Option, Some, List, [], ◌∷◌, length, slice_get}
use Rattle.std.specs.Option.{option_map}
use Rattle.l4_model.specs.Words.{clock_limit, period_limit}
use Rattle.l4_model.specs.Machine.{Machine}
use Rattle.l4_model.specs.Conditions.{◌>>=◌}
use Rattle.l4_core_model.specs.Local.{Local}
use Rattle.l4_core_model.specs.Runs.{System, Action, Handles, Turns, Ticks, Happened, happens, Run, core_run, opening_run, opening_system, then_event, at_rest}
use Rattle.l4_core_model.specs.Schedules.{least_deadline, Entry, TickOf, LetterOf, CoreOf, entry_event}
use Rattle.l4_bisimilar.specs.Shifted.{IsShifted}
use Rattle.l4_explore.specs.Tries.{State}
use Rattle.l4_states.specs.Inner.Codes.{code_of}

-- Of a processor: the first letter of each poster, then the turn of its core, then the tick to its
-- least deadline.
abbrev pub choice_of : (cpus cpu k : ℕ) → Entry
choice_of cpus cpu k =
    if nat_lt k cpus then LetterOf cpu k else if k == cpus then CoreOf cpu else TickOf cpu

-- The choices of processor 0 come first.
abbrev pub choice : Machine → (number : ℕ) → Entry
choice m number = choice_of m.cpus (number / (m.cpus + 2)) (number % (m.cpus + 2))

-- The number of choices. Each number below it stands for a choice of its own.
abbrev pub choice_count : Machine → ℕ
choice_count m = m.cpus * (m.cpus + 2)

-- The state after an entry. None where it can't happen.
abbrev pub after_entry : Machine → System → Entry → Option System
after_entry m g entry = entry_event m g entry >>= λ e. option_map (λ h. h.system) (happens m g e)

-- The state after the choices of these numbers.
abbrev pub after_choices : Machine → System → List ℕ → Option System
after_choices m g [] = Some g
after_choices m g (number ∷ numbers) = after_entry m g (choice m number) >>= λ h.
    after_choices m h numbers

-- No least deadline is past all clocks, so each clock may go on to its own.
abbrev pub IsEarly : System → Type 0
IsEarly g = (cpu deadline : ℕ) → least_deadline g cpu ≡ Some deadline → deadline < clock_limit

-- The least deadline of a processor is not farther ahead than the longest period.
abbrev pub IsNear : System → (cpu : ℕ) → Type 0
IsNear g cpu =
    (l : Local) (deadline : ℕ) → slice_get g.locals cpu ≡ Some l →
    least_deadline g cpu ≡ Some deadline → deadline < l.clock + period_limit

abbrev pub LeadsEarly : Machine → List ℕ → Type 0
LeadsEarly m numbers =
    (g : System) → after_choices m (opening_system m) numbers ≡ Some g → IsEarly g

-- A state as a search knows it.
abbrev pub state_in : Machine → System → State
state_in m g = record { code = code_of m g; is_end = at_rest m g }

abbrev pub state_after : Machine → List ℕ → Option State
state_after m numbers = option_map (state_in m) (after_choices m (opening_system m) numbers)

-- A state that a core run leads to.
pub record IsReached (m : Machine) (g : System) : Type 0 where
  pub actions : List Action
  pub run : Run
  pub is : core_run m (opening_run m) actions ≡ Some run
  pub system : run.system ≡ g

-- Of the states that core runs lead to, those with the same code are similar, and similar ones have
-- the same code. Similar states are those that are shifted.
abbrev pub IsCoded : Machine → Type 0
IsCoded m = (g h : System) → IsReached m g → IsReached m h →
    (code_of m g ≡ code_of m h) ↔ IsShifted g h

-- The clock of a processor goes on to its least deadline.
abbrev pub IsLeastTick : System → Action → Type 0
IsLeastTick g (Handles cpu from) = Unit {0}
IsLeastTick g (Turns cpu) = Unit {0}
IsLeastTick g (Ticks cpu clock) = least_deadline g cpu ≡ Some clock

abbrev pub AreLeastTicks : Machine → Run → List Action → Type 0
AreLeastTicks m r [] = Unit {0}
AreLeastTicks m r (e ∷ es) =
    IsLeastTick r.system e
    × ((h : Happened) → happens m r.system e ≡ Some h → AreLeastTicks m (then_event r h) es)

-- A core run of so many events to this state, whose ticks go to least deadlines.
pub record IsLeastRun (m : Machine) (events : ℕ) (g : System) : Type 0 where
  pub actions : List Action
  pub run : Run
  pub is : core_run m (opening_run m) actions ≡ Some run
  pub ticks : AreLeastTicks m (opening_run m) actions
  pub system : run.system ≡ g
  pub count : length actions ≡ events
