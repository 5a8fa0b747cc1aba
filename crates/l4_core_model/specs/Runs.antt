-- Runs of all processors, with the letters that are under way between them.
use Rattle.std.specs.Prelude.{ℕ, ◌<◌, ◌≡◌, ◌==◌, nat_lt, length, Bool, true, false, not, if◌then◌else◌, ◌&&◌, ◌||◌, Option, Some, None, List, [], ◌∷◌, ◌++◌, map, filter, slice_get}
use Rattle.std.specs.Option.{option_map}
use Rattle.std.specs.List.{range_with_len, list_all}
use Rattle.l4_model.specs.Machine.{Machine, place_of}
use Rattle.l4_model.specs.History.{IsHistory}
use Rattle.l4_model.specs.World.{changed}
use Rattle.l4_model.specs.Steps.{Step}
use Rattle.l4_model.specs.Conditions.{◌>>=◌}
use Rattle.l4_core_model.specs.Letters.{Letter}
use Rattle.l4_core_model.specs.Local.{Local, opening_local, declared}
use Rattle.l4_core_model.specs.Acts.{Work}
use Rattle.l4_core_model.specs.Turns.{turn, advance, is_busy}
use Rattle.l4_core_model.specs.Mail.{handle}

-- A letter under way.
pub record Posted : Type 0 where
  pub from : ℕ
  pub to : ℕ
  pub letter : Letter

-- The processors, and the letters under way in order of posting.
pub record System : Type 0 where
  pub locals : List Local
  pub mail : List Posted

abbrev pub processors : Machine → List ℕ
processors m = range_with_len 0 m.cpus

abbrev pub opening_system : Machine → System
opening_system m = record { locals = map (opening_local m) (processors m); mail = [] }

-- The letters of an ordered pair of processors, of which the first is handled first.
abbrev pub is_between : (from to : ℕ) → Posted → Bool
is_between from to p = (p.from == from) && (p.to == to)

abbrev pub letters : List Posted → (from to : ℕ) → List Letter
letters mail from to = map (λ p. p.letter) (filter (is_between from to) mail)

abbrev pub without_first : (from to : ℕ) → List Posted → List Posted
without_first from to [] = []
without_first from to (p ∷ ps) = if is_between from to p then ps else p ∷ without_first from to ps

-- The core events.
pub data Action : Type 0 where
  Handles : (cpu from : ℕ) → Action
  Turns : (cpu : ℕ) → Action
  Ticks : (cpu clock : ℕ) → Action

-- What is told of an event.
pub record Event : Type 0 where
  pub cpu : ℕ
  pub stamp : ℕ
  pub steps : List Step

pub record Happened : Type 0 where
  pub event : Event
  pub system : System

abbrev pub posted : (from : ℕ) → ℕ × Letter → Posted
posted from p = record { from = from; to = p.0; letter = p.1 }

abbrev pub taken : (from to : ℕ) → System → System
taken from to g = record g { mail = without_first from to g.mail }

-- The system after a processor's event, and the event.
abbrev pub done : (cpu : ℕ) → System → Work → Happened
done cpu g x =
    record {
      event = record { cpu = cpu; stamp = x.local.stamp; steps = x.steps };
      system = record {
        locals = changed (λ l. x.local) g.locals cpu;
        mail = g.mail ++ map (posted cpu) x.letters;
      };
    }

abbrev pub happens : Machine → System → Action → Option Happened
happens m g (Handles cpu from) = do
  l ← slice_get g.locals cpu
  letter ← slice_get (letters g.mail from cpu) 0
  option_map (done cpu (taken from cpu g)) (handle m cpu l letter)
happens m g (Turns cpu) = do
  l ← slice_get g.locals cpu
  option_map (done cpu g) (turn m cpu l)
happens m g (Ticks cpu clock) = do
  l ← slice_get g.locals cpu
  option_map (done cpu g) (advance m cpu clock l)

-- A core run: its events in order, and the state that it leads to.
pub record Run : Type 0 where
  pub events : List Event
  pub system : System

abbrev pub then_event : Run → Happened → Run
then_event r h = record { events = r.events ++ h.event ∷ []; system = h.system }

abbrev pub core_run : Machine → Run → List Action → Option Run
core_run m r [] = Some r
core_run m r (e ∷ es) = happens m r.system e >>= λ h. core_run m (then_event r h) es

abbrev pub opening_run : Machine → Run
opening_run m = record { events = []; system = opening_system m }

-- The steps of all events in order.
abbrev pub told : List Event → List Step
told [] = []
told (e ∷ es) = e.steps ++ told es

-- The events in order of stamp, those of equal stamp by processor.

abbrev pub is_earlier : Event → Event → Bool
is_earlier a b = nat_lt a.stamp b.stamp || (a.stamp == b.stamp && nat_lt a.cpu b.cpu)

abbrev pub put_event : Event → List Event → List Event
put_event e [] = e ∷ []
put_event e (x ∷ xs) = if is_earlier e x then e ∷ x ∷ xs else x ∷ put_event e xs

abbrev pub merged : List Event → List Event
merged [] = []
merged (e ∷ es) = put_event e (merged es)

abbrev pub is_empty : {A : Type 0} → List A → Bool
is_empty [] = true
is_empty (x ∷ xs) = false

-- A processor has no duty, due timeout, ready thread or armed deadline.
abbrev pub local_at_rest : Machine → System → ℕ → Bool
local_at_rest m g cpu = at (slice_get g.locals cpu)
  where
    at : Option Local → Bool
    at None = true
    at (Some l) = not (is_busy m cpu l) && is_empty l.lists.armed

-- Nothing is to be done, armed or under way.
abbrev pub at_rest : Machine → System → Bool
at_rest m g = list_all (local_at_rest m g) (processors m) && is_empty g.mail

-- A machine as a text declares it: each thread is found by its id at its own place, and has a
-- processor of the machine.
pub record IsMachine (m : Machine) : Type 0 where
  pub placed : (i : ℕ) → i < length m.threads → place_of m (declared m i).id ≡ Some i
  pub homed : (i : ℕ) → i < length m.threads → (declared m i).cpu < m.cpus

-- What the events of a core run tell is a history.
abbrev pub TellsHistories : Machine → Type 0
TellsHistories m = (actions : List Action) (r : Run) → core_run m (opening_run m) actions ≡ Some r →
    IsHistory m (told r.events)
