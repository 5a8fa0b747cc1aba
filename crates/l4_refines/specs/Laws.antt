-- What is true of the core runs of a machine of any number of processors, whatever is done in which
-- order.
use Rattle.std.specs.Prelude.{◌≡◌, ◌<◌, ℕ, Bool, ◌==◌, false, true, Option, None, Some, is_some, IsSomeAnd, List, [], ◌∷◌, length, map, filter, filter_map, slice_get}
use Rattle.std.specs.List.{AllByRecursion, cons_option, range_with_len}
use Rattle.l4_model.specs.Words.{Id}
use Rattle.l4_model.specs.Machine.{Machine, is_place, place_of}
use Rattle.l4_model.specs.Steps.{Step}
use Rattle.l4_model.specs.World.{Name, Owed, Thread, World, opening_thread}
use Rattle.l4_model.specs.Conditions.{◌>>=◌, ◌>>◌}
use Rattle.l4_model.specs.History.{IsHistory, Report, State, IsDeleted, begun_name, reached, report_of, view, waiting}
use Rattle.l4_model.specs.Laws.{IsLawful}
use Rattle.l4_model.specs.Still.{IsStill}
use Rattle.l4_core_model.specs.Letters.{Letter}
use Rattle.l4_core_model.specs.Plain as plain
use Rattle.l4_core_model.specs.Local.{Local, declared, owed_beside, thread}
use Rattle.l4_core_model.specs.Mail.{handle}
use Rattle.l4_core_model.specs.Runs.{System, Posted, letters, Action, Run, core_run, opening_run, told, at_rest}

-- A letter under way goes to a processor of the machine, which can handle it.
abbrev pub IsLawfulLetter : Machine → System → Posted → Type 0
IsLawfulLetter m g p = IsSomeAnd (slice_get g.locals p.to) (λ l.
    is_some (handle m p.to l p.letter) ≡ true)

-- The processor that a letter goes to can handle it if it is the first letter of its pair of
-- processors. It could handle any other letter under way too, if that one came first.
pub record LettersAreLawful (m : Machine) (g : System) : Type 0 where
  pub first : (from cpu : ℕ) (letter : Letter) (l : Local) →
      slice_get (letters g.mail from cpu) 0 ≡ Some letter → slice_get g.locals cpu ≡ Some l →
      is_some (handle m cpu l letter) ≡ true
  pub all : AllByRecursion (IsLawfulLetter m g) g.mail

-- The steps that a core run tells reach a world. Where the run is at rest, nothing but clocks can
-- go on in that world.
abbrev pub RestIsStill : Machine → Type 0
RestIsStill m =
    (actions : List Action) (r : Run) → core_run m (opening_run m) actions ≡ Some r →
    (w : World) × ((reached m (told r.events) ≡ Some w) × (at_rest m r.system ≡ true → IsStill m w))

-- A thread as its own processor has it.
abbrev pub thread_of : (i : ℕ) → Option Local → Thread
thread_of i None = opening_thread
thread_of i (Some l) = thread l i

abbrev pub home_thread : Machine → List Local → (i : ℕ) → Thread
home_thread m locals i = thread_of i (slice_get locals (declared m i).cpu)

-- The report of a thread as its own processor has it.
abbrev pub home_report : Machine → List Local → (i : ℕ) → Report
home_report m locals i = report_of (declared m i).id (home_thread m locals i)

-- These reports of all threads, in order of declaration.
abbrev pub home_reports : Machine → List Local → List Report
home_reports m locals = map (home_report m locals) (range_with_len 0 (length m.threads))

-- Where a thread's send of this number goes, while it is undecided.
abbrev pub destination_of : (k : ℕ) → Thread → Option Id
destination_of k t = do
  t.context.begun == k
  send ← t.send
  Some send.to

-- A begun send that is undecided on its sender's processor, with its destination.
abbrev pub home_waiting : Machine → List Local → Step → Option (Name × Id)
home_waiting m locals step = do
  s ← begun_name step
  i ← place_of m s.thread
  to ← destination_of s.k (home_thread m locals i)
  Some (s, to)

abbrev pub is_deleted_state : State → Bool
is_deleted_state IsDeleted = true
is_deleted_state _ = false

abbrev pub IsUndeleted : Report → Type 0
IsUndeleted r = is_deleted_state r.state ≡ false

-- A world looks as the processors have their own threads. Whichever steps led to it, the undecided
-- sends in it are those that are undecided on their senders' processors.
pub record IsToldAtHome (m : Machine) (locals : List Local) (w : World) : Type 0 where
  pub view : view m w ≡ home_reports m locals
  pub waiting : (h : List Step) → waiting m w h ≡ filter_map (home_waiting m locals) h

-- Of no pair of processors is a letter under way.
abbrev pub AreAllHandled : System → Type 0
AreAllHandled g = (from cpu : ℕ) → letters g.mail from cpu ≡ []

-- Where no letter is under way and no thread is deleted, the world that the history reaches looks
-- as the processors have their own threads. (A deleted thread keeps the registers that it had when
-- its processor deleted it. That its send had failed before may not have been known there yet.)
abbrev pub IsKnownAtHome : Machine → Run → Type 0
IsKnownAtHome m r =
    AreAllHandled r.system → AllByRecursion IsUndeleted (home_reports m r.system.locals) →
    (w : World) → reached m (told r.events) ≡ Some w → IsToldAtHome m r.system.locals w

-- The thread at this place received the message for which this retarget is owed.
abbrev pub is_owed_since : Machine → (place : ℕ) → Owed → Bool
is_owed_since m r o = is_place (place_of m o.new_partner) r

abbrev pub blocks_in : List plain.Waiting → List ℕ
blocks_in es = map (λ e. e.block) es

-- A world is what a processor has: the threads, deleted ones too; who waits at each; the clock; and
-- the retarget that is owed since each thread received a message.
pub record IsState (m : Machine) (l : Local) (w : World) : Type 0 where
  pub threads : w.threads ≡ l.threads
  pub waiting : w.waiting ≡ map blocks_in l.lists.waiting
  pub clocks : w.clocks ≡ l.clock ∷ []
  pub owed : (r : ℕ) → r < length m.threads →
      filter (is_owed_since m r) w.owed ≡ cons_option (owed_beside l r) []

-- On a machine of one processor the world that the history reaches is what that processor has.
abbrev pub IsStateOfOne : Machine → Run → Type 0
IsStateOfOne m r =
    m.cpus ≡ 1 → IsSomeAnd (slice_get r.system.locals 0) (λ l. (w : World) →
    reached m (told r.events) ≡ Some w → IsState m l w)

-- All that is proved of a core run.
pub record IsLawfulRun (m : Machine) (r : Run) : Type 0 where
  -- what its events tell is a history: each step is possible at the world that the earlier ones
  -- reach
  pub history : IsHistory m (told r.events)
  -- which has the laws of all histories
  pub lawful : IsLawful m (told r.events)
  -- no letter under way is refused where it goes
  pub letters : LettersAreLawful m r.system
  -- and where the run is at rest, nothing but clocks can go on in the world that its history
  -- reaches
  pub still : at_rest m r.system ≡ true → (w : World) →
      reached m (told r.events) ≡ Some w → IsStill m w
  -- where no letter is under way and no thread is deleted, that world looks as the processors have
  -- their own threads
  pub at_home : IsKnownAtHome m r
  -- and on one processor it is what that processor has, at every moment
  pub of_one : IsStateOfOne m r
