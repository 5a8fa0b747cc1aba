-- What the threads of a machine have come to, as their own processors have them.
use Rattle.std.specs.Prelude.{◌≡◌, ◌==◌, ◌⊎◌, ◌≤◌, ℕ, Bool, if◌then◌else◌, IsTrue, Option, None, Some, List, length, map, slice_get}
use Rattle.std.specs.List.{range_with_len}
use Rattle.std.specs.Option.{option_map}
use Rattle.l4_model.specs.Words.{Id}
use Rattle.l4_model.specs.Machine.{Machine, place_of}
use Rattle.l4_model.specs.Steps.{Step}
use Rattle.l4_model.specs.World.{Name, Thread}
use Rattle.l4_model.specs.Conditions.{◌>>=◌}
use Rattle.l4_model.specs.History.{Report, begun_name, report_of}
use Rattle.l4_core_model.specs.Local.{Local, declared}
use Rattle.l4_core_model.specs.Runs.{Run}
use Rattle.l4_types.specs.ReportView.{report_of_view}
use Rattle.l4_core.specs.Processor.{Processor}
use Rattle.l4_refines.specs.Laws.{AreAllHandled, home_thread}
use Rattle.l4_replay.specs.declared.homes.LastSend.{LastSend}
use Rattle.l4_replay.specs.declared.homes.OwnerView.{OwnerView}

abbrev pub locals_of : List Processor → List Local
locals_of cores = map (λ c. c.local) cores

-- These are all processors of a machine.
pub record AreAllOf (m : Machine) (cores : List Processor) : Type 0 where
  pub count : length cores ≡ m.cpus
  pub each : (cpu : ℕ) (c : Processor) → slice_get cores cpu ≡ Some c → c.machine ≡ m

-- The last send that a thread began.
abbrev pub last_send : Thread → LastSend
last_send t = record { k = t.context.begun; to = option_map (λ send. send.to) t.send }

-- The last sends of all threads, as their own processors have them.
abbrev pub sent_at_home : Machine → List Local → List LastSend
sent_at_home m locals = map (λ i. last_send (home_thread m locals i))
    (range_with_len 0 (length m.threads))

-- Where a send of this number goes, if it is the last one that its sender began and is undecided.
abbrev pub sent_to : (k : ℕ) → Option LastSend → Option Id
sent_to k None = None
sent_to k (Some send) = if send.k == k then send.to else None

-- The send is decided, or has no lower number.
abbrev pub IsNotBelow : ℕ → LastSend → Type 0
IsNotBelow least send = (send.to ≡ None) ⊎ (least ≤ send.k)

-- A begun send that is undecided by these last sends, with its destination.
abbrev pub sent_waiting : Machine → List LastSend → Step → Option (Name × Id)
sent_waiting m sends step = do
  s ← begun_name step
  i ← place_of m s.thread
  to ← sent_to s.k (slice_get sends i)
  Some (s, to)

-- The reports of threads, in order of declaration.
abbrev pub reports_of : Machine → (ℕ → Thread) → List Report
reports_of m t = map (λ i. report_of (declared m i).id (t i)) (range_with_len 0 (length m.threads))

-- What is told of all threads is told of these, which are given by their places.
pub record AreThreads (m : Machine) (t : ℕ → Thread) (a : OwnerView) : Type 0 where
  pub threads : map report_of_view a.threads.items ≡ reports_of m t
  pub sends : a.sends.items ≡ map (λ i. last_send (t i)) (range_with_len 0 (length m.threads))

abbrev pub IsAtHome : Machine → List Local → OwnerView → Type 0
IsAtHome m locals a = AreThreads m (home_thread m locals) a

-- A core run ends in these local states. If `all_handled`, all its letters are handled.
pub record EndsIn (r : Run) (locals : List Local) (all_handled : Bool) : Type 0 where
  pub here : r.system.locals ≡ locals
  pub handled : IsTrue all_handled → AreAllHandled r.system
