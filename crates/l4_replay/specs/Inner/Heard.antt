-- Threads as their processors will have them once the letters under way are handled, which is how
-- the world has them.
use Rattle.std.specs.Prelude.{◌≡◌, ◌⊎◌, ℕ, ◌==◌, if◌then◌else◌, Option, Some, None, List, [], ◌∷◌, length, map, slice_get, filter_map}
use Rattle.std.specs.List.{AllByRecursion, flat_map}
use Rattle.l4_model.specs.Words.{Id}
use Rattle.l4_model.specs.Machine.{Machine, place_of}
use Rattle.l4_model.specs.Steps.{Step}
use Rattle.l4_model.specs.World.{Name, Thread, World}
use Rattle.l4_model.specs.Conditions.{◌>>=◌}
use Rattle.l4_model.specs.Effects.{obeyed}
use Rattle.l4_model.specs.History.{Report, begun_name, reached, view, waiting}
use Rattle.l4_core_model.specs.Letters.{Content, DoneLetter, OrderDoneLetter, Letter}
use Rattle.l4_core_model.specs.Local.{Local, after_decision, thread}
use Rattle.l4_core_model.specs.Mail.{own_place}
use Rattle.l4_core_model.specs.Runs.{Run, told}
use Rattle.l4_core.specs.Processor.{Processor}
use Rattle.l4_refines.specs.Laws.{IsUndeleted, destination_of, home_thread}
use Rattle.l4_replay.specs.Stations.{Station}
use Rattle.l4_replay.specs.UnderWay.{IsStation}
use Rattle.l4_replay.specs.Inner.Homes.{reports_of, AreThreads}
use Rattle.l4_replay.specs.declared.homes.OwnerView.{OwnerView}

-- Two letters answer a thread: its send is decided, or its order is done. This is what the answer
-- makes of the thread, with the clock of its processor.
abbrev pub answered : Content → (clock : ℕ) → Thread → Thread
answered (DoneLetter s result) clock t = after_decision result clock t
answered (OrderDoneLetter caller) clock t = obeyed t
answered _ clock t = t

-- The place of the thread of this processor that a letter answers.
abbrev pub answers : Machine → (cpu : ℕ) → Content → Option ℕ
answers m cpu (DoneLetter s result) = own_place m cpu s.thread
answers m cpu (OrderDoneLetter caller) = own_place m cpu caller
answers m cpu _ = None

-- The thread at one place is another one now.
abbrev pub with_thread : (place : ℕ) → Thread → (ℕ → Thread) → ℕ → Thread
with_thread place new t i = if place == i then new else t i

-- A letter that is under way to a processor is heard. What it answers is the thread that this
-- processor has: to each thread one answer at most is under way.
abbrev pub hears_at : Option ℕ → Processor → Content → (ℕ → Thread) → ℕ → Thread
hears_at None p content t = t
hears_at (Some i) p content t =
    with_thread i (answered content p.local.clock (thread p.local i)) t

abbrev pub hears : Processor → Letter → (ℕ → Thread) → ℕ → Thread
hears p letter t = hears_at (answers p.machine p.cpu letter.content) p letter.content t

-- All of these letters, one by one.
abbrev pub hears_all : Processor → List Letter → (ℕ → Thread) → ℕ → Thread
hears_all p [] t = t
hears_all p (letter ∷ more) t = hears_all p more (hears p letter t)

-- All letters that have come to a processor, and to several.

abbrev pub hears_mail : Station → (ℕ → Thread) → ℕ → Thread
hears_mail s t = hears_all s.core (flat_map (λ letters. letters) s.inbox) t

abbrev pub hears_all_mail : List Station → (ℕ → Thread) → ℕ → Thread
hears_all_mail [] t = t
hears_all_mail (s ∷ more) t = hears_all_mail more (hears_mail s t)

-- A begun send that is undecided by these threads, with its destination.
abbrev pub waits_by : Machine → (ℕ → Thread) → Step → Option (Name × Id)
waits_by m t step = do
  s ← begun_name step
  i ← place_of m s.thread
  to ← destination_of s.k (t i)
  Some (s, to)

-- A world looks as these threads do. Whichever steps led to it, the undecided sends in it are those
-- that are undecided by them.
pub record IsToldBy (m : Machine) (t : ℕ → Thread) (w : World) : Type 0 where
  pub view : view m w ≡ reports_of m t
  pub waiting : (h : List Step) → waiting m w h ≡ filter_map (waits_by m t) h

-- None of these threads is deleted, or there is one processor. On several a deleted thread may have
-- other registers in the world than its own processor knows of: its send may have failed before.
abbrev pub HaveRegisters : Machine → List Report → Type 0
HaveRegisters m reports = (m.cpus ≡ 1) ⊎ AllByRecursion IsUndeleted reports

-- If so, the world that a run's history reaches looks as these threads do.
abbrev pub AreOfWorld : Machine → Run → (ℕ → Thread) → Type 0
AreOfWorld m r t = HaveRegisters m (reports_of m t) →
    (w : World) → reached m (told r.events) ≡ Some w → IsToldBy m t w

-- The threads as their own processors have them, once they have heard all that is under way to
-- these.
abbrev pub heard_in : Machine → List Local → List Station → ℕ → Thread
heard_in m locals ss = hears_all_mail ss (home_thread m locals)

-- Whichever threads there were, they have heard this.
abbrev pub Hears : Machine → ((ℕ → Thread) → ℕ → Thread) → (old new : OwnerView) → Type 0
Hears m hearing old new = (t : ℕ → Thread) → AreThreads m t old → AreThreads m (hearing t) new

-- There is a place for each thread.
pub record HasPlaces (m : Machine) (a : OwnerView) : Type 0 where
  pub threads : length a.threads.items ≡ length m.threads
  pub sends : length a.sends.items ≡ length m.threads

-- These are processors of the machine, in the order of their numbers.
abbrev pub AreStations : Machine → List Station → Type 0
AreStations m ss = (cpu : ℕ) (s : Station) → slice_get ss cpu ≡ Some s → IsStation m cpu s
