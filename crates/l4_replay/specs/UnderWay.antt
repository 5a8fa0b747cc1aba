-- A core run under way in the program, and the core run of the definitions that it is.
use Rattle.std.specs.Prelude.{◌≡◌, ◌≢◌, ℕ, ◌<◌, Option, Some, None, List, [], ◌∷◌, map, length, slice_get}
use Rattle.std.specs.List.{AllByRecursion}
use Rattle.l4_model.specs.Machine.{Machine}
use Rattle.l4_model.specs.World.{changed}
use Rattle.l4_core_model.specs.Letters.{Letter}
use Rattle.l4_core_model.specs.Runs.{System, letters, Run, IsMachine}
use Rattle.l4_core_model.specs.Laws.{IsCoreRun}
use Rattle.l4_core.specs.Processor.{Processor}
use Rattle.l4_replay.specs.Stations.{Station, letters_from, with_letter, IsResting}

-- The processors with the letters that have come to them, and how many events there were.
pub record UnderWay : Type 0 where
  pub machine : Machine
  pub stations : List Station
  pub events : ℕ

-- One processor's letters have come to the others, each with the processor that it goes to.
abbrev pub with_letters : (from : ℕ) → List (ℕ × Letter) → List Station → List Station
with_letters from [] ss = ss
with_letters from (p ∷ ps) ss = with_letters from ps (changed (with_letter from p.1) ss p.0)

-- Each processor has a place for the letters of this one.
abbrev pub KnowPoster : (from : ℕ) → List Station → Type 0
KnowPoster from ss = (to : ℕ) (s : Station) → slice_get ss to ≡ Some s → from < length s.inbox

-- Each letter goes to another processor that there is, and each processor has a place for the
-- letters of this one.
abbrev pub CanPost : (from : ℕ) → List (ℕ × Letter) → List Station → Type 0
CanPost from ps ss = AllByRecursion (λ p. (p.0 < length ss) × (p.0 ≢ from)) ps × KnowPoster from ss

-- The letters of a pair of processors.
abbrev pub letters_at : (from : ℕ) → Option Station → List Letter
letters_at from None = []
letters_at from (Some s) = letters_from from s

-- Each processor is at rest, with no letter.
abbrev pub AreResting : List Station → Type 0
AreResting ss = (cpu : ℕ) (s : Station) → slice_get ss cpu ≡ Some s → IsResting s

-- A station is that of a processor of the machine.
pub record IsStation (m : Machine) (cpu : ℕ) (s : Station) : Type 0 where
  pub machine : s.core.machine ≡ m
  pub cpu_is : s.core.cpu ≡ cpu
  pub inbox : length s.inbox ≡ m.cpus

-- The stations are the processors of the machine, with the same local states and the same letters
-- under way of each pair.
pub record IsSystem (m : Machine) (g : System) (ss : List Station) : Type 0 where
  pub for_each : length ss ≡ m.cpus
  pub each : (cpu : ℕ) (s : Station) → slice_get ss cpu ≡ Some s → IsStation m cpu s
  pub locals : g.locals ≡ map (λ s. s.core.local) ss
  pub mail : (from to : ℕ) → letters g.mail from to ≡ letters_at from (slice_get ss to)

-- This is the processor `cpu` of the machine, with the local state that `g` has of it.
pub record IsProcessorOf (m : Machine) (g : System) (cpu : ℕ) (p : Processor) : Type 0 where
  pub machine : p.machine ≡ m
  pub cpu_is : p.cpu ≡ cpu
  pub local : slice_get g.locals cpu ≡ Some p.local

-- What is under way is this core run of the machine.
pub record IsRun (m : Machine) (r : Run) (u : UnderWay) : Type 0 where
  pub machine : u.machine ≡ m
  pub lawful : IsMachine m
  pub core_run : IsCoreRun m r
  pub system : IsSystem m r.system u.stations
  pub events : u.events ≡ length r.events

-- What is under way is some core run.
abbrev pub HasRun : UnderWay → Type 0
HasRun u = (m : Machine) × ((r : Run) × IsRun m r u)

-- A run went on as the definitions say.
abbrev pub GoesOn : (Machine → Run → Run) → (old new : UnderWay) → Type 0
GoesOn next old new = (m : Machine) (r : Run) → IsRun m r old → IsRun m (next m r) new
