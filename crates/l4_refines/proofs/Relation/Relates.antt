-- The relation between a system and the world: what its processors and its letters are when the steps told so far have led there.
use Rattle.std.specs.Prelude.{ℕ, ◌<◌, ◌≡◌, Option, List, [], length, slice_index_or}
use Rattle.std.specs.List.{AllByRecursion}
use Rattle.l4_model.specs.Machine.{Machine}
use Rattle.l4_model.specs.World.{World, Thread, Owed, list_at}
use Rattle.l4_core_model.specs.Plain as plain
use Rattle.l4_core_model.specs.Local.{Local}
use Rattle.l4_core_model.specs.Runs.{System}
use Rattle.l4_core_model.proofs.Changed.{blocks}
use Rattle.l4_core_model.proofs.Fit.{NotIn}
use Rattle.l4_refines.proofs.Relation.Views.{Scene, View, view, home, scene}
use Rattle.l4_refines.proofs.Relation.Rows.{Matches}
use Rattle.l4_refines.proofs.Relation.Owing.{Owing}

-- They are places of the machine.
abbrev pub AreWithin : Machine → List ℕ → Type 0
AreWithin m places = AllByRecursion (λ i. i < length m.threads) places

-- A processor has an entry for each place, and none past them.
pub record AreSized (m : Machine) (entries : List Thread) (s : plain.Plain) (told_up_to : List ℕ) : Type 0 where
  pub threads : length entries ≡ length m.threads
  pub lists : length s.waiting ≡ length m.threads
  pub told : length told_up_to ≡ length m.threads
  pub ready : AreWithin m s.ready
  pub armed : AllByRecursion (λ (e : ℕ × ℕ). e.1 < length m.threads) s.armed
  pub listed : (r : ℕ) → AllByRecursion (λ (e : plain.Waiting). e.block < length m.threads) (plain.list_of s r)

abbrev pub IsSized : Machine → Local → Type 0
IsSized m l = AreSized m l.threads l.lists l.told

-- So has the world.
pub record IsSizedWorld (m : Machine) (w : World) : Type 0 where
  pub threads : length w.threads ≡ length m.threads
  pub lists : length w.waiting ≡ length m.threads
  pub clocks : length w.clocks ≡ m.cpus

-- The list of those who wait at a receiver, as its home has it.
abbrev pub senders : Machine → Scene → (receiver : ℕ) → List plain.Waiting
senders m s r = plain.list_of (s.locals (home m r)).lists r

-- What each processor keeps beside threads.
abbrev pub beside : Scene → (cpu : ℕ) → List (Option Owed)
beside s cpu = (s.locals cpu).owed

-- The relation, but for the places that an event is just about: sizes, clocks, each receiver's list, what is owed, and this fact of each
-- other place.
-- It is stated for any fact of a view, since an event is followed by facts that compute from the views.
pub record RelatesExcept (m : Machine) (Fact : ℕ → View → Type 0) (except : List ℕ) (s : Scene) (w : World) : Type 0 where
  pub sized : (cpu : ℕ) → cpu < m.cpus → IsSized m (s.locals cpu)
  pub sized_world : IsSizedWorld m w
  pub clocks : (cpu : ℕ) → cpu < m.cpus → slice_index_or w.clocks cpu 0 ≡ (s.locals cpu).clock
  pub lists : (r : ℕ) → r < length m.threads → list_at w.waiting r ≡ blocks (senders m s r)
  pub owing : Owing m (beside s) s.mail w.owed
  pub places : (i : ℕ) → i < length m.threads → NotIn i except → Fact i (view m s w i)

-- The relation whole.
abbrev pub Relates : Machine → System → World → Type 0
Relates m g w = RelatesExcept m (Matches m) [] (scene g) w
