-- Worlds without what no step reads of deleted threads.
use Rattle.std.specs.Prelude.{ℕ, zero, suc, ◌++◌, ◌≡◌, Bool, true, if◌then◌else◌, Some, List, [], ◌∷◌, length, map}
use Rattle.std.specs.List.{AllByRecursion}
use Rattle.l4_model.specs.Machine.{Machine}
use Rattle.l4_model.specs.World.{Thread, World, opening_context, is_in, is_deleted}
use Rattle.l4_model.specs.Steps.{Step}
use Rattle.l4_model.specs.History.{run}
use Rattle.l4_model.specs.Still.{is_tick}
use Rattle.l4_worlds.specs.Timeless.{timeless}
use Rattle.l4_worlds.specs.Late.{run_late, no_ticks}
use Rattle.l4_worlds.specs.Numberless.{numberless, numberless_step}

-- The registers and the place of a deleted thread as at the opening.

abbrev pub forgotten : Thread → Thread
forgotten t = record t { context = record opening_context { begun = t.context.begun } }

abbrev pub bare_thread : Thread → Thread
bare_thread t = if is_deleted t.phase then forgotten t else t

-- The places below a number that stand in a list, in falling order.
abbrev pub in_order : ℕ → List ℕ → List ℕ
in_order zero xs = []
in_order (suc n) xs = if is_in n xs then n ∷ in_order n xs else in_order n xs

abbrev pub deleted_ones : List Thread → List Bool
deleted_ones threads = map (λ t. is_deleted t.phase) threads

-- The lists of the marked threads in order of places.
abbrev pub bare_lists : ℕ → List Bool → List (List ℕ) → List (List ℕ)
bare_lists n [] lists = lists
bare_lists n (mark ∷ marks) [] = []
bare_lists n (mark ∷ marks) (xs ∷ lists) =
    (if mark then in_order n xs else xs) ∷ bare_lists n marks lists

abbrev pub bare : World → World
bare w = record w {
  threads = map bare_thread w.threads;
  waiting = bare_lists (length w.threads) (deleted_ones w.threads) w.waiting;
}

-- They are equal but for time, for numbers and counts of sends, and for the registers, the place
-- and the order of what waits of deleted threads.
abbrev pub AreAsGood : World → World → Type 0
AreAsGood w v = numberless (bare (timeless w)) ≡ numberless (bare (timeless v))

-- After ticks alone a step is possible that is this one but for the number of its send, and leads
-- to a world as good as this one.
pub record LeadsAsWell (m : Machine) (v : World) (step : Step) (w : World) : Type 0 where
  pub ticks : List Step
  pub are_ticks : AllByRecursion (λ tick. is_tick tick ≡ true) ticks
  pub last : Step
  pub same_step : numberless_step last ≡ numberless_step step
  pub after : World
  pub leads_to : run m v (ticks ++ last ∷ []) ≡ Some after
  pub as_good : AreAsGood w after

-- A history goes on from here by the same steps as that one but for ticks and the numbers of sends,
-- and reaches a world as good as this one.
pub record GoesAsWell (m : Machine) (v : World) (steps : List Step) (w : World) : Type 0 where
  pub more : List Step
  pub same_steps : map numberless_step (no_ticks more) ≡ map numberless_step (no_ticks steps)
  pub after : World
  pub leads_to : run m v more ≡ Some after
  pub as_good : AreAsGood w after

-- So of runs in which each finite period is over.
pub record GoesAsWellLate (m : Machine) (v : World) (steps : List Step) (w : World) : Type 0 where
  pub more : List Step
  pub same_steps : map numberless_step more ≡ map numberless_step steps
  pub after : World
  pub leads_to : run_late m v more ≡ Some after
  pub as_good : AreAsGood w after
