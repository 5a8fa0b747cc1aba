-- Which ends a world may come to: what a search of all worlds needs of its choices.
use Rattle.std.specs.Prelude.{ℕ, suc, ◌≡◌, Bool, true, false, Some, List, [], ◌∷◌, length, slice_get}
use Rattle.l4_model.specs.Machine.{Machine}
use Rattle.l4_model.specs.World.{World}
use Rattle.l4_model.specs.Steps.{Step}
use Rattle.l4_worlds.specs.Late.{run_late}
use Rattle.l4_worlds.specs.Histories.{IsStillLate}
use Rattle.l4_futures.specs.Inner.Codes.{code_of}
use Rattle.l4_futures.specs.Choices.{Choice, possible, tried, world_after, after_entry}

-- Nothing is possible.
abbrev pub is_end : Machine → World → Bool
is_end m w = is_empty (possible m w)
  where
    is_empty : List Choice → Bool
    is_empty [] = true
    is_empty (c ∷ cs) = false

-- So many more steps may lead from a world to an end of this code.
pub record EndsIn (m : Machine) (w : World) (more : ℕ) (code : List ℕ) : Type 0 where
  pub steps : List Step
  pub as_many : length steps ≡ more
  pub last : World
  pub leads : run_late m w steps ≡ Some last
  pub still : IsStillLate m last
  pub coded : code_of m last ≡ code

-- One of the choices that are tried leads on to it.
pub record GoesTowards (m : Machine) (w : World) (more : ℕ) (code : List ℕ) : Type 0 where
  pub place : ℕ
  pub choice : Choice
  pub is_tried : slice_get (tried m w) place ≡ Some choice
  pub behind : World
  pub leads : after_entry m w choice.entry ≡ Some behind
  pub ends : EndsIn m behind more code

-- What a search needs: of no steps the end is the world itself; worlds of one code have the same
-- ends; the choices that are tried lose none; and a world is an end where nothing is possible.
pub record AreWays (m : Machine) : Type 0 where
  pub none : (w : World) (code : List ℕ) → EndsIn m w 0 code → code_of m w ≡ code
  pub same : (g h : List ℕ) (w v : World) (more : ℕ) (code : List ℕ) →
      world_after m g ≡ Some w → world_after m h ≡ Some v → code_of m w ≡ code_of m v →
      EndsIn m w more code → EndsIn m v more code
  pub onwards : (g : List ℕ) (w : World) (more : ℕ) (code : List ℕ) →
      world_after m g ≡ Some w → EndsIn m w (suc more) code → GoesTowards m w more code
  pub at_end : (g : List ℕ) (w : World) → world_after m g ≡ Some w → is_end m w ≡ true →
      IsStillLate m w
