-- A part of a history: the steps from one number to another, counted from 1, the threads that are
-- chosen, or all, whether it is told what changes in their registers, and whether `local` steps are
-- left out.
use Rattle.std.specs.Prelude.{ℕ, ◌-◌, min, Bool, Option, Some, None, List}
use Rattle.l4_model.specs.Words.{GlobalId}

pub record Part : Type 0 where
  pub first : ℕ
  pub last : ℕ
  pub threads : Option (List GlobalId)
  pub registers : Bool
  pub folds : Bool

-- The steps of a part that stand before the first step that is not possible.
abbrev pub until_refused : (refused : Option ℕ) → Part → Part
until_refused None part = part
until_refused (Some number) part = record part { last = min part.last (number - 1) }
