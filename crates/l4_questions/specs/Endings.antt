-- An ending that a search found, as far as a question asks about it and an answer tells it.
use Rattle.std.specs.Prelude.{ℕ, List}
use Rattle.l4_model.specs.Words.{GlobalId}
use Rattle.l4_model.specs.Machine.{Machine}
use Rattle.l4_model.specs.Steps.{Step}

pub record Ending : Type 0 where
  -- what stands behind its number in its first line
  pub head : List ℕ
  -- the lines of its report
  pub report : List ℕ
  -- the lines that tell who waits for whom there
  pub waits : List ℕ
  -- the history that comes to it, of this machine
  pub machine : Machine
  pub trace : List Step
  -- the threads that wait there and may wait for ever
  pub stuck : List GlobalId
