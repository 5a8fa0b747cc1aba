-- The clock of a processor becomes a number.
use Rattle.std.specs.Prelude.{ℕ}

pub record ClockTick : Type 0 where
  pub cpu : ℕ
  pub clock : ℕ
