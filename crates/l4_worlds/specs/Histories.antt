-- Histories without their ticks.
use Rattle.std.specs.Prelude.{ℕ, ◌*◌, ◌<◌, ◌≡◌, Some, None, IfSome, slice_get}
use Rattle.std.specs.List.{AllByRecursion}
use Rattle.l4_model.specs.Words.{Period, period_limit, clock_limit}
use Rattle.l4_model.specs.Machine.{Machine, Declaration, Instr, Ipc}
use Rattle.l4_model.specs.World.{World, Thread, Phase, Receiving, Send}
use Rattle.l4_model.specs.Steps.{Step}
use Rattle.l4_worlds.specs.Late.{next_late}
use Rattle.l4_worlds.specs.Inner.Room.{HaveProcessors}

-- Each period of a script is one that a time has.

abbrev pub IsShort : Period → Type 0
IsShort period = IfSome period (λ n. n < period_limit)

abbrev pub IsShortIn : Instr → Type 0
IsShortIn (Ipc to from send_period receive_period) = IsShort send_period × IsShort receive_period
IsShortIn _ = Unit {0}

abbrev pub AreShort : Machine → Type 0
AreShort m = AllByRecursion (λ (d : Declaration). AllByRecursion IsShortIn d.script) m.threads

-- What a machine of a text has.
pub record IsTimed (m : Machine) : Type 0 where
  pub processors : HaveProcessors m
  pub periods : AreShort m

-- So many steps leave room on the clocks.
abbrev pub HasRoomFor : ℕ → Type 0
HasRoomFor steps = steps * period_limit < clock_limit

-- Nothing can happen, however late.
abbrev pub IsStillLate : Machine → World → Type 0
IsStillLate m w = (step : Step) → next_late m w step ≡ None

-- No period stands that is finite and not zero.

abbrev pub IsNeverOrZero : Period → Type 0
IsNeverOrZero period = IfSome period (λ n. n ≡ 0)

abbrev pub IsUntimedIn : Phase → Type 0
IsUntimedIn (Receiving receive since) = IsNeverOrZero receive.period
IsUntimedIn _ = Unit {0}

abbrev pub IsUntimed : World → Type 0
IsUntimed w = (i : ℕ) (t : Thread) → slice_get w.threads i ≡ Some t →
    IsUntimedIn t.phase × IfSome t.send (λ (send : Send). IsNeverOrZero send.period)
