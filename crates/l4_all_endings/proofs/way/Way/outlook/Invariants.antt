use Rattle.std.proofs.Common.{◌≡◌, take}
use Rattle.l4_outlooks.specs.Inner.Foreseen.{IsLed}
use Rattle.l4_all_endings.proofs.way.Way.outlook.Given as goal

-- The entries before the next one were taken.
abbrev pub invariant-loop-place : goal.invariant-loop-place
invariant-loop-place l = record {
  same : l.self ≡ l.fn.self;
  led : IsLed l.fn.self (take l.place l.entries) l.outlook;
}
