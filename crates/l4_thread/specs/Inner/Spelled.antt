-- Periods and demands, back from the model's to the program's.
use Rattle.std.proofs.Common.{◌≡◌, refl, arith}
use Rattle.l4_model.specs.Machine as machine
use Rattle.l4_types.specs.declared.times.Period.{Period}
use Rattle.l4_types.specs.declared.times.Period.TheVariants.{Never, Zero, Ticks}
use Rattle.l4_types.specs.Inner.PeriodView.{period_of, period_from, IsTimely}
use Rattle.l4_types.specs.declared.steps.OrderKind.{OrderKind}
use Rattle.l4_types.specs.declared.steps.OrderKind.TheVariants.{CancelSend, CancelReceive, CancelBoth, Delete}
use Rattle.l4_types.specs.StepView.{order_kind_of}

pub period_from_of : (p : Period) → IsTimely p → period_from (period_of p) ≡ p
period_from_of Never h = refl
period_from_of Zero h = refl
period_from_of (Ticks n) h = Prim.grind arith

abbrev pub order_kind_from : machine.OrderKind → OrderKind
order_kind_from machine.CancelSend = CancelSend
order_kind_from machine.CancelReceive = CancelReceive
order_kind_from machine.CancelBoth = CancelBoth
order_kind_from machine.Delete = Delete

pub order_kind_from_of : (what : OrderKind) → order_kind_from (order_kind_of what) ≡ what
order_kind_from_of CancelSend = refl
order_kind_from_of CancelReceive = refl
order_kind_from_of CancelBoth = refl
order_kind_from_of Delete = refl
