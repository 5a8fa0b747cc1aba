-- What each step shows in a chart.
use Rattle.l4_model.specs.Steps as steps
use Rattle.l4_chart.specs.declared.marks.Kind.TheVariants as kind
use Rattle.l4_chart.specs.declared.marks.Mark.{Mark}
use Rattle.l4_chart.specs.declared.marks.Mark.TheVariants.{Point, Arrow, Clock}

-- A delivery is an arrow from its sender to its receiver, and nothing else is an arrow. A send
-- stands at its thread.
abbrev pub mark_of : steps.Step → Mark
mark_of (steps.Local t) = Point t kind.Local
mark_of (steps.Begin s) = Point s.thread kind.Begin
mark_of (steps.Queue s) = Point s.thread kind.Queue
mark_of (steps.Deliver s receiver shown actual tag words) = Arrow s.thread receiver
mark_of (steps.Wait t) = Point t kind.Wait
mark_of (steps.SendTimeout s) = Point s.thread kind.SendFailure
mark_of (steps.ReceiveTimeout t) = Point t kind.ReceiveFailure
mark_of (steps.SendNobody s) = Point s.thread kind.SendFailure
mark_of (steps.ReceiveNobody t) = Point t kind.ReceiveFailure
mark_of (steps.SendCancel s) = Point s.thread kind.SendFailure
mark_of (steps.ReceiveCancel t) = Point t kind.ReceiveFailure
mark_of (steps.Drop s) = Point s.thread kind.SendFailure
mark_of (steps.Order caller target what) = Point caller kind.Order
mark_of (steps.Obey caller) = Point caller kind.Obey
mark_of (steps.Tick cpu clock) = Clock cpu clock
mark_of (steps.Retarget s) = Point s.thread kind.Retarget
