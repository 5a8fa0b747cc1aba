-- States of a core run that are alike but for the numbers of sends.
use Rattle.std.specs.Prelude.{◌≡◌, Option, None, Some, map}
use Rattle.std.specs.Option.{option_map}
use Rattle.l4_model.specs.World.{Name, Owed, Thread}
use Rattle.l4_model.specs.Steps.{Step, Local as RanLocal, Begin, Queue, Deliver, Wait, SendTimeout, ReceiveTimeout, SendNobody, ReceiveNobody, SendCancel, ReceiveCancel, Drop, Order, Obey, Tick, Retarget}
use Rattle.l4_core_model.specs.Letters.{Content, SendLetter, DoneLetter, WithdrawLetter, GoneLetter, OrderLetter, OrderDoneLetter, RetargetLetter, Letter}
use Rattle.l4_core_model.specs.Local.{Local}
use Rattle.l4_core_model.specs.Runs.{System, Posted, Happened}
use Rattle.l4_bisimilar.specs.Alike.{IsAlike}

-- All counts and numbers of sends as 0.

abbrev pub numberless_name : Name → Name
numberless_name s = record s { k = 0 }

abbrev pub numberless_owed : Owed → Owed
numberless_owed o = record o { send = numberless_name o.send }

abbrev pub numberless_thread : Thread → Thread
numberless_thread t = record t { context = record t.context { begun = 0 } }

abbrev pub numberless_local : Local → Local
numberless_local l =
    record l {
      threads = map numberless_thread l.threads;
      owed = map (option_map numberless_owed) l.owed;
    }

abbrev pub numberless_content : Content → Content
numberless_content (SendLetter s receiver message zero_timeout) =
    SendLetter (numberless_name s) receiver message zero_timeout
numberless_content (DoneLetter s result) = DoneLetter (numberless_name s) result
numberless_content (WithdrawLetter s receiver cause) =
    WithdrawLetter (numberless_name s) receiver cause
numberless_content (GoneLetter id) = GoneLetter id
numberless_content (OrderLetter caller target what) = OrderLetter caller target what
numberless_content (OrderDoneLetter caller) = OrderDoneLetter caller
numberless_content (RetargetLetter o) = RetargetLetter (numberless_owed o)

abbrev pub numberless_letter : Letter → Letter
numberless_letter letter = record letter { content = numberless_content letter.content }

abbrev pub numberless_posted : Posted → Posted
numberless_posted p = record p { letter = numberless_letter p.letter }

abbrev pub numberless : System → System
numberless g =
    record { locals = map numberless_local g.locals; mail = map numberless_posted g.mail }

abbrev pub numberless_step : Step → Step
numberless_step (RanLocal t) = RanLocal t
numberless_step (Begin s) = Begin (numberless_name s)
numberless_step (Queue s) = Queue (numberless_name s)
numberless_step (Deliver s receiver shown actual tag words) =
    Deliver (numberless_name s) receiver shown actual tag words
numberless_step (Wait t) = Wait t
numberless_step (SendTimeout s) = SendTimeout (numberless_name s)
numberless_step (ReceiveTimeout t) = ReceiveTimeout t
numberless_step (SendNobody s) = SendNobody (numberless_name s)
numberless_step (ReceiveNobody t) = ReceiveNobody t
numberless_step (SendCancel s) = SendCancel (numberless_name s)
numberless_step (ReceiveCancel t) = ReceiveCancel t
numberless_step (Drop s) = Drop (numberless_name s)
numberless_step (Order caller target what) = Order caller target what
numberless_step (Obey caller) = Obey caller
numberless_step (Tick cpu clock) = Tick cpu clock
numberless_step (Retarget s) = Retarget (numberless_name s)

-- They are equal without numbers.
abbrev pub IsSimilar : System → System → Type 0
IsSimilar g h = IsAlike (numberless g) (numberless h)

-- What happens is told by the same steps of the same processor, but for the numbers of sends, and
-- leads to similar states.
pub record HappenSimilar (a b : Happened) : Type 0 where
  pub cpu : a.event.cpu ≡ b.event.cpu
  pub steps : map numberless_step a.event.steps ≡ map numberless_step b.event.steps
  pub system : IsSimilar a.system b.system

-- Either both can happen, similarly, or neither can.
abbrev pub AreSimilar : Option Happened → Option Happened → Type 0
AreSimilar None None = Unit {0}
AreSimilar (Some a) (Some b) = HappenSimilar a b
AreSimilar None (Some b) = ⊥
AreSimilar (Some a) None = ⊥
