-- States of core runs that are alike but for the numbers of sends and for how late it is.
use Rattle.std.specs.Prelude.{ℕ, ◌-◌, ◌<◌, ◌≡◌, Option, None, Some, map, slice_get}
use Rattle.std.specs.Option.{option_map}
use Rattle.l4_model.specs.Words.{clock_limit}
use Rattle.l4_model.specs.World.{Phase, Ready, Sending, Receiving, Ordering, Ended, Deleted, Send, Thread}
use Rattle.l4_model.specs.Steps.{Step, Local as RanLocal, Begin, Queue, Deliver, Wait, SendTimeout, ReceiveTimeout, SendNobody, ReceiveNobody, SendCancel, ReceiveCancel, Drop, Order, Obey, Tick, Retarget}
use Rattle.l4_core_model.specs.Local.{Local}
use Rattle.l4_core_model.specs.Runs.{System, Happened}
use Rattle.l4_bisimilar.specs.Alike.{IsAlike}
use Rattle.l4_bisimilar.specs.Similar.{numberless_name, numberless_owed, numberless_posted}

-- Phases and sends without when they began

abbrev pub timeless_phase : Phase → Phase
timeless_phase Ready = Ready
timeless_phase Sending = Sending
timeless_phase (Receiving receive since) = Receiving receive 0
timeless_phase Ordering = Ordering
timeless_phase Ended = Ended
timeless_phase Deleted = Deleted

abbrev pub timeless_send : Send → Send
timeless_send s = record s { since = 0 }

abbrev pub relative_thread : Thread → Thread
relative_thread t =
    record t {
      context = record t.context { begun = 0 };
      phase = timeless_phase t.phase;
      send = option_map timeless_send t.send;
    }

-- Deadlines, relative to the clock

abbrev pub ahead : (clock : ℕ) → ℕ × ℕ → ℕ × ℕ
ahead clock e = (e.0 - clock, e.1)

abbrev pub relative_local : Local → Local
relative_local l =
    record l {
      threads = map relative_thread l.threads;
      lists = record l.lists { armed = map (ahead l.clock) l.lists.armed };
      owed = map (option_map numberless_owed) l.owed;
      clock = 0;
    }

abbrev pub relative : System → System
relative g = record { locals = map relative_local g.locals; mail = map numberless_posted g.mail }

abbrev pub relative_step : Step → Step
relative_step (Tick cpu clock) = Tick cpu 0
relative_step (RanLocal t) = RanLocal t
relative_step (Begin s) = Begin (numberless_name s)
relative_step (Queue s) = Queue (numberless_name s)
relative_step (Deliver s receiver shown actual tag words) =
    Deliver (numberless_name s) receiver shown actual tag words
relative_step (Wait t) = Wait t
relative_step (SendTimeout s) = SendTimeout (numberless_name s)
relative_step (ReceiveTimeout t) = ReceiveTimeout t
relative_step (SendNobody s) = SendNobody (numberless_name s)
relative_step (ReceiveNobody t) = ReceiveNobody t
relative_step (SendCancel s) = SendCancel (numberless_name s)
relative_step (ReceiveCancel t) = ReceiveCancel t
relative_step (Drop s) = Drop (numberless_name s)
relative_step (Order caller target what) = Order caller target what
relative_step (Obey caller) = Obey caller
relative_step (Retarget s) = Retarget (numberless_name s)

-- They are equal without numbers, and relative to their clocks.
abbrev pub IsShifted : System → System → Type 0
IsShifted g h = IsAlike (relative g) (relative h)

-- It is told by the same steps, but for numbers and clocks, and leads to two such states.
pub record HappenShifted (a b : Happened) : Type 0 where
  pub cpu : a.event.cpu ≡ b.event.cpu
  pub steps : map relative_step a.event.steps ≡ map relative_step b.event.steps
  pub system : IsShifted a.system b.system

abbrev pub AreShifted : Option Happened → Option Happened → Type 0
AreShifted None None = Unit {0}
AreShifted (Some a) (Some b) = HappenShifted a b
AreShifted None (Some b) = ⊥
AreShifted (Some a) None = ⊥

-- The clock of a processor goes on by as much in both, to one below the limit.
pub record GoOnAlike (g h : System) (cpu to then : ℕ) : Type 0 where
  pub by : (l k : Local) → slice_get g.locals cpu ≡ Some l → slice_get h.locals cpu ≡ Some k →
      to - l.clock ≡ then - k.clock
  pub first : to < clock_limit
  pub second : then < clock_limit
