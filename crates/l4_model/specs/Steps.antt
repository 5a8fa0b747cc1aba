-- The steps of a machine: where each one is possible, and the world after it.
use Rattle.std.specs.Prelude.{ℕ, ◌+◌, Bool, ◌==◌, not, ◌&&◌, nat_lt, false, Option, Some, None, List, slice_get, true, slice_set, is_none}
use Rattle.std.specs.Str.{bytes_eq}
use Rattle.l4_model.specs.Words.{GlobalId, same_id, clock_limit}
use Rattle.l4_model.specs.Machine.{OrderKind, CancelSend, CancelReceive, CancelBoth, Delete, Machine, place_of}
use Rattle.l4_model.specs.World.{Name, Receive, Send, PendingOrder, Owed, Phase, Receiving, Thread, World, change, queued, unqueued, owed_of, others_owed, one_more, must_wait, is_ready, is_deleted, is_alive, receive_now}
use Rattle.l4_model.specs.Rules.{Failure, TimeOver, NobodyThere, CancelAsked, Act, RunsAlone, Sends, Receives, Orders, received_tag, is_cross, owed_by, send_code, receive_code}
use Rattle.l4_model.specs.Effects.{runs, begins, waits, fails, decided, refused, receives, delivered, asked, orders, obeyed, turns}
use Rattle.l4_model.specs.Conditions.{◌>>=◌, ◌>>◌, Found, found, found_by, Pending, undecided, receiver_of, instruction, act_of, is_waiting, first_accepted, is_nobody, is_no_destination, has_passed, is_timed_out}

-- What a thread does: it runs an instruction that has no other step, it waits for a message, its
-- receive phase fails, or what it asked for is done.
pub data ThreadStep : Type 0 where
  Runs : ThreadStep
  Waits : ThreadStep
  Fails : Failure → ThreadStep
  Obeys : ThreadStep

-- What becomes of a send, but for its delivery. A send that was delivered may be retargeted.
pub data SendStep : Type 0 where
  Begun : SendStep
  Queued : SendStep
  Failed : Failure → SendStep
  Dropped : SendStep
  Retargeted : SendStep

-- What a history tells: a step for each change of a phase, a send, an order or a clock, and `Local`
-- where a thread runs an instruction that has none of these.
pub data Step : Type 0 where
  OfThread : ThreadStep → GlobalId → Step
  OfSend : SendStep → Name → Step
  Deliver : Name → (receiver shown actual : GlobalId) → (tag : ℕ) → (words : List ℕ) → Step
  Order : (caller target : GlobalId) → OrderKind → Step
  Tick : (cpu clock : ℕ) → Step

-- The steps of threads and of sends, by the words of a trace.

pattern abbrev pub Local : GlobalId → Step
Local t = OfThread Runs t

pattern abbrev pub Wait : GlobalId → Step
Wait t = OfThread Waits t

pattern abbrev pub ReceiveTimeout : GlobalId → Step
ReceiveTimeout t = OfThread (Fails TimeOver) t

pattern abbrev pub ReceiveNobody : GlobalId → Step
ReceiveNobody t = OfThread (Fails NobodyThere) t

pattern abbrev pub ReceiveCancel : GlobalId → Step
ReceiveCancel t = OfThread (Fails CancelAsked) t

pattern abbrev pub Obey : GlobalId → Step
Obey t = OfThread Obeys t

pattern abbrev pub Begin : Name → Step
Begin s = OfSend Begun s

pattern abbrev pub Queue : Name → Step
Queue s = OfSend Queued s

pattern abbrev pub SendTimeout : Name → Step
SendTimeout s = OfSend (Failed TimeOver) s

pattern abbrev pub SendNobody : Name → Step
SendNobody s = OfSend (Failed NobodyThere) s

pattern abbrev pub SendCancel : Name → Step
SendCancel s = OfSend (Failed CancelAsked) s

pattern abbrev pub Drop : Name → Step
Drop s = OfSend Dropped s

pattern abbrev pub Retarget : Name → Step
Retarget s = OfSend Retargeted s

-- A number for each demand, to compare them by.
abbrev pub order_kind_code : OrderKind → ℕ
order_kind_code CancelSend = 0
order_kind_code CancelReceive = 1
order_kind_code CancelBoth = 2
order_kind_code Delete = 3

abbrev pub runs_alone : Act → Bool
runs_alone RunsAlone = true
runs_alone _ = false

abbrev pub send_of : Act → Option Send
send_of (Sends send) = Some send
send_of _ = None

abbrev pub receive_of : Act → Option Receive
receive_of (Receives receive) = Some receive
receive_of _ = None

abbrev pub order_of : Act → Option PendingOrder
order_of (Orders order) = Some order
order_of _ = None

-- A thread runs an instruction that concerns nobody else, or ends.
abbrev pub after_local : Machine → World → GlobalId → Option World
after_local m w id = do
  t ← found m w id
  is_ready t.now.phase
  runs_alone (act_of m t)
  Some (change w t.at (runs (instruction t)))

-- A thread begins its next send (manual: Ipc, send phase).
abbrev pub after_begin : Machine → World → Name → Option World
after_begin m w s = do
  t ← found m w s.thread
  is_ready t.now.phase
  s.k == t.now.context.begun + 1
  send ← send_of (act_of m t)
  Some (change w t.at (begins send))

-- An undecided send is appended to the list of its destination. Not while a retarget of the
-- destination to this sender is owed (own, profile 2).
abbrev pub after_queue : Machine → World → Name → Option World
after_queue m w s = do
  p ← undecided m w s
  r ← receiver_of m w p
  is_alive r.now.phase
  not (is_waiting w p)
  not (must_wait w.owed s.thread p.send.to)
  Some (queued w r.at p.sender.at)

-- One more retarget is owed, or none.
abbrev pub owing : Option Owed → World → World
owing o w = record w { owed = one_more o w.owed }

-- The receiver waits, the send is the first in its list that it accepts, and the message is as it
-- was sent (manual: Ipc). In the same step the sender goes on, and a retarget may be owed (own,
-- profile 2).
abbrev pub after_deliver : Machine → World → Name → (receiver shown actual : GlobalId) → (tag : ℕ) →
    (words : List ℕ) → Option World
after_deliver m w s receiver shown actual tag words = do
  p ← undecided m w s
  r ← receiver_of m w p
  receive ← receive_now r.now.phase
  first ← first_accepted m w r receive.from
  first == p.sender.at
  same_id receiver r.declared.id
  same_id shown p.send.message.shown
  same_id actual p.send.message.actual
  tag == received_tag (is_cross m receiver p.send.message) p.send.message
  bytes_eq words p.send.message.words
  Some (owing (owed_by m s p.send.message receiver)
      (change (change (unqueued w p.sender.at) r.at (receives p.send.message tag)) p.sender.at
      (delivered p.send p.sender.clock)))

-- A thread begins a receive phase without a send phase (manual: Ipc, receive phase).
abbrev pub after_wait : Machine → World → GlobalId → Option World
after_wait m w id = do
  t ← found m w id
  is_ready t.now.phase
  receive ← receive_of (act_of m t)
  Some (change w t.at (waits receive t.clock))

-- A send ends without delivery: it leaves its list, and the function given changes its sender.
abbrev pub without_send : World → Pending → (Thread → Thread) → World
without_send w p f = change (unqueued w p.sender.at) p.sender.at f

-- A send may be refused: its time is over (manual: Ipc, Time) or nobody is there, and like `queue`,
-- not while a retarget holds it back (own, profile 2); or it waits, and is to be cancelled (manual:
-- ExchangeRegisters, `S`).
abbrev pub may_refuse : Machine → World → Name → Pending → Failure → Bool
may_refuse m w s p TimeOver = is_timed_out m w p && not (must_wait w.owed s.thread p.send.to)
may_refuse m w s p NobodyThere = is_no_destination p.send.to (receiver_of m w p) &&
    not (must_wait w.owed s.thread p.send.to)
may_refuse m w s p CancelAsked = is_waiting w p && p.sender.now.cancel_send

-- A send is refused.
abbrev pub after_refusal : Machine → World → Name → Failure → Option World
after_refusal m w s why = do
  p ← undecided m w s
  may_refuse m w s p why
  Some (without_send w p (refused (send_code why)))

-- The waiting send of a deleted thread is dropped (own).
abbrev pub after_drop : Machine → World → Name → Option World
after_drop m w s = do
  p ← undecided m w s
  is_waiting w p
  is_deleted p.sender.now.phase
  Some (without_send w p decided)

-- The period of the receive phase that a thread is in has passed.
abbrev pub receive_passed : Found → Phase → Bool
receive_passed t (Receiving receive since) = has_passed receive.period since t.clock
receive_passed t _ = false

-- A receive phase may fail: its time is over (manual: Ipc, Time) or nobody has the id that it names,
-- and no message that it accepts waits (own); or it is to be cancelled (manual: ExchangeRegisters,
-- `R`).
abbrev pub may_fail : Machine → World → Found → Receive → Failure → Bool
may_fail m w t receive TimeOver = receive_passed t t.now.phase &&
    is_none (first_accepted m w t receive.from)
may_fail m w t receive NobodyThere = is_nobody receive.from (found_by m w receive.from) &&
    is_none (first_accepted m w t receive.from)
may_fail m w t receive CancelAsked = t.now.cancel_receive

-- A receive phase fails.
abbrev pub after_failure : Machine → World → GlobalId → Failure → Option World
after_failure m w id why = do
  t ← found m w id
  receive ← receive_now t.now.phase
  may_fail m w t receive why
  Some (change w t.at (fails (receive_code why)))

-- A thread asks for a cancellation or a deletion (manual: ExchangeRegisters, ThreadControl), and
-- waits until it is done.
abbrev pub after_order : Machine → World → (caller target : GlobalId) → OrderKind → Option World
after_order m w caller target what = do
  t ← found m w caller
  is_ready t.now.phase
  order ← order_of (act_of m t)
  same_id target order.target && order_kind_code what == order_kind_code order.what
  Some (change w t.at (orders order))

-- What a thread asked for is done.
abbrev pub after_obey : Machine → World → GlobalId → Option World
after_obey m w caller = do
  t ← found m w caller
  order ← t.now.order
  target ← place_of m order.target
  Some (change (change w target (asked order.what)) t.at obeyed)

-- The originator of a delivered send turns to the thread that received it, and no longer owes it
-- (own, profile 2). It is always declared.
abbrev pub after_retarget : Machine → World → Name → Option World
after_retarget m w s = do
  o ← owed_of w.owed s
  t ← found m w o.originator
  Some (change (record w { owed = others_owed w.owed s }) t.at (turns o))

-- The clock of a processor goes on.
abbrev pub after_tick : Machine → World → (cpu clock : ℕ) → Option World
after_tick m w cpu clock = do
  now ← slice_get w.clocks cpu
  nat_lt now clock && nat_lt clock clock_limit
  Some (record w { clocks = slice_set w.clocks cpu clock })

abbrev pub after_thread : Machine → World → GlobalId → ThreadStep → Option World
after_thread m w t Runs = after_local m w t
after_thread m w t Waits = after_wait m w t
after_thread m w t (Fails why) = after_failure m w t why
after_thread m w t Obeys = after_obey m w t

abbrev pub after_send : Machine → World → Name → SendStep → Option World
after_send m w s Begun = after_begin m w s
after_send m w s Queued = after_queue m w s
after_send m w s (Failed why) = after_refusal m w s why
after_send m w s Dropped = after_drop m w s
after_send m w s Retargeted = after_retarget m w s

-- The world after a step. None exactly where it is not possible.
abbrev pub next : Machine → World → Step → Option World
next m w (OfThread kind t) = after_thread m w t kind
next m w (OfSend kind s) = after_send m w s kind
next m w (Deliver s receiver shown actual tag words) =
    after_deliver m w s receiver shown actual tag words
next m w (Order caller target what) = after_order m w caller target what
next m w (Tick cpu clock) = after_tick m w cpu clock
