-- Why a step is not possible: the conditions of its rule, in the rule's order.
use Rattle.std.specs.Prelude.{ℕ, ◌≡◌, ◌+◌, Bool, true, false, ◌==◌, not, ◌&&◌, nat_lt, if◌then◌else◌, Option, Some, None, is_some, is_none, List, [], ◌∷◌, ◌++◌, slice_get}
use Rattle.std.specs.List.{list_all}
use Rattle.std.specs.Str.{bytes_eq}
use Rattle.l4_model.specs.Words.{GlobalId, same_id, clock_limit}
use Rattle.l4_model.specs.Machine.{Machine, OrderKind, place_of}
use Rattle.l4_model.specs.World as world
use Rattle.l4_model.specs.World.{Name, World, owed_of, must_wait, is_ready, is_deleted, is_alive, receive_now}
use Rattle.l4_model.specs.Rules.{received_tag, is_cross}
use Rattle.l4_model.specs.Conditions.{Found, Pending, found, found_by, undecided, receiver_of, act_of, is_waiting, first_accepted, is_nobody, is_no_destination, is_timed_out}
use Rattle.l4_model.specs.Steps.{Step, Local, Begin, Queue, Deliver, Wait, SendTimeout, ReceiveTimeout, SendNobody, ReceiveNobody, SendCancel, ReceiveCancel, Drop, Order, Obey, Tick, Retarget, order_kind_code, runs_alone, send_of, receive_of, order_of, receive_passed, next}
use Rattle.l4_types.specs.declared.reports.State.{State}
use Rattle.l4_types.specs.declared.reports.State.TheVariants.{Ready, Sending, Receiving, Ordering, Ended, Deleted}
use Rattle.l4_audit.specs.declared.reasons.Reason.{Reason}
use Rattle.l4_audit.specs.declared.reasons.Reason.TheVariants.{Undeclared, NotReady, NotLocal, NotNext, NoSendPhase, NoReceivePhase, NoOrder, OtherOrder, NotUndecided, NoReceiver, ReceiverDeleted, Waiting, NotWaiting, MustWait, NotReceiving, AcceptsNone, NotFirst, OtherReceiver, OtherShown, OtherSender, OtherTag, OtherWords, NotTimedOut, HasDestination, SendNotCancelled, SenderNotDeleted, ReceiveNotPassed, HasPartner, AcceptsFirst, ReceiveNotCancelled, AskedNothing, TargetUndeclared, NoProcessor, ClockAt, PastClocks, NotOwed, OriginatorUndeclared}
use Rattle.l4_audit.specs.Starting.{id_at}

-- A condition of a rule, and the reason that is told if the condition is false.
pub record Condition : Type 0 where
  pub reason : Reason
  pub holds : Bool

abbrev pub test : Bool → Reason → Condition
test b r = record { reason = r; holds = b }

-- In a `do` block each line is a condition: `need o r as x` goes on if o has a value, `test b r`
-- always goes on.
pub record Needed (A : Type 0) : Type 0 where
  pub value : Option A
  pub reason : Reason

abbrev pub need : {A : Type 0} → Option A → Reason → Needed A
need o r = record { value = o; reason = r }

abbrev pub with_value : {A : Type 0} → Reason → Option A → (A → List Condition) → List Condition
with_value r None f = test false r ∷ []
with_value r (Some x) f = test true r ∷ f x

infixl 10 ◌>>=◌
abbrev pub ◌>>=◌ : {A : Type 0} → Needed A → (A → List Condition) → List Condition
n >>= f = with_value n.reason n.value f

infixl 10 ◌>>◌
abbrev pub ◌>>◌ : Condition → List Condition → List Condition
c >> cs = c ∷ cs

-- The state that a phase is reported as.
abbrev pub state_in : world.Phase → State
state_in world.Ready = Ready
state_in world.Sending = Sending
state_in (world.Receiving receive since) = Receiving
state_in world.Ordering = Ordering
state_in world.Ended = Ended
state_in world.Deleted = Deleted

abbrev pub of_local : Machine → World → GlobalId → List Condition
of_local m w id = do
  t ← need (found m w id) Undeclared
  test (is_ready t.now.phase) (NotReady (state_in t.now.phase))
  test (runs_alone (act_of m t)) NotLocal
  []

abbrev pub of_begin : Machine → World → Name → List Condition
of_begin m w s = do
  t ← need (found m w s.thread) Undeclared
  test (is_ready t.now.phase) (NotReady (state_in t.now.phase))
  test (s.k == t.now.context.begun + 1) (NotNext t.now.context.begun)
  test (is_some (send_of (act_of m t))) NoSendPhase
  []

abbrev pub of_queue : Machine → World → Name → List Condition
of_queue m w s = do
  p ← need (undecided m w s) NotUndecided
  r ← need (receiver_of m w p) (NoReceiver p.send.to)
  test (is_alive r.now.phase) (ReceiverDeleted r.declared.id)
  test (not (is_waiting w p)) Waiting
  test (not (must_wait w.owed s.thread p.send.to)) (MustWait p.send.to)
  []

-- What a delivery tells is the message of this send to this receiver.
abbrev pub of_message : Machine → Pending → Found → (receiver shown actual : GlobalId) → (tag : ℕ) →
    (words : List ℕ) → List Condition
of_message m p r receiver shown actual tag words = do
  test (same_id receiver r.declared.id) (OtherReceiver r.declared.id)
  test (same_id shown p.send.message.shown) (OtherShown p.send.message.shown)
  test (same_id actual p.send.message.actual) (OtherSender p.send.message.actual)
  test (tag == received_tag (is_cross m receiver p.send.message) p.send.message)
      (OtherTag (received_tag (is_cross m receiver p.send.message) p.send.message))
  test (bytes_eq words p.send.message.words) OtherWords
  []

abbrev pub of_deliver : Machine → World → Name → (receiver shown actual : GlobalId) → (tag : ℕ) →
    (words : List ℕ) → List Condition
of_deliver m w s receiver shown actual tag words = do
  p ← need (undecided m w s) NotUndecided
  r ← need (receiver_of m w p) (NoReceiver p.send.to)
  receive ← need (receive_now r.now.phase) (NotReceiving (state_in r.now.phase))
  first ← need (first_accepted m w r receive.from) AcceptsNone
  test (first == p.sender.at) (NotFirst (id_at m first))
  of_message m p r receiver shown actual tag words

abbrev pub of_wait : Machine → World → GlobalId → List Condition
of_wait m w id = do
  t ← need (found m w id) Undeclared
  test (is_ready t.now.phase) (NotReady (state_in t.now.phase))
  test (is_some (receive_of (act_of m t))) NoReceivePhase
  []

abbrev pub of_send_timeout : Machine → World → Name → List Condition
of_send_timeout m w s = do
  p ← need (undecided m w s) NotUndecided
  test (is_timed_out m w p) (NotTimedOut p.sender.clock)
  test (not (must_wait w.owed s.thread p.send.to)) (MustWait p.send.to)
  []

abbrev pub of_send_nobody : Machine → World → Name → List Condition
of_send_nobody m w s = do
  p ← need (undecided m w s) NotUndecided
  test (is_no_destination p.send.to (receiver_of m w p)) (HasDestination p.send.to)
  test (not (must_wait w.owed s.thread p.send.to)) (MustWait p.send.to)
  []

abbrev pub of_send_cancel : Machine → World → Name → List Condition
of_send_cancel m w s = do
  p ← need (undecided m w s) NotUndecided
  test (is_waiting w p) NotWaiting
  test p.sender.now.cancel_send SendNotCancelled
  []

abbrev pub of_drop : Machine → World → Name → List Condition
of_drop m w s = do
  p ← need (undecided m w s) NotUndecided
  test (is_waiting w p) NotWaiting
  test (is_deleted p.sender.now.phase) (SenderNotDeleted (state_in p.sender.now.phase))
  []

-- No send that is accepted waits. Else the reason is the first of them.
abbrev pub none_accepted : Machine → Option ℕ → Condition
none_accepted m None = test true AcceptsNone
none_accepted m (Some first) = test false (AcceptsFirst (id_at m first))

abbrev pub of_receive_timeout : Machine → World → GlobalId → List Condition
of_receive_timeout m w id = do
  t ← need (found m w id) Undeclared
  receive ← need (receive_now t.now.phase) (NotReceiving (state_in t.now.phase))
  test (receive_passed t t.now.phase) (ReceiveNotPassed t.clock)
  none_accepted m (first_accepted m w t receive.from)
  []

abbrev pub of_receive_nobody : Machine → World → GlobalId → List Condition
of_receive_nobody m w id = do
  t ← need (found m w id) Undeclared
  receive ← need (receive_now t.now.phase) (NotReceiving (state_in t.now.phase))
  test (is_nobody receive.from (found_by m w receive.from)) (HasPartner receive.from)
  none_accepted m (first_accepted m w t receive.from)
  []

abbrev pub of_receive_cancel : Machine → World → GlobalId → List Condition
of_receive_cancel m w id = do
  t ← need (found m w id) Undeclared
  receive ← need (receive_now t.now.phase) (NotReceiving (state_in t.now.phase))
  test t.now.cancel_receive ReceiveNotCancelled
  []

abbrev pub of_order : Machine → World → (caller target : GlobalId) → OrderKind → List Condition
of_order m w caller target what = do
  t ← need (found m w caller) Undeclared
  test (is_ready t.now.phase) (NotReady (state_in t.now.phase))
  order ← need (order_of (act_of m t)) NoOrder
  test (same_id target order.target && order_kind_code what == order_kind_code order.what)
      (OtherOrder order)
  []

abbrev pub of_obey : Machine → World → GlobalId → List Condition
of_obey m w caller = do
  t ← need (found m w caller) Undeclared
  order ← need t.now.order AskedNothing
  test (is_some (place_of m order.target)) (TargetUndeclared order.target)
  []

abbrev pub of_tick : World → (cpu clock : ℕ) → List Condition
of_tick w cpu clock = do
  now ← need (slice_get w.clocks cpu) NoProcessor
  test (nat_lt now clock) (ClockAt now)
  test (nat_lt clock clock_limit) PastClocks
  []

abbrev pub of_retarget : Machine → World → Name → List Condition
of_retarget m w s = do
  o ← need (owed_of w.owed s) NotOwed
  test (is_some (found m w o.originator)) (OriginatorUndeclared o.originator)
  []

-- The conditions of a step's rule. One that needs a value stands there only if the condition that
-- gives this value is true.
abbrev pub conditions : Machine → World → Step → List Condition
conditions m w (Local t) = of_local m w t
conditions m w (Begin s) = of_begin m w s
conditions m w (Queue s) = of_queue m w s
conditions m w (Deliver s receiver shown actual tag words) =
    of_deliver m w s receiver shown actual tag words
conditions m w (Wait t) = of_wait m w t
conditions m w (SendTimeout s) = of_send_timeout m w s
conditions m w (ReceiveTimeout t) = of_receive_timeout m w t
conditions m w (SendNobody s) = of_send_nobody m w s
conditions m w (ReceiveNobody t) = of_receive_nobody m w t
conditions m w (SendCancel s) = of_send_cancel m w s
conditions m w (ReceiveCancel t) = of_receive_cancel m w t
conditions m w (Drop s) = of_drop m w s
conditions m w (Order caller target what) = of_order m w caller target what
conditions m w (Obey caller) = of_obey m w caller
conditions m w (Tick cpu clock) = of_tick w cpu clock
conditions m w (Retarget s) = of_retarget m w s

-- The first condition that is false.
abbrev pub first_false : List Condition → Option Reason
first_false [] = None
first_false (c ∷ cs) = if c.holds then first_false cs else Some c.reason

-- Why a step is not possible. None exactly if it is possible.
abbrev pub reason : Machine → World → Step → Option Reason
reason m w step = first_false (conditions m w step)

-- The reason is that of a condition that is false, and the conditions before it are true.
pub record IsFirstFalse (r : Reason) (cs : List Condition) : Type 0 where
  pub before : List Condition
  pub later : List Condition
  pub stands : cs ≡ before ++ test false r ∷ later
  pub true_before : list_all (λ (c : Condition). c.holds) before ≡ true

pub record TellsWhy (m : Machine) (w : World) (step : Step) : Type 0 where
  pub possible : is_none (reason m w step) ≡ is_some (next m w step)
  pub first : (r : Reason) → reason m w step ≡ Some r → IsFirstFalse r (conditions m w step)
