-- Each act of an event keeps the clock of its processor.
use Rattle.l4_model.specs.Options.{if_some}
use Rattle.std.proofs.Common.{◌≡◌, ℕ, Option, Some, None, refl, ◌∙◌}
use Rattle.l4_model.specs.Words.{GlobalId}
use Rattle.l4_model.specs.Machine.{Machine, OrderKind, CancelSend, CancelReceive, CancelBoth, Delete, place_of, is_place}
use Rattle.l4_model.specs.World.{Message, Send, PendingOrder, is_deleted, Owed}
use Rattle.l4_model.specs.Effects.{orders}
use Rattle.l4_model.specs.Rules.{Act, RunsAlone, Sends, Receives, Orders, owed_by}
use Rattle.l4_model.specs.Steps.{Queue, Order}
use Rattle.l4_model.proofs.Chains.{cond_keeps}
use Rattle.l4_core_model.specs.Plain as plain
use Rattle.l4_core_model.specs.Letters.{Result, Refusal, Refused, Nobody, TimedOut, Delivered, Cause, cause_of}
use Rattle.l4_core_model.specs.Local.{Local, declared, is_own, thread, held, destination_place, comes_to, relists, last_name}
use Rattle.l4_core_model.specs.Acts.{Work, ◌▷◌, tells, does, tells_send, entry, decides_send, refuses, delivers_message, delivers_send, owes, owes_for, retargets}
use Rattle.l4_core_model.specs.Acts.{delivers, first_acceptable, delivers_if_first, queues_send, arrives, zero_refusable, send_goes_to}
use Rattle.l4_core_model.specs.Acts.{begins_send, withdraws, asks, withdraws_for, obeys, order_goes_to, gives_order, acts}

-- The clock of an event under way.
abbrev pub HasClock : (clock : ℕ) → Work → Type 0
HasClock clock x = x.local.clock ≡ clock

-- An act keeps it.
abbrev pub KeepsClock : (Work → Work) → Type 0
KeepsClock act = (x : Work) → HasClock x.local.clock (act x)

-- sends

ends_clock : (m : Machine) (cpu : ℕ) (result : Result) (i : ℕ) → KeepsClock (decides_send m cpu result i)
ends_clock m cpu result i x = cond_keeps (HasClock x.local.clock) (is_own m cpu i) _ _ (λ yes. refl) (λ no. refl)

pub refuses_clock : (m : Machine) (cpu : ℕ) (refusal : Refusal) (i : ℕ) → KeepsClock (refuses m cpu refusal i)
refuses_clock m cpu refusal i x = ends_clock m cpu (Refused refusal) i _

owes_clock : (m : Machine) (cpu r : ℕ) (o : Owed) (to : Option ℕ) → KeepsClock (owes m cpu r o to)
owes_clock m cpu r o None x = refl
owes_clock m cpu r o (Some j) x = cond_keeps (HasClock x.local.clock) (is_own m cpu j) _ _ (λ yes. refl) (λ no. refl)

owes_for_clock : (m : Machine) (cpu r : ℕ) (o : Option Owed) → KeepsClock (owes_for m cpu r o)
owes_for_clock m cpu r None x = refl
owes_for_clock m cpu r (Some o) x = owes_clock m cpu r o (place_of m o.originator) x

delivers_message_clock : (m : Machine) (cpu r i : ℕ) (message : Message) (tag : ℕ) → KeepsClock (delivers_message m cpu r i message tag)
delivers_message_clock m cpu r i message tag x =
    owes_for_clock m cpu r (owed_by m (last_name m x.local i) message (declared m r).id) _ ∙ ends_clock m cpu Delivered i _

delivers_send_clock : (m : Machine) (cpu r i : ℕ) (send : Option Send) → KeepsClock (delivers_send m cpu r i send)
delivers_send_clock m cpu r i None x = refl
delivers_send_clock m cpu r i (Some send) x = delivers_message_clock m cpu r i send.message _ x

pub delivers_clock : (m : Machine) (cpu r i : ℕ) → KeepsClock (delivers m cpu r i)
delivers_clock m cpu r i x = delivers_send_clock m cpu r i (thread x.local i).send x

delivers_if_first_clock : (m : Machine) (cpu r i : ℕ) → KeepsClock (delivers_if_first m cpu r i)
delivers_if_first_clock m cpu r i x =
    cond_keeps (HasClock x.local.clock) (is_place (first_acceptable x.local r) i) _ _ (λ yes. delivers_clock m cpu r i x) (λ no. refl)

queues_send_clock : (m : Machine) (cpu r i : ℕ) (send : Option Send) → KeepsClock (queues_send m cpu r i send)
queues_send_clock m cpu r i None x = refl
queues_send_clock m cpu r i (Some send) x =
    delivers_if_first_clock m cpu r i (x ▷ tells_send m Queue i ▷ does (relists (plain.queued r (entry m r i send))))

pub arrives_clock : (m : Machine) (cpu r i : ℕ) → KeepsClock (arrives m cpu r i)
arrives_clock m cpu r i x =
    cond_keeps (HasClock x.local.clock) (is_deleted (thread x.local r).phase) _ _ (λ gone. refuses_clock m cpu Nobody i x)
    (λ alive. cond_keeps (HasClock x.local.clock) (zero_refusable m (held m x.local r) (thread x.local i).send) _ _
    (λ zero. refuses_clock m cpu TimedOut i x) (λ waits. queues_send_clock m cpu r i (thread x.local i).send x))

goes_to_clock : (m : Machine) (cpu i : ℕ) (send : Send) (to : Option ℕ) → KeepsClock (send_goes_to m cpu i send to)
goes_to_clock m cpu i send None x = refuses_clock m cpu Nobody i x
goes_to_clock m cpu i send (Some r) x =
    cond_keeps (HasClock x.local.clock) (is_own m cpu r) _ _ (λ yes. arrives_clock m cpu r i x) (λ no. refl)

begins_send_clock : (m : Machine) (cpu i : ℕ) (send : Send) → KeepsClock (begins_send m cpu i send)
begins_send_clock m cpu i send x = goes_to_clock m cpu i send (destination_place m send.to) _

pub withdraws_clock : (m : Machine) (cause : Cause) (i : ℕ) (to : Option ℕ) → KeepsClock (withdraws m cause i to)
withdraws_clock m cause i None x = refl
withdraws_clock m cause i (Some r) x = refl

-- An originator turns to its new partner, wherever it stands.
pub retargets_clock : (o : Owed) (to : Option ℕ) → KeepsClock (if_some (retargets o) to)
retargets_clock o None x = refl
retargets_clock o (Some j) x = refl

-- orders

asks_clock : (what : OrderKind) (i : ℕ) (l : Local) → (asks what i l).clock ≡ l.clock
asks_clock CancelSend i l = refl
asks_clock CancelReceive i l = refl
asks_clock CancelBoth i l = refl
asks_clock Delete i l = refl

withdraws_for_clock : (m : Machine) (cpu j : ℕ) (cause : Option Cause) → KeepsClock (withdraws_for m cpu j cause)
withdraws_for_clock m cpu j None x = refl
withdraws_for_clock m cpu j (Some cause) x = withdraws_clock m cause j _ x

pub obeys_clock : (m : Machine) (cpu : ℕ) (caller : GlobalId) (what : OrderKind) (j : ℕ) → KeepsClock (obeys m cpu caller what j)
obeys_clock m cpu caller what j x =
    let asked = asks_clock what j x.local in
    cond_keeps (HasClock x.local.clock) (is_deleted (thread x.local j).phase) _ _ (λ gone. asked)
    (λ alive. withdraws_for_clock m cpu j (cause_of what) _ ∙ asked)

order_goes_to_clock : (m : Machine) (cpu i : ℕ) (order : PendingOrder) (to : Option ℕ) → KeepsClock (order_goes_to m cpu i order to)
order_goes_to_clock m cpu i order None x = refl
order_goes_to_clock m cpu i order (Some j) x =
    cond_keeps (HasClock x.local.clock) (is_own m cpu j) _ _ (λ yes. obeys_clock m cpu (declared m i).id order.what j x) (λ no. refl)

gives_order_clock : (m : Machine) (cpu i : ℕ) (order : PendingOrder) → KeepsClock (gives_order m cpu i order)
gives_order_clock m cpu i order x =
    order_goes_to_clock m cpu i order (place_of m order.target)
    (x ▷ does (comes_to i (orders order)) ▷ tells (Order (declared m i).id order.target order.what))

-- instructions

pub acts_clock : (m : Machine) (cpu i : ℕ) (a : Act) → KeepsClock (acts m cpu i a)
acts_clock m cpu i RunsAlone x = refl
acts_clock m cpu i (Sends send) x = begins_send_clock m cpu i send x
acts_clock m cpu i (Receives receive) x = refl
acts_clock m cpu i (Orders order) x = gives_order_clock m cpu i order x
