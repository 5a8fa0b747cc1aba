-- Each act of an event keeps the event's stamp, and posts letters of that stamp alone.
use Rattle.l4_model.specs.Options.{if_some}
use Rattle.std.proofs.Common.{◌≡◌, ℕ, Option, Some, None, refl, ◌∙◌}
use Rattle.std.specs.List.{AllByRecursion}
use Rattle.l4_model.specs.Words.{GlobalId}
use Rattle.l4_model.specs.Machine.{Machine, OrderKind, CancelSend, CancelReceive, CancelBoth, Delete, place_of, is_place}
use Rattle.l4_model.specs.World.{Message, Send, PendingOrder, is_deleted, Owed}
use Rattle.l4_model.specs.Effects.{orders}
use Rattle.l4_model.specs.Rules.{Failure, Act, RunsAlone, Sends, Receives, Orders, owed_by}
use Rattle.l4_model.specs.Steps.{Step, Queue, Order}
use Rattle.l4_model.proofs.Chains.{cond_keeps}
use Rattle.l4_core_model.specs.Plain as plain
use Rattle.l4_core_model.specs.Letters.{Letter, Result, Refusal, Refused, Nobody, TimedOut, Delivered, Cause, Content, cause_of}
use Rattle.l4_core_model.specs.Local.{Local, declared, is_own, thread, held, destination_place, comes_to, relists, last_name}
use Rattle.l4_core_model.specs.Acts.{Work, ◌▷◌, tells, does, tells_send, entry, posts, decides_send, refuses, delivers_message, delivers_send, owes, owes_for, retargets}
use Rattle.l4_core_model.specs.Acts.{delivers, first_acceptable, delivers_if_first, queues_send, arrives, zero_refusable, send_goes_to}
use Rattle.l4_core_model.specs.Acts.{begins_send, withdraws, fails_for, asks, withdraws_for, obeys, order_goes_to, gives_order, acts}
use Rattle.l4_merge.proofs.Lists.{all-append}

-- The stamp of an event under way, and of the letters that it has posted so far.
pub record IsStamped (stamp : ℕ) (x : Work) : Type 0 where
  pub local : x.local.stamp ≡ stamp
  pub letters : AllByRecursion (λ p. p.1.stamp ≡ stamp) x.letters

-- An act keeps it.
abbrev pub KeepsStamp : (Work → Work) → Type 0
KeepsStamp act = (s : ℕ) (x : Work) → IsStamped s x → IsStamped s (act x)

pub posts_stamped : (cpu : ℕ) (content : Content) → KeepsStamp (posts cpu content)
posts_stamped cpu content s x h =
    record { local = h.local; letters = all-append (λ (p : ℕ × Letter). p.1.stamp ≡ s) x.letters _ h.letters (h.local, tt) }

-- sends

ends_stamped : (m : Machine) (cpu : ℕ) (result : Result) (i : ℕ) → KeepsStamp (decides_send m cpu result i)
ends_stamped m cpu result i s x h =
    cond_keeps (IsStamped s) (is_own m cpu i) _ _ (λ yes. record { local = h.local; letters = h.letters })
    (λ no. posts_stamped _ _ s _ (record { local = h.local; letters = h.letters }))

pub refuses_stamped : (m : Machine) (cpu : ℕ) (refusal : Refusal) (i : ℕ) → KeepsStamp (refuses m cpu refusal i)
refuses_stamped m cpu refusal i s x h = ends_stamped m cpu (Refused refusal) i s _ (record { local = h.local; letters = h.letters })

owes_stamped : (m : Machine) (cpu r : ℕ) (o : Owed) (to : Option ℕ) → KeepsStamp (owes m cpu r o to)
owes_stamped m cpu r o None s x h = h
owes_stamped m cpu r o (Some j) s x h =
    cond_keeps (IsStamped s) (is_own m cpu j) _ _ (λ yes. record { local = h.local; letters = h.letters }) (λ no. posts_stamped _ _ s x h)

owes_for_stamped : (m : Machine) (cpu r : ℕ) (o : Option Owed) → KeepsStamp (owes_for m cpu r o)
owes_for_stamped m cpu r None s x h = h
owes_for_stamped m cpu r (Some o) s x h = owes_stamped m cpu r o (place_of m o.originator) s x h

delivers_message_stamped : (m : Machine) (cpu r i : ℕ) (message : Message) (tag : ℕ) → KeepsStamp (delivers_message m cpu r i message tag)
delivers_message_stamped m cpu r i message tag s x h =
    owes_for_stamped m cpu r (owed_by m (last_name m x.local i) message (declared m r).id) s _
    (ends_stamped m cpu Delivered i s _ (record { local = h.local; letters = h.letters }))

delivers_send_stamped : (m : Machine) (cpu r i : ℕ) (send : Option Send) → KeepsStamp (delivers_send m cpu r i send)
delivers_send_stamped m cpu r i None s x h = h
delivers_send_stamped m cpu r i (Some send) s x h = delivers_message_stamped m cpu r i send.message _ s x h

pub delivers_stamped : (m : Machine) (cpu r i : ℕ) → KeepsStamp (delivers m cpu r i)
delivers_stamped m cpu r i s x h = delivers_send_stamped m cpu r i (thread x.local i).send s x h

delivers_if_first_stamped : (m : Machine) (cpu r i : ℕ) → KeepsStamp (delivers_if_first m cpu r i)
delivers_if_first_stamped m cpu r i s x h =
    cond_keeps (IsStamped s) (is_place (first_acceptable x.local r) i) _ _ (λ yes. delivers_stamped m cpu r i s x h) (λ no. h)

queues_send_stamped : (m : Machine) (cpu r i : ℕ) (send : Option Send) → KeepsStamp (queues_send m cpu r i send)
queues_send_stamped m cpu r i None s x h = h
queues_send_stamped m cpu r i (Some send) s x h =
    delivers_if_first_stamped m cpu r i s (x ▷ tells_send m Queue i ▷ does (relists (plain.queued r (entry m r i send))))
    (record { local = h.local; letters = h.letters })

pub arrives_stamped : (m : Machine) (cpu r i : ℕ) → KeepsStamp (arrives m cpu r i)
arrives_stamped m cpu r i s x h =
    cond_keeps (IsStamped s) (is_deleted (thread x.local r).phase) _ _ (λ gone. refuses_stamped m cpu Nobody i s x h)
    (λ alive. cond_keeps (IsStamped s) (zero_refusable m (held m x.local r) (thread x.local i).send) _ _
    (λ zero. refuses_stamped m cpu TimedOut i s x h) (λ waits. queues_send_stamped m cpu r i (thread x.local i).send s x h))

goes_to_stamped : (m : Machine) (cpu i : ℕ) (send : Send) (to : Option ℕ) → KeepsStamp (send_goes_to m cpu i send to)
goes_to_stamped m cpu i send None s x h = refuses_stamped m cpu Nobody i s x h
goes_to_stamped m cpu i send (Some r) s x h =
    cond_keeps (IsStamped s) (is_own m cpu r) _ _ (λ yes. arrives_stamped m cpu r i s x h) (λ no. posts_stamped _ _ s x h)

begins_send_stamped : (m : Machine) (cpu i : ℕ) (send : Send) → KeepsStamp (begins_send m cpu i send)
begins_send_stamped m cpu i send s x h =
    goes_to_stamped m cpu i send (destination_place m send.to) s _ (record { local = h.local; letters = h.letters })

pub withdraws_stamped : (m : Machine) (cause : Cause) (i : ℕ) (to : Option ℕ) → KeepsStamp (withdraws m cause i to)
withdraws_stamped m cause i None s x h = h
withdraws_stamped m cause i (Some r) s x h = posts_stamped _ _ s x h

pub fails_stamped : (m : Machine) (why : Failure) (i : ℕ) → KeepsStamp (fails_for m why i)
fails_stamped m why i s x h = record { local = h.local; letters = h.letters }

-- An originator turns to its new partner, wherever it stands.
pub retargets_stamped : (o : Owed) (to : Option ℕ) → KeepsStamp (if_some (retargets o) to)
retargets_stamped o None s x h = h
retargets_stamped o (Some j) s x h = record { local = h.local; letters = h.letters }

-- orders

asks_stamp : (what : OrderKind) (i : ℕ) (l : Local) → (asks what i l).stamp ≡ l.stamp
asks_stamp CancelSend i l = refl
asks_stamp CancelReceive i l = refl
asks_stamp CancelBoth i l = refl
asks_stamp Delete i l = refl

withdraws_for_stamped : (m : Machine) (cpu j : ℕ) (cause : Option Cause) → KeepsStamp (withdraws_for m cpu j cause)
withdraws_for_stamped m cpu j None s x h = h
withdraws_for_stamped m cpu j (Some cause) s x h = withdraws_stamped m cause j _ s x h

pub obeys_stamped : (m : Machine) (cpu : ℕ) (caller : GlobalId) (what : OrderKind) (j : ℕ) → KeepsStamp (obeys m cpu caller what j)
obeys_stamped m cpu caller what j s x h =
    let local = asks_stamp what j x.local ∙ h.local in
    cond_keeps (IsStamped s) (is_deleted (thread x.local j).phase) _ _ (λ gone. record { local = local; letters = h.letters })
    (λ alive. withdraws_for_stamped m cpu j (cause_of what) s _ (record { local = local; letters = h.letters }))

order_goes_to_stamped : (m : Machine) (cpu i : ℕ) (order : PendingOrder) (to : Option ℕ) → KeepsStamp (order_goes_to m cpu i order to)
order_goes_to_stamped m cpu i order None s x h = h
order_goes_to_stamped m cpu i order (Some j) s x h =
    cond_keeps (IsStamped s) (is_own m cpu j) _ _
    (λ yes. let o = obeys_stamped m cpu (declared m i).id order.what j s x h in record { local = o.local; letters = o.letters })
    (λ no. posts_stamped _ _ s x h)

gives_order_stamped : (m : Machine) (cpu i : ℕ) (order : PendingOrder) → KeepsStamp (gives_order m cpu i order)
gives_order_stamped m cpu i order s x h =
    order_goes_to_stamped m cpu i order (place_of m order.target) s
    (x ▷ does (comes_to i (orders order)) ▷ tells (Order (declared m i).id order.target order.what))
    (record { local = h.local; letters = h.letters })

-- instructions

pub acts_stamped : (m : Machine) (cpu i : ℕ) (a : Act) → KeepsStamp (acts m cpu i a)
acts_stamped m cpu i RunsAlone s x h = record { local = h.local; letters = h.letters }
acts_stamped m cpu i (Sends send) s x h = begins_send_stamped m cpu i send s x h
acts_stamped m cpu i (Receives receive) s x h = record { local = h.local; letters = h.letters }
acts_stamped m cpu i (Orders order) s x h = gives_order_stamped m cpu i order s x h
