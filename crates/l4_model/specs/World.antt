-- What a machine is at one moment.
use Rattle.std.specs.Prelude.{ℕ, Bool, ◌==◌, ◌&&◌, not, false, Option, Some, None, List, zero, suc, true, [], ◌∷◌, ◌++◌, map, filter, replicate, slice_index_or, find}
use Rattle.std.specs.List.{list_any}
use Rattle.l4_model.specs.Words.{GlobalId, Id, NilThread, Period, register_count, same_id, is_id_of}
use Rattle.l4_model.specs.Machine.{OrderKind, Machine}

-- A send's name: the k-th send that a thread began, from k = 1.
pub record Name : Type 0 where
  pub thread : GlobalId
  pub k : ℕ

abbrev pub same_name : Name → Name → Bool
same_name a b = same_id a.thread b.thread && (a.k == b.k)

-- The part of a thread that its own instructions read and write: MR0 to MR63 (manual: Messages and
-- Message Registers), ErrorCode (manual: Thread Control Registers), the register `from` (manual:
-- Ipc), VirtualSender and ActualSender (manual: Thread Control Registers; that they are one
-- register is own), its place in its script, and how many sends it began.
pub record Context : Type 0 where
  pub words : List ℕ
  pub error : ℕ
  pub from : Id
  pub actual : Id
  pub place : ℕ
  pub begun : ℕ

-- Whom a receive phase accepts, and how long it lasts (manual: Ipc, `FromSpecifier` and the receive
-- timeout).
pub record Receive : Type 0 where
  pub from : Id
  pub period : Period

-- What a message carries (manual: Messages and Message Registers; Ipc): its label and words,
-- whether it is propagated, and the senders that it shows and has.
pub record Message : Type 0 where
  pub label : ℕ
  pub words : List ℕ
  pub propagated : Bool
  pub shown : GlobalId
  pub actual : GlobalId

-- What a send asks for, fixed when it begins (own): its destination, its message, its period, the
-- clock at its beginning, and the receive phase that follows it, or none.
pub record Send : Type 0 where
  pub to : Id
  pub message : Message
  pub period : Period
  pub since : ℕ
  pub receive : Option Receive

-- An order that a thread gave and that is not done yet.
pub record PendingOrder : Type 0 where
  pub target : GlobalId
  pub what : OrderKind

-- What a thread is about. A receive phase has the clock of its processor at its beginning. A
-- deleted thread has no phase, but its undecided send and its undone order go on.
pub data Phase : Type 0 where
  Ready : Phase
  Sending : Phase
  Receiving : Receive → (since : ℕ) → Phase
  Ordering : Phase
  Ended : Phase
  Deleted : Phase

-- A thread. It has at most one undecided send, the last one that it began, and at most one undone
-- order. The wishes are those of ExchangeRegisters: that its send be cancelled, and that its
-- receive phase be.
pub record Thread : Type 0 where
  pub context : Context
  pub phase : Phase
  pub send : Option Send
  pub order : Option PendingOrder
  pub cancel_send : Bool
  pub cancel_receive : Bool

-- An owed retarget (own, profile 2), named by a propagated send that was delivered: where its
-- originator waits for the thread that sent it, the old partner, it is to wait for the one that
-- received it, the new partner.
pub record Owed : Type 0 where
  pub send : Name
  pub originator : GlobalId
  pub old_partner : GlobalId
  pub new_partner : GlobalId

-- All threads in order of declaration; for each the threads whose sends wait at it, by their
-- places; the clocks of the processors; and the owed retargets in order of delivery. In profile 1
-- none is ever owed.
pub record World : Type 0 where
  pub threads : List Thread
  pub waiting : List (List ℕ)
  pub clocks : List ℕ
  pub owed : List Owed

abbrev pub opening_context : Context
opening_context = record {
  words = replicate register_count 0;
  error = 0;
  from = NilThread;
  actual = NilThread;
  place = 0;
  begun = 0;
}

abbrev pub opening_thread : Thread
opening_thread =
    record {
      context = opening_context;
      phase = Ready;
      send = None;
      order = None;
      cancel_send = false;
      cancel_receive = false;
    }

abbrev pub opening : Machine → World
opening m = record {
  threads = map (λ d. opening_thread) m.threads;
  waiting = map (λ d. []) m.threads;
  clocks = replicate m.cpus 0;
  owed = [];
}

-- A list with one element changed.
abbrev pub changed : {A : Type 0} → (A → A) → List A → ℕ → List A
changed f [] i = []
changed f (x ∷ xs) zero = f x ∷ xs
changed f (x ∷ xs) (suc i) = x ∷ changed f xs i

-- A world with one thread changed.
abbrev pub change : World → ℕ → (Thread → Thread) → World
change w i f = record w { threads = changed f w.threads i }

-- A sender stands in a list, by its place.
abbrev pub is_in : ℕ → List ℕ → Bool
is_in i xs = list_any (λ x. i == x) xs

-- The list of the thread at a place.
abbrev pub list_at : List (List ℕ) → ℕ → List ℕ
list_at lists j = slice_index_or lists j []

-- Lists of waiting senders: whether a sender stands in one of them, the lists after it was appended
-- to one, and after it was taken out.

abbrev pub is_queued : List (List ℕ) → ℕ → Bool
is_queued lists i = list_any (is_in i) lists

abbrev pub queued : World → (receiver sender : ℕ) → World
queued w r i = record w { waiting = changed (λ xs. xs ++ i ∷ []) w.waiting r }

abbrev pub unqueued : World → ℕ → World
unqueued w i = record w { waiting = map (filter (λ x. not (i == x))) w.waiting }

-- Owed retargets: the one of a name, the others, and one more where a delivery leaves one.
-- `must_wait`: a send of the new partner to the originator is held back until that retarget is
-- done.

abbrev pub owed_of : List Owed → Name → Option Owed
owed_of owed s = find (λ o. same_name s o.send) owed

abbrev pub others_owed : List Owed → Name → List Owed
others_owed owed s = filter (λ o. not (same_name s o.send)) owed

abbrev pub one_more : Option Owed → List Owed → List Owed
one_more None owed = owed
one_more (Some o) owed = owed ++ o ∷ []

abbrev pub must_wait : List Owed → (sender : GlobalId) → (to : Id) → Bool
must_wait owed sender to = list_any (λ o. same_id sender o.new_partner &&
    is_id_of to o.originator) owed

abbrev pub is_ready : Phase → Bool
is_ready Ready = true
is_ready _ = false

abbrev pub is_sending : Phase → Bool
is_sending Sending = true
is_sending _ = false

abbrev pub is_deleted : Phase → Bool
is_deleted Deleted = true
is_deleted _ = false

abbrev pub is_alive : Phase → Bool
is_alive phase = not (is_deleted phase)

-- The receive phase that a thread is in.
abbrev pub receive_now : Phase → Option Receive
receive_now (Receiving receive since) = Some receive
receive_now _ = None
