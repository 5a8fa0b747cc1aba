-- The code of a state of a core run. It leaves out stamps, numbers of sends, how late it is, and
-- the order of letters of different pairs.
use Rattle.std.specs.Prelude.{ℕ, ◌+◌, ◌-◌, ◌==◌, Bool, if◌then◌else◌, Option, None, Some, List, [], ◌∷◌, length}
use Rattle.l4_model.specs.Words.{GlobalId, Id, NilThread, AnyThread, AnyLocalThread, LocalThread, GlobalThread, register_count}
use Rattle.l4_model.specs.Machine.{Machine}
use Rattle.l4_model.specs.World.{Name, Context, Receive, Message, Send, PendingOrder, Owed, Phase, Ready, Sending, Receiving, Ordering, Ended, Deleted, Thread}
use Rattle.l4_model.specs.Steps.{order_kind_code}
use Rattle.l4_core_model.specs.Letters.{Refusal, TimedOut, Nobody, Cancelled, Dropped, Result, Delivered, Refused, Cause, ByTimeout, ByCancel, ByDeletion, Content, SendLetter, DoneLetter, WithdrawLetter, GoneLetter, OrderLetter, OrderDoneLetter, RetargetLetter}
use Rattle.l4_core_model.specs.Plain.{Waiting, Plain}
use Rattle.l4_core_model.specs.Local.{Local}
use Rattle.l4_core_model.specs.Runs.{System, Posted, letters, processors}
use Rattle.l4_bisimilar.specs.Alike.{contents}
use Rattle.l4_states.specs.Inner.Bytes.{bytes_of}

-- A code puts a value, as numbers, in front of what follows.

abbrev pub number_code : ℕ → List ℕ → List ℕ
number_code n rest = n ∷ rest

abbrev pub flag_code : Bool → List ℕ → List ℕ
flag_code b rest = (if b then 1 else 0) ∷ rest

abbrev pub optional : {A : Type 0} → (A → List ℕ → List ℕ) → Option A → List ℕ → List ℕ
optional code None rest = 0 ∷ rest
optional code (Some x) rest = 1 ∷ code x rest

abbrev pub each : {A : Type 0} → (A → List ℕ → List ℕ) → List A → List ℕ → List ℕ
each code [] rest = rest
each code (x ∷ xs) rest = code x (each code xs rest)

abbrev pub listed : {A : Type 0} → (A → List ℕ → List ℕ) → List A → List ℕ → List ℕ
listed code xs rest = length xs ∷ each code xs rest

-- The same for a list that is read from its front: a 1 before each element, and a 0 behind the
-- last.
abbrev pub chained : {A : Type 0} → (A → List ℕ → List ℕ) → List A → List ℕ → List ℕ
chained code [] rest = 0 ∷ rest
chained code (x ∷ xs) rest = 1 ∷ code x (chained code xs rest)

-- The length of a list: 0 where it is the usual one.
abbrev pub length_code : (usual n : ℕ) → ℕ
length_code usual n = if n == usual then 0 else n + 1

abbrev pub sized : (usual : ℕ) → {A : Type 0} → (A → List ℕ → List ℕ) → List A → List ℕ → List ℕ
sized usual code xs rest = length_code usual (length xs) ∷ each code xs rest

-- Threads. A thread at its beginning is coded by zeros alone.

abbrev pub global_code : GlobalId → List ℕ → List ℕ
global_code t rest = t.number ∷ t.version ∷ rest

abbrev pub id_code : Id → List ℕ → List ℕ
id_code NilThread rest = 0 ∷ rest
id_code AnyThread rest = 1 ∷ rest
id_code AnyLocalThread rest = 2 ∷ rest
id_code (LocalThread word) rest = 3 ∷ word ∷ rest
id_code (GlobalThread t) rest = 4 ∷ global_code t rest

abbrev pub receive_code : Receive → List ℕ → List ℕ
receive_code r rest = id_code r.from (optional number_code r.period rest)

abbrev pub message_code : Message → List ℕ → List ℕ
message_code m rest = m.label
    ∷ listed number_code m.words
    (flag_code m.propagated (global_code m.shown (global_code m.actual rest)))

abbrev pub send_code : Send → List ℕ → List ℕ
send_code s rest = id_code s.to
    (message_code s.message
    (optional number_code s.period (optional receive_code s.receive rest)))

abbrev pub asked_code : PendingOrder → List ℕ → List ℕ
asked_code a rest = global_code a.target (order_kind_code a.what ∷ rest)

abbrev pub phase_code : Phase → List ℕ → List ℕ
phase_code Ready rest = 0 ∷ rest
phase_code Sending rest = 1 ∷ rest
phase_code (Receiving r since) rest = 2 ∷ receive_code r rest
phase_code Ordering rest = 3 ∷ rest
phase_code Ended rest = 4 ∷ rest
phase_code Deleted rest = 5 ∷ rest

abbrev pub context_code : Context → List ℕ → List ℕ
context_code c rest =
    sized register_count number_code c.words
    (c.error ∷ id_code c.from (id_code c.actual (c.place ∷ rest)))

abbrev pub thread_code : Thread → List ℕ → List ℕ
thread_code t rest =
    context_code t.context
    (phase_code t.phase (optional send_code t.send
    (optional asked_code t.order (flag_code t.cancel_send (flag_code t.cancel_receive rest)))))

-- What a processor knows

abbrev pub waiting_code : Waiting → List ℕ → List ℕ
waiting_code w rest = w.block ∷ global_code w.shown (flag_code w.local rest)

-- A deadline is coded by how far it is ahead of the clock.
abbrev pub armed_code : (clock : ℕ) → (ℕ × ℕ) → List ℕ → List ℕ
armed_code clock e rest = (e.0 - clock) ∷ e.1 ∷ rest

abbrev pub lists_code : (threads clock : ℕ) → Plain → List ℕ → List ℕ
lists_code threads clock s rest =
    sized threads (chained waiting_code) s.waiting
    (chained number_code s.ready (chained (armed_code clock) s.armed rest))

abbrev pub name_code : Name → List ℕ → List ℕ
name_code s rest = global_code s.thread rest

abbrev pub owed_code : Owed → List ℕ → List ℕ
owed_code o rest = name_code o.send
    (global_code o.originator (global_code o.old_partner (global_code o.new_partner rest)))

-- It begins with 1, so that no run of zeros goes on from what stands before it.
abbrev pub local_code : (threads : ℕ) → Local → List ℕ → List ℕ
local_code threads l rest = 1
    ∷ sized threads thread_code l.threads
    (lists_code threads l.clock l.lists
    (sized threads number_code l.told (sized threads (optional owed_code) l.owed rest)))

-- Letters

abbrev pub refusal_code : Refusal → List ℕ → List ℕ
refusal_code TimedOut rest = 0 ∷ rest
refusal_code Nobody rest = 1 ∷ rest
refusal_code Cancelled rest = 2 ∷ rest
refusal_code Dropped rest = 3 ∷ rest

abbrev pub result_code : Result → List ℕ → List ℕ
result_code Delivered rest = 0 ∷ rest
result_code (Refused r) rest = 1 ∷ refusal_code r rest

abbrev pub cause_code : Cause → List ℕ → List ℕ
cause_code ByTimeout rest = 0 ∷ rest
cause_code ByCancel rest = 1 ∷ rest
cause_code ByDeletion rest = 2 ∷ rest

abbrev pub content_code : Content → List ℕ → List ℕ
content_code (SendLetter s receiver m zero_timeout) rest = 0
    ∷ name_code s (global_code receiver (message_code m (flag_code zero_timeout rest)))
content_code (DoneLetter s r) rest = 1 ∷ name_code s (result_code r rest)
content_code (WithdrawLetter s receiver c) rest = 2
    ∷ name_code s (global_code receiver (cause_code c rest))
content_code (GoneLetter id) rest = 3 ∷ global_code id rest
content_code (OrderLetter caller target what) rest = 4
    ∷ global_code caller (global_code target (order_kind_code what ∷ rest))
content_code (OrderDoneLetter caller) rest = 5 ∷ global_code caller rest
content_code (RetargetLetter o) rest = 6 ∷ owed_code o rest

-- The letters that have come to a processor from a poster.
abbrev pub mail_from_code : List Posted → (to from : ℕ) → List ℕ → List ℕ
mail_from_code mail to from rest = chained content_code (contents (letters mail from to)) rest

abbrev pub mail_to_code : (cpus : List ℕ) → List Posted → (to : ℕ) → List ℕ → List ℕ
mail_to_code cpus mail to rest = each (mail_from_code mail to) cpus rest

-- All letters under way, and all of a state.
abbrev pub mail_code : (cpus : List ℕ) → List Posted → List ℕ → List ℕ
mail_code cpus mail rest = each (mail_to_code cpus mail) cpus rest

abbrev pub system_code : Machine → System → List ℕ → List ℕ
system_code m g rest =
    sized m.cpus (local_code (length m.threads)) g.locals (mail_code (processors m) g.mail rest)

abbrev pub code_of : Machine → System → List ℕ
code_of m g = bytes_of (system_code m g [])
