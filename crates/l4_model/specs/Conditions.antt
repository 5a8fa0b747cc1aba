-- Looking threads and sends up in a world, and the tests that make a step possible.
use Rattle.std.specs.Prelude.{ℕ, ◌+◌, Bool, if◌then◌else◌, ◌==◌, not, ◌&&◌, false, Option, Some, None, find, slice_get, true, slice_index, nat_le}
pub use Rattle.l4_model.specs.Options.{◌>>=◌, ◌>>◌}
use Rattle.l4_model.specs.Words.{GlobalId, Id, AnyThread, AnyLocalThread, LocalThread, GlobalThread, Period}
use Rattle.l4_model.specs.Machine.{Instr, Declaration, Machine, place_of, is_declared, same_cpu, instruction_at}
use Rattle.l4_model.specs.World.{Name, Receive, Send, Phase, Sending, Receiving, Thread, World, is_queued, list_at, is_deleted, is_alive}
use Rattle.l4_model.specs.Rules.{accepts, Act, act}

-- Looking a thread or a send up

-- A thread: its place in the order of declaration, what the machine declares of it, what it is now,
-- and the clock of its processor.
pub record Found : Type 0 where
  pub at : ℕ
  pub declared : Declaration
  pub now : Thread
  pub clock : ℕ

abbrev pub found_at : Machine → World → ℕ → Option Found
found_at m w i = do
  declared ← slice_get m.threads i
  now ← slice_get w.threads i
  Some (record {
    at = i;
    declared = declared;
    now = now;
    clock = slice_index w.clocks declared.cpu;
  })

-- A declared thread.
abbrev pub found : Machine → World → GlobalId → Option Found
found m w id = place_of m id >>= found_at m w

-- The thread that an id names, where it names a declared one.
abbrev pub found_by : Machine → World → Id → Option Found
found_by m w (GlobalThread t) = found m w t
found_by m w _ = None

-- An undecided send, with its sender.
pub record Pending : Type 0 where
  pub sender : Found
  pub send : Send

-- Of the sends of a thread only the last that it began can be undecided.
abbrev pub undecided : Machine → World → Name → Option Pending
undecided m w s = do
  t ← found m w s.thread
  t.now.context.begun == s.k
  send ← t.now.send
  Some (record { sender = t; send = send })

abbrev pub receiver_of : Machine → World → Pending → Option Found
receiver_of m w p = found_by m w p.send.to

-- The thread's instruction, and what it asks for.
abbrev pub instruction : Found → Instr
instruction t = instruction_at t.declared.script t.now.context.place

abbrev pub act_of : Machine → Found → Act
act_of m t = act m t.declared.id t.clock t.now.context (instruction t)

-- Tests

-- A send stands in a list.
abbrev pub is_waiting : World → Pending → Bool
is_waiting w p = is_queued w.waiting p.sender.at

-- A thread's undecided send shows a sender that is accepted.
abbrev pub shows_accepted : Machine → Id → GlobalId → Option Thread → Bool
shows_accepted m from receiver None = false
shows_accepted m from receiver (Some t) = shown_accepted t.send
  where
    shown_accepted : Option Send → Bool
    shown_accepted None = false
    shown_accepted (Some send) = accepts m from send.message.shown receiver

-- The first waiting send that a receive phase of this thread would accept, by its sender's place.
abbrev pub first_accepted : Machine → World → Found → Id → Option ℕ
first_accepted m w r from = find (λ i. shows_accepted m from r.declared.id (slice_get w.threads i))
    (list_at w.waiting r.at)

-- It is not declared, or deleted.
abbrev pub is_gone : Option Found → Bool
is_gone None = true
is_gone (Some t) = is_deleted t.now.phase

-- Non-existing partners (manual: Ipc, ErrorCode). Own: a local or undeclared id is one, and so is a
-- deleted thread.
abbrev pub is_nobody : Id → Option Found → Bool
is_nobody (LocalThread word) t = true
is_nobody (GlobalThread id) t = is_gone t
is_nobody _ t = false

-- An id is no destination where it is a non-existing partner, anythread (manual: Ipc) or
-- anylocalthread (own).
abbrev pub is_no_destination : Id → Option Found → Bool
is_no_destination AnyThread t = true
is_no_destination AnyLocalThread t = true
is_no_destination to t = is_nobody to t

-- A period that began at a clock has passed (manual: Time). Never never passes.
abbrev pub has_passed : Period → (since now : ℕ) → Bool
has_passed None since now = false
has_passed (Some n) since now = nat_le (since + n) now

abbrev pub is_zero : Period → Bool
is_zero None = false
is_zero (Some n) = n == 0

-- A receive phase, where there is one, accepts this sender.
abbrev pub receive_accepts : Machine → Option Receive → (shown receiver : GlobalId) → Bool
receive_accepts m None shown receiver = false
receive_accepts m (Some receive) shown receiver = accepts m receive.from shown receiver

-- The id is that of a declared thread of another processor than the caller's.
abbrev pub is_elsewhere : Machine → (caller : GlobalId) → Id → Bool
is_elsewhere m caller (GlobalThread t) = is_declared m t && not (same_cpu m t caller)
is_elsewhere m caller _ = false

-- The call that a receiver is in goes to another processor, and its receive phase would accept this
-- sender.
abbrev pub call_accepts : Machine → Found → Option Send → GlobalId → Bool
call_accepts m r None shown = false
call_accepts m r (Some call) shown = is_elsewhere m r.declared.id call.to &&
    receive_accepts m call.receive shown r.declared.id

-- A receiver accepts this sender now, or may once its call is decided.
abbrev pub may_still_accept : Machine → Found → GlobalId → Phase → Bool
may_still_accept m r shown (Receiving receive since) = accepts m receive.from shown r.declared.id
may_still_accept m r shown Sending = call_accepts m r r.now.send shown
may_still_accept m r shown _ = false

-- A send of timeout zero may be refused (manual: Ipc, send timeout; the condition is own): its
-- receiver is alive, and neither waits and accepts it nor is in a call between processors that
-- would still accept it.
abbrev pub is_refusable : Machine → Send → Option Found → Bool
is_refusable m send None = false
is_refusable m send (Some r) = is_alive r.now.phase &&
    not (may_still_accept m r send.message.shown r.now.phase)

-- A send may time out: of timeout zero where it may be refused, else where its period has passed
-- and it waits in a list (own).
abbrev pub is_timed_out : Machine → World → Pending → Bool
is_timed_out m w p =
    has_passed p.send.period p.send.since p.sender.clock
    && (if is_zero p.send.period then is_refusable m p.send (receiver_of m w p) else is_waiting w p)
