-- What an Ipc of one thread asks for, where it is told whether the thread may show the originator
-- that it names.
use Rattle.std.specs.Prelude.{ℕ, List, ◌+◌, ◌/◌, ◌%◌, ◌^◌, Bool, true, false, if◌then◌else◌, ◌==◌, ◌&&◌, not, Option, Some, None, is_some, unwrap_or, take, drop}
use Rattle.std.specs.Option.{option_map}
use Rattle.l4_model.specs.Words.{GlobalId, Id, NilThread, Period}
use Rattle.l4_model.specs.Machine.{Instr, Ipc, End}
use Rattle.l4_model.specs.World.{Context, Message, Receive}
use Rattle.l4_model.specs.Rules.{register, id_from, receive_phase, advanced}
use Rattle.l4_types.specs.declared.times.Period.{Period as CodePeriod}
use Rattle.l4_types.specs.Inner.PeriodView.{period_of, IsTimely}
use Rattle.l4_types.specs.Ids.{global_of}
use Rattle.l4_thread.specs.Inner.Held.{Headed, message_of}
use Rattle.l4_thread.specs.declared.requests.Begun.{Begun}
use Rattle.l4_thread.specs.declared.requests.Request.{Request}

-- A send of this context asks for propagation (manual: MsgTag, `p`).
abbrev pub propagates : Context → Bool
propagates c = (register c 0 / 2 ^ 12) % 2 == 1

-- The originator of a propagated send (manual: Ipc, VirtualSender).
abbrev pub originator_if : (permitted : Bool) → Context → Option GlobalId
originator_if permitted c = if permitted && propagates c then global_of c.actual else None

-- The message of a send that begins now.
abbrev pub message_if : (permitted : Bool) → (sender : GlobalId) → Context → Message
message_if permitted sender c =
    record {
      label = register c 0 / 2 ^ 16;
      words = take (register c 0 % 64) (drop 1 c.words);
      propagated = is_some (originator_if permitted c);
      shown = unwrap_or (originator_if permitted c) sender;
      actual = sender;
    }

-- The phases of an ipc: the send's destination, message and period, and the receive phase.
pub record Phases : Type 0 where
  pub send : Option (Id × Message × Period)
  pub receive : Option Receive

abbrev pub send_phase : Id → Message → Period → Option (Id × Message × Period)
send_phase NilThread message period = None
send_phase to message period = Some (to, message, period)

-- Other instructions have none.
abbrev pub phases_of : (permitted : Bool) → (sender : GlobalId) → Context → Instr → Phases
phases_of permitted sender c (Ipc to from send_period receive_period) =
    record {
      send = send_phase (id_from c to) (message_if permitted sender c) send_period;
      receive = receive_phase (id_from c from) receive_period;
    }
phases_of permitted sender c _ = record { send = None; receive = None }

-- Beginning a send phase moves the script on and counts the send.
abbrev pub counted : Context → Context
counted c = record (advanced c) { begun = c.begun + 1 }

abbrev pub phases_begun : Phases → Context → Context
phases_begun p c = by_send p.send
  where
    by_receive : Option Receive → Context
    by_receive None = c
    by_receive (Some receive) = advanced c

    by_send : Option (Id × Message × Period) → Context
    by_send None = by_receive p.receive
    by_send (Some send) = counted c

-- The phases that a request of the program holds.
abbrev pub send_from : Id × Message × CodePeriod → Id × Message × Period
send_from s = (s.0, s.1, period_of s.2)

abbrev pub receive_from : Id × CodePeriod → Receive
receive_from r = record { from = r.0; period = period_of r.1 }

abbrev pub phases_from : Request → Phases
phases_from r = record {
  send = option_map send_from r.send;
  receive = option_map receive_from r.receive;
}

-- The phases of a request whose words are those that the registers have, or the separate copy.
abbrev pub send_held : (apart registers : List ℕ) → Id × Headed × CodePeriod → Id × Message × Period
send_held apart registers s = (s.0, message_of apart registers s.1, period_of s.2)

abbrev pub phases_held : (apart registers : List ℕ) → Begun → Phases
phases_held apart registers r = record {
  send = option_map (send_held apart registers) r.send;
  receive = option_map receive_from r.receive;
}

-- Its periods are ones that times have.
abbrev pub is_timely_send : {M : Type 0} → Option (Id × M × CodePeriod) → Type 0
is_timely_send None = Unit {0}
is_timely_send (Some s) = IsTimely s.2

abbrev pub is_timely_receive : Option (Id × CodePeriod) → Type 0
is_timely_receive None = Unit {0}
is_timely_receive (Some r) = IsTimely r.1

abbrev pub AreTimely : Request → Type 0
AreTimely r = is_timely_send r.send × is_timely_receive r.receive

abbrev pub AreTimelyHeld : Begun → Type 0
AreTimelyHeld r = is_timely_send r.send × is_timely_receive r.receive

abbrev pub is_end : Instr → Bool
is_end End = true
is_end _ = false

-- It begins a send phase.
abbrev pub asks_to_send : Context → Instr → Bool
asks_to_send c (Ipc to from send_period receive_period) = not (is_nil (id_from c to))
  where
    is_nil : Id → Bool
    is_nil NilThread = true
    is_nil _ = false
asks_to_send c _ = false
