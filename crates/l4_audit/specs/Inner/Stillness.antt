-- When no step but a tick is possible, with the clocks as they are.
use Rattle.std.specs.Prelude.{ℕ, Bool, false, not, ◌==◌, ◌&&◌, ◌||◌, Option, Some, None, is_some, is_none, length}
use Rattle.std.specs.List.{list_all}
use Rattle.l4_model.specs.Machine.{Machine, place_of, is_place}
use Rattle.l4_model.specs.World.{Receive, Send, PendingOrder, World, is_ready, is_deleted, is_alive, receive_now}
use Rattle.l4_model.specs.Conditions.{Found, found_by, Pending, receiver_of, is_waiting, first_accepted, is_nobody, is_no_destination, is_timed_out}
use Rattle.l4_model.specs.Steps.{receive_passed}
use Rattle.l4_model.specs.Still.{is_still_thread}

-- The order of a thread can be done.
abbrev pub may_obey : Machine → Option PendingOrder → Bool
may_obey m None = false
may_obey m (Some order) = is_some (place_of m order.target)

-- The receive phase of a thread can end without a message.
abbrev pub may_stop : Machine → World → Found → Option Receive → Bool
may_stop m w t None = false
may_stop m w t (Some receive) =
    t.now.cancel_receive
    || ((receive_passed t t.now.phase || is_nobody receive.from (found_by m w receive.from)) &&
    is_none (first_accepted m w t receive.from))

-- A sender is the first in its list that the receiver accepts.
abbrev pub is_taken : Machine → World → Found → (sender : ℕ) → Option Receive → Bool
is_taken m w r sender None = false
is_taken m w r sender (Some receive) = is_place (first_accepted m w r receive.from) sender

-- A send can be queued or delivered.
abbrev pub may_arrive : Machine → World → Pending → Option Found → Bool
may_arrive m w p None = false
may_arrive m w p (Some r) = (is_alive r.now.phase && not (is_waiting w p)) ||
    is_taken m w r p.sender.at (receive_now r.now.phase)

-- A send can be queued or decided.
abbrev pub may_decide : Machine → World → Pending → Bool
may_decide m w p =
    is_timed_out m w p || is_no_destination p.send.to (receiver_of m w p) ||
    (is_waiting w p && (p.sender.now.cancel_send || is_deleted p.sender.now.phase))
    || may_arrive m w p (receiver_of m w p)

abbrev pub may_send : Machine → World → Found → Option Send → Bool
may_send m w t None = false
may_send m w t (Some send) = may_decide m w (record { sender = t; send = send })

-- A thread is not ready, and none of these is possible for it.
abbrev pub is_still_found : Machine → World → Found → Bool
is_still_found m w t =
    not (is_ready t.now.phase || (may_obey m t.now.order ||
    (may_stop m w t (receive_now t.now.phase) || may_send m w t t.now.send)))

-- No retarget is owed, and no thread can be in for a step but by a tick, with the clocks as they
-- are.
abbrev pub owes_nothing : World → Bool
owes_nothing w = length w.owed == 0

abbrev pub is_still_now : Machine → World → Bool
is_still_now m w = owes_nothing w && list_all (λ d. is_still_thread m w d.id) m.threads
