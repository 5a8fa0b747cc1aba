-- Which threads wait, and what for.
use Rattle.std.specs.Prelude.{Bool, true, false, Option, Some, None, List, map, zip, filter_map}
use Rattle.std.specs.Option.{option_map}
use Rattle.l4_model.specs.Words.{GlobalId, Id}
use Rattle.l4_model.specs.Machine.{Machine, Declaration}
use Rattle.l4_model.specs.World.{Receive as Receiving, Send as Sent, Thread, World, receive_now}
use Rattle.l4_model.specs.Conditions.{Found, found_by, receive_accepts}
use Rattle.l4_audit.specs.declared.waits.Wait.{Wait}
use Rattle.l4_audit.specs.declared.waits.Wait.TheVariants.{Send, Arrival, Receive}

-- The destination of a send is in a receive phase that accepts it.
abbrev pub is_expected : Machine → (shown : GlobalId) → Option Found → Bool
is_expected m shown None = false
is_expected m shown (Some r) = receive_accepts m (receive_now r.now.phase) shown r.declared.id

abbrev pub send_wait : (expected : Bool) → Id → Wait
send_wait true to = Arrival to
send_wait false to = Send to

-- A thread waits while it has an undecided send, also once it is deleted, and while it is in a
-- receive phase.
abbrev pub wait_in : Machine → World → Option Sent → Option Receiving → Option Wait
wait_in m w (Some send) receive = Some (send_wait
    (is_expected m send.message.shown (found_by m w send.to)) send.to)
wait_in m w None (Some receive) = Some (Receive receive.from)
wait_in m w None None = None

abbrev pub wait_of : Machine → World → Thread → Option Wait
wait_of m w t = wait_in m w t.send (receive_now t.phase)

abbrev pub waiting_thread : Machine → World → GlobalId → Thread → Option (GlobalId × Wait)
waiting_thread m w id t = option_map (λ wait. (id, wait)) (wait_of m w t)

-- Each thread that waits, in order of declaration, with what it waits for.
abbrev pub waits_in : Machine → World → List (GlobalId × Wait)
waits_in m w = filter_map (λ p. waiting_thread m w p.0 p.1)
    (zip (map (λ (d : Declaration). d.id) m.threads) w.threads)
