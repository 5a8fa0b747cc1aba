-- In which phase a thread waits that may wait for ever.
use Rattle.std.specs.Prelude.{ℕ, Bool, true, false, Option, None, Some, List, map, slice_get}
use Rattle.l4_model.specs.World.{Phase, Sending, Receiving, Thread, World}
use Rattle.l4_futures.specs.Stuck.{names_one}
use Rattle.l4_forever.specs.declared.waits.Wait.{Wait}
use Rattle.l4_forever.specs.declared.waits.Wait.TheVariants.{Send, Receive, Neither}

-- A receive phase that takes one thread alone is closed to all others.

abbrev pub receive_wait : (is_closed : Bool) → Wait
receive_wait true = Receive
receive_wait false = Neither

abbrev pub wait_in : Phase → Wait
wait_in Sending = Send
wait_in (Receiving receive since) = receive_wait (names_one receive.from)
wait_in _ = Neither

abbrev pub wait_of : Option Thread → Wait
wait_of None = Neither
wait_of (Some t) = wait_in t.phase

-- The thread at a place of the order of declaration.
abbrev pub wait_at : World → (place : ℕ) → Wait
wait_at w place = wait_of (slice_get w.threads place)

-- Of all threads, in order of declaration.
abbrev pub waits_in : World → List Wait
waits_in w = map (λ t. wait_in t.phase) w.threads

abbrev pub is_waiting : Wait → Bool
is_waiting Neither = false
is_waiting _ = true
