-- Sends of time zero that are held.
use Rattle.std.specs.Prelude.{◌≡◌, Bool, true, false, not, ◌&&◌, is_none, Option, Some, None, List, filter_map}
use Rattle.l4_model.specs.Words.{GlobalId}
use Rattle.l4_model.specs.Machine.{Declaration, Machine}
use Rattle.l4_model.specs.World.{Name, Send, World, receive_now}
use Rattle.l4_model.specs.Conditions.{◌>>=◌, ◌>>◌, Found, Pending, found, is_refusable, is_zero, may_still_accept, receiver_of, undecided}
use Rattle.l4_model.specs.Steps.{SendTimeout, next}
use Rattle.l4_audit.specs.Possible.{last_name}

-- Its receiver is in no receive phase, but in a call to another processor, and may still accept it
-- once that call is decided. Until then it is not refused, though its time is over.

abbrev pub is_held : Machine → Send → Option Found → Bool
is_held m send None = false
is_held m send (Some r) =
    is_zero send.period && is_none (receive_now r.now.phase)
    && may_still_accept m r send.message.shown r.now.phase

abbrev pub held : Machine → World → Name → Option Name
held m w s = do
  p ← undecided m w s
  is_held m p.send (receiver_of m w p)
  Some s

-- Only the last send of a thread can be undecided.
abbrev pub held_of : Machine → World → GlobalId → Option Name
held_of m w id = do
  t ← found m w id
  s ← last_name t
  held m w s

-- In order of declaration of their threads.
abbrev pub held_sends : Machine → World → List Name
held_sends m w = filter_map (λ (d : Declaration). held_of m w d.id) m.threads

-- What this says of the model

-- No step refuses it for its time.
abbrev pub IsKept : Machine → World → Name → Type 0
IsKept m w s = next m w (SendTimeout s) ≡ None

-- Of a send of time zero to a thread that is alive and in no receive phase, it is exactly that it
-- may not be refused.
abbrev pub IsNotRefusable : Machine → Send → Found → Type 0
IsNotRefusable m send r = is_held m send (Some r) ≡ not (is_refusable m send (Some r))
