-- The steps that entries name, and how a sender stands in a list.
use Rattle.std.specs.Prelude.{ℕ, ◌-◌, ◌*◌, ◌/◌, ◌%◌, nat_lt, if◌then◌else◌, Bool, true, false, Option, None, Some, is_some, List, [], ◌∷◌, length, get_or, slice_get}
use Rattle.l4_model.specs.Machine.{Machine}
use Rattle.l4_model.specs.World.{Thread, World, is_ready, receive_now}
use Rattle.l4_model.specs.Conditions.{◌>>=◌, ◌>>◌, Found, found_at}
use Rattle.l4_model.specs.Steps.{Step}
use Rattle.l4_worlds.specs.Late.{next_late}
use Rattle.l4_futures.specs.Choices.{kinds, retarget_of, step_at, step_of}
use Rattle.l4_audit.specs.Possible.{has_number}

-- The step that an entry names, where it is possible.
abbrev pub open_step : Machine → World → (entry : ℕ) → Option Step
open_step m w entry = do
  step ← step_at m w entry
  is_some (next_late m w step)
  Some step

-- Whether a thread is in for each kind of step, in the order of the table of steps: it is ready, it
-- has an undecided send, it is in a receive phase, or what it asked for is not done.
abbrev pub in_for : Thread → List Bool
in_for t =
    is_ready t.phase
    ∷ is_ready t.phase
    ∷ is_some t.send
    ∷ is_some t.send
    ∷ is_ready t.phase
    ∷ is_some t.send
    ∷ is_some (receive_now t.phase)
    ∷ is_some t.send
    ∷ is_some (receive_now t.phase)
    ∷ is_some t.send
    ∷ is_some (receive_now t.phase)
    ∷ is_some t.send
    ∷ is_ready t.phase
    ∷ is_some t.order
    ∷ []

-- The step that an entry names, if its thread is in for it.

abbrev pub own_step : Machine → World → Option Found → (kind : ℕ) → Option Step
own_step m w None kind = None
own_step m w (Some t) kind =
    if get_or (in_for t.now) kind false then step_of m w (Some t) kind else None

abbrev pub named_step : Machine → World → (entry : ℕ) → Option Step
named_step m w entry =
    if nat_lt entry (length m.threads * kinds)
    then own_step m w (found_at m w (entry / kinds)) (entry % kinds)
    else retarget_of (slice_get w.owed (entry - length m.threads * kinds))

-- A step, if a trace can tell it.
abbrev pub if_told : Option Step → Option Step
if_told candidate = do
  step ← candidate
  has_number step
  Some step

-- The code of a sender in a list, if it waits there.
abbrev pub sender_code : (waits : Bool) → (sender : ℕ) → List ℕ → List ℕ
sender_code true sender rest = 1 ∷ sender ∷ rest
sender_code false sender rest = rest
