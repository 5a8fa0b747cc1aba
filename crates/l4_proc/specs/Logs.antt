-- The log of one processor: its events in order, and the steps and letters of the one under way.
use Rattle.std.specs.Prelude.{◌≡◌, ℕ, ◌++◌, ◌<◌, true, List, [], ◌∷◌, length, map}
use Rattle.l4_model.specs.Steps.{Step}
use Rattle.l4_core_model.specs.Runs.{Event, Action}
use Rattle.l4_core.specs.EventBuffers.{EventBuffer, IsBegun}
use Rattle.l4_proc.specs.Choices.{action_in}
use Rattle.l4_proc.specs.Ends.{are_ends, events_between}
use Rattle.l4_proc.specs.declared.log.EventRef.{EventRef}
use Rattle.l4_proc.specs.declared.log.Log.{Log}

-- All steps: those of the event under way behind those before.
abbrev pub all_steps : EventBuffer → List Step
all_steps t = t.before ++ t.steps

abbrev pub events : Log → List Event
events log = events_between log.cpu 0 log.ends.items (all_steps log.buffer)

-- What happened in each event of a log.
abbrev pub actions : Log → List Action
actions log = map (λ end. action_in log.cpu end.choice) log.ends.items

abbrev pub event_of : EventRef → Event
event_of e = record { cpu = e.cpu; stamp = e.stamp; steps = e.steps }

-- All steps belong to events that have ended.
abbrev pub IsClosed : Log → Type 0
IsClosed log = are_ends 0 log.ends.items (length (all_steps log.buffer)) ≡ true

-- An event begins, and there is room for its steps, its letters and its end.
pub record HasBegun (old new : Log) : Type 0 where
  pub cpu : new.cpu ≡ old.cpu
  pub ends : new.ends.items ≡ old.ends.items
  pub ticks : new.ticks ≡ old.ticks
  pub buffer : IsBegun old.buffer new.buffer
  pub room : 0 < new.ends.room

-- No step or letter came, and no event has begun or ended.
pub record IsSameLog (old new : Log) : Type 0 where
  pub cpu : new.cpu ≡ old.cpu
  pub ends : new.ends.items ≡ old.ends.items
  pub ticks : new.ticks ≡ old.ticks
  pub buffer : new.buffer ≡ old.buffer

-- The event under way ended, with this stamp and the number of what happened. `count` events of the
-- log are ticks then.
pub record HasEnded (old new : Log) (stamp choice count : ℕ) : Type 0 where
  pub cpu : new.cpu ≡ old.cpu
  pub ends : new.ends.items ≡ old.ends.items ++
      record { stamp = stamp; place = length (all_steps old.buffer); choice = choice } ∷ []
  pub ticks : new.ticks ≡ count
  pub buffer : new.buffer ≡ old.buffer

-- Letters of the event under way were taken out.
pub record HasLetters (old new : Log) : Type 0 where
  pub cpu : new.cpu ≡ old.cpu
  pub ends : new.ends ≡ old.ends
  pub ticks : new.ticks ≡ old.ticks
  pub buffer : all_steps new.buffer ≡ all_steps old.buffer
