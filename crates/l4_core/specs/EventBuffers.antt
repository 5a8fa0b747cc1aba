-- What an event of a processor tells and posts.
use Rattle.std.specs.Prelude.{◌≡◌, ℕ, ◌≤◌, List, [], ◌∷◌, ◌++◌, ◌-◌}
use Rattle.l4_model.specs.Steps.{Step}
use Rattle.l4_core_model.specs.Letters as letters
use Rattle.l4_types.specs.declared.step_ref.DeliveryRef.{DeliveryRef}
use Rattle.l4_history.specs.Inner.Sent.{sent}

-- The steps told before the event under way; the steps of this event, and the letters that it
-- posted, each with the processor that it goes to; how many more of both have room.
pub record EventBuffer : Type 0 where
  pub before : List Step
  pub steps : List Step
  pub letters : List (ℕ × letters.Letter)
  pub room : ℕ
  pub slots : ℕ

-- The event under way has told and posted nothing yet, and there is room for all that an event may
-- tell and post.
pub record IsOpen (t : EventBuffer) : Type 0 where
  pub steps : t.steps ≡ []
  pub letters : t.letters ≡ []
  pub room : 3 ≤ t.room
  pub slots : 2 ≤ t.slots

-- An event begins behind what was told.
pub record IsBegun (old new : EventBuffer) : Type 0 where
  pub before : new.before ≡ old.before ++ old.steps
  pub opened : IsOpen new

abbrev pub with_step : Step → EventBuffer → EventBuffer
with_step step t = record t { steps = t.steps ++ step ∷ []; room = t.room - 1 }

-- A send was told that its receiver took at once.
abbrev pub with_sent : DeliveryRef → EventBuffer → EventBuffer
with_sent delivery t = record t { steps = t.steps ++ sent delivery; room = t.room - 3 }

abbrev pub with_letter : ℕ → letters.Letter → EventBuffer → EventBuffer
with_letter cpu letter t = record t {
  letters = t.letters ++ (cpu, letter) ∷ [];
  slots = t.slots - 1;
}
