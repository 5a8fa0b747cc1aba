-- A processor with the letters that have come to it, and what an entry makes of it.
use Rattle.std.specs.Prelude.{◌≡◌, ◌⊎◌, ◌<◌, ℕ, Bool, true, false, Option, None, Some, List, []}
use Rattle.std.specs.Prelude.{drop, slice_get, slice_index_or}
use Rattle.l4_model.specs.World.{changed}
use Rattle.l4_core_model.specs.Acts.{Work}
use Rattle.l4_core_model.specs.Letters.{Letter}
use Rattle.l4_core_model.specs.Mail.{handle}
use Rattle.l4_core_model.specs.Schedules.{Entry, CoreOf, LetterOf, TickOf, TickTo, TurnOf}
use Rattle.l4_core_model.specs.Turns.{advance, turn}
use Rattle.l4_core.specs.EventBuffers.{EventBuffer}
use Rattle.l4_core.specs.Inner.Turning.{work}
use Rattle.l4_core.specs.Processor.{Processor}
use Rattle.l4_replay.specs.Inner.Inboxes.{letters_in}
use Rattle.l4_replay.specs.Inner.Posters.{AreEmpty, IsFirstFilled}
use Rattle.l4_replay.specs.Stations.{Station, deadline_of}
use Rattle.l4_replay.specs.declared.node.Node.{Node}

abbrev pub station_of : Node → Station
station_of n = record { core = n.core; inbox = letters_in n.inbox }

-- This event was the next one of the processor, and these letters are left.
pub record HasDone (event : Option Work) (left : List (List Letter)) (old new : Node)
    (before after : EventBuffer) : Type 0 where
  pub is : event ≡ Some (work new.core.local after)
  pub machine : new.core.machine ≡ old.core.machine
  pub cpu : new.core.cpu ≡ old.core.cpu
  pub inbox : letters_in new.inbox ≡ left
  pub kept : after.before ≡ before.before

-- There is no such event, and nothing has changed.
pub record HasNot (event : Option Work) (old new : Node) (before after : EventBuffer) : Type 0 where
  pub none : event ≡ None
  pub same : new ≡ old
  pub untold : after ≡ before

-- An event that changes no letter that has come was the next one, or there is none.
abbrev pub Tries : Option Work → Bool → (old new : Node) → (before after : EventBuffer) → Type 0
Tries event true old new before after = HasDone event (letters_in old.inbox) old new before after
Tries event false old new before after = HasNot event old new before after

-- The core's turn, though letters may have come.
abbrev pub own_turn : Processor → Option Work
own_turn p = turn p.machine p.cpu p.local

-- The first letter of one poster was handled, and is taken out.
pub record IsHandling (from : ℕ) (old new : Node) (before after : EventBuffer) : Type 0 where
  pub letter : Letter
  pub first : slice_get (slice_index_or (letters_in old.inbox) from []) 0 ≡ Some letter
  pub done : HasDone (handle old.core.machine old.core.cpu old.core.local letter)
      (changed (drop 1) (letters_in old.inbox) from) old new before after

-- No letter of this poster has come, and nothing has changed.
pub record IsNoHandling (from : ℕ) (old new : Node) (before after : EventBuffer) : Type 0 where
  pub none : slice_index_or (letters_in old.inbox) from [] ≡ []
  pub same : new ≡ old
  pub untold : after ≡ before

abbrev pub HandlesFrom : (from : ℕ) → Bool → (old new : Node) → (before after : EventBuffer) →
    Type 0
HandlesFrom from true old new before after = IsHandling from old new before after
HandlesFrom from false old new before after = IsNoHandling from old new before after

-- The first letter of the lowest poster was handled.
pub record IsHandlingFirst (old new : Node) (before after : EventBuffer) : Type 0 where
  pub from : ℕ
  pub poster : IsFirstFilled (letters_in old.inbox) from
  pub handled : IsHandling from old new before after

-- A turn: mail first, and of it that of the lowest poster, else the core's turn.
abbrev pub TakesTurn : Bool → (old new : Node) → (before after : EventBuffer) → Type 0
TakesTurn true old new before after = IsHandlingFirst old new before after
    ⊎ (AreEmpty (letters_in old.inbox) × Tries (own_turn old.core) true old new before after)
TakesTurn false old new before after =
    AreEmpty (letters_in old.inbox) × Tries (own_turn old.core) false old new before after

-- The clock goes on to a value, if it may; and to the least deadline, if there is one.

abbrev pub GoesOnTo : (clock : ℕ) → Bool → (old new : Node) → (before after : EventBuffer) → Type 0
GoesOnTo clock done old new before after =
    Tries (advance old.core.machine old.core.cpu clock old.core.local) done old new before after

abbrev pub GoesOnToDue : Option ℕ → Bool → (old new : Node) → (before after : EventBuffer) → Type 0
GoesOnToDue None done old new before after = Tries None done old new before after
GoesOnToDue (Some clock) done old new before after = GoesOnTo clock done old new before after

-- What an entry asks for was done, or could not be.
abbrev pub HasTried : Entry → Bool → (old new : Node) → (before after : EventBuffer) → Type 0
HasTried (TurnOf cpu) done old new before after = TakesTurn done old new before after
HasTried (CoreOf cpu) done old new before after =
    Tries (own_turn old.core) done old new before after
HasTried (LetterOf cpu from) done old new before after = HandlesFrom from done old new before after
HasTried (TickOf cpu) done old new before after =
    GoesOnToDue (deadline_of (station_of old)) done old new before after
HasTried (TickTo cpu clock) done old new before after = GoesOnTo clock done old new before after

-- The poster of a letter that an entry names has a number below `cpus`.
abbrev pub KnowsPoster : (cpus : ℕ) → Entry → Type 0
KnowsPoster cpus (LetterOf cpu from) = from < cpus
KnowsPoster cpus _ = Unit {0}
