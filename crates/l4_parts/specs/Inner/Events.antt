-- Events, each known by its number.
use Rattle.std.specs.Prelude.{ℕ, ◌≡◌, Some, List, slice_get}
use Rattle.l4_parts.specs.declared.events.Event.{Event}
use Rattle.l4_parts.specs.Inner.Known.{Fit}

-- The event of this number is that of a choice, and a row has the parts that it reads.
pub record Matches (events : List Event) (row : List ℕ) (choice part queue number : ℕ) : Type 0 where
  pub event : Event
  pub at : slice_get events number ≡ Some event
  pub choice_is : event.choice ≡ choice
  pub part_is : event.part ≡ part
  pub queue_is : event.queue ≡ queue
  pub fit : Fit event.writes.items row
