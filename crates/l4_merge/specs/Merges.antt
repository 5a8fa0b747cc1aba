-- What is true of the events of all processors in order of stamp.
use Rattle.std.specs.Prelude.{ℕ, ◌<◌, ◌==◌, ◌≡◌, Bool, true, not, ◌&&◌, Some, List, ◌++◌, map, filter, slice_get}
use Rattle.std.specs.List.{list_all}
use Rattle.std.specs.List.Sorted.{IsPermutation, IsSortedBy}
use Rattle.l4_model.specs.Machine.{Machine}
use Rattle.l4_core_model.specs.Local.{Local}
use Rattle.l4_core_model.specs.Turns.{is_busy}
use Rattle.l4_core_model.specs.Runs.{Event, Action, Run, core_run, letters, is_earlier, merged, is_empty, at_rest}
use Rattle.l4_core_model.specs.Laws.{IsCoreRun}
use Rattle.l4_merge.specs.LocalTraces.{LocalTrace, letters_posted, letters_handled, AreWholePasts, all_events, added_events}
use Rattle.l4_merge.specs.Recorded.{IsRecorded}
use Rattle.l4_merge.specs.Rounds.{is_no_tick}

-- A run ends where the processors are: it has their local states, and the letters posted of each
-- pair are those handled and those under way.
pub record EndsAt (r : Run) (pasts : List LocalTrace) : Type 0 where
  pub locals : r.system.locals ≡ map (λ past. past.local) pasts
  pub mail : (from to : ℕ) → letters_posted pasts from to ≡ letters_handled pasts from to ++
      letters r.system.mail from to

-- A run that ended where the processors were goes on to where they are. Its new events are those
-- that they added, in order of stamp.
pub record IsMergedRun (m : Machine) (before : Run) (olds news : List LocalTrace) (after : Run) :
    Type 0 where
  pub actions : List Action
  pub is : core_run m before actions ≡ Some after
  pub ends : EndsAt after news
  pub events : after.events ≡ before.events ++ merged (added_events olds news)

abbrev pub HasMergedRun : Machine → (before : Run) → (olds news : List LocalTrace) → Type 0
HasMergedRun m before olds news = (after : Run) × IsMergedRun m before olds news after

-- It goes on so by turns alone.
pub record IsTurnedRun (m : Machine) (before : Run) (olds news : List LocalTrace) (after : Run) :
    Type 0 where
  pub merged : IsMergedRun m before olds news after
  pub turns : list_all is_no_tick merged.actions ≡ true

abbrev pub HasTurnedRun : Machine → (before : Run) → (olds news : List LocalTrace) → Type 0
HasTurnedRun m before olds news = (after : Run) × IsTurnedRun m before olds news after

-- The core run of all processors from the opening on: its events are those of all logs in order of
-- stamp. In each of them happened what its processor knows of it.
pub record IsWholeRun (m : Machine) (pasts : List LocalTrace) (r : Run) : Type 0 where
  pub core_run : IsCoreRun m r
  pub recorded : IsRecorded m pasts r
  pub ends : EndsAt r pasts
  pub events : r.events ≡ merged (all_events pasts)

abbrev pub HaveWholeRun : Machine → List LocalTrace → Type 0
HaveWholeRun m pasts = (r : Run) × IsWholeRun m pasts r

-- The pasts of all processors in a core run: their logs are its events, and it ends where they are.
pub record ArePastsOf (m : Machine) (r : Run) (pasts : List LocalTrace) : Type 0 where
  pub whole : AreWholePasts m pasts
  pub ends : EndsAt r pasts
  pub logs : (cpu : ℕ) (past : LocalTrace) → slice_get pasts cpu ≡ Some past →
      past.events ≡ filter (λ e. e.cpu == cpu) r.events

abbrev pub HasPasts : Machine → Run → Type 0
HasPasts m r = (pasts : List LocalTrace) × ArePastsOf m r pasts

-- However these events are sorted by stamp and processor, the result is what the merge gives.
abbrev pub SortAsMerged : List Event → Type 0
SortAsMerged es = (sorted : List Event) → IsPermutation es sorted → IsSortedBy is_earlier sorted →
    sorted ≡ merged es

-- A processor has no duty, due timeout, ready thread or armed deadline.
abbrev pub is_at_rest : Machine → (cpu : ℕ) → Local → Bool
is_at_rest m cpu l = not (is_busy m cpu l) && is_empty l.lists.armed

-- Each processor is at rest, and all letters are handled.
pub record AreAtRest (m : Machine) (pasts : List LocalTrace) : Type 0 where
  pub each : (cpu : ℕ) (past : LocalTrace) → cpu < m.cpus → slice_get pasts cpu ≡ Some past →
      is_at_rest m cpu past.local ≡ true
  pub all_handled : (from to : ℕ) → letters_posted pasts from to ≡ letters_handled pasts from to

-- A core run in order of stamp. The other run has its events merged, and ends in the same local
-- states with the same letters of each pair under way. It is at rest exactly where the first one
-- is.
pub record IsReorderedRun (m : Machine) (r other : Run) : Type 0 where
  pub core_run : IsCoreRun m other
  pub events : other.events ≡ merged r.events
  pub locals : other.system.locals ≡ r.system.locals
  pub mail : (from to : ℕ) → letters other.system.mail from to ≡ letters r.system.mail from to
  pub rest : at_rest m other.system ≡ at_rest m r.system

abbrev pub HasReorderedRun : Machine → Run → Type 0
HasReorderedRun m r = (other : Run) × IsReorderedRun m r other
