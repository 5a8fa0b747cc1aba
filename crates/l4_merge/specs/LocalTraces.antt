-- What the processors of a machine have done, as each of them knows it.
use Rattle.std.specs.Prelude.{ℕ, ◌≡◌, ◌≤◌, ◌+◌, true, length, drop, Option, Some, None, List, [], ◌∷◌, ◌++◌, map, slice_get}
use Rattle.std.specs.List.{flat_map, AllByRecursion}
use Rattle.l4_model.specs.Machine.{Machine}
use Rattle.l4_core_model.specs.Letters.{Letter}
use Rattle.l4_core_model.specs.Local.{Local, opening_local}
use Rattle.l4_core_model.specs.Acts.{Work}
use Rattle.l4_core_model.specs.Turns.{advance}
use Rattle.l4_core_model.specs.Runs.{Event, Action, Ticks, processors}
use Rattle.l4_merge.specs.Transitions.{Transition, Ticked, is_turn, told_by, happened_by, posted_by, handled_by, letters_with, Lead}

-- What a processor has done so far: its log of events, what happened in each of them, the letters
-- that it has posted to each processor and handled of each, and the local state that it has come
-- to.
pub record LocalTrace : Type 0 where
  pub events : List Event
  pub actions : List Action
  pub posted : (to : ℕ) → List Letter
  pub handled : (from : ℕ) → List Letter
  pub local : Local

-- The past of a processor that has done nothing.
abbrev pub empty_past : Local → LocalTrace
empty_past l = record {
  events = [];
  actions = [];
  posted = λ to. [];
  handled = λ from. [];
  local = l;
}

-- Transitions are what a processor did between an earlier past and a later one.
pub record AreDeedsBetween (m : Machine) (cpu : ℕ) (old new : LocalTrace)
    (transitions : List Transition) : Type 0 where
  pub lead : Lead m cpu old.local transitions new.local
  pub events : new.events ≡ old.events ++ map told_by transitions
  pub actions : new.actions ≡ old.actions ++ map happened_by transitions
  pub posted : (to : ℕ) → new.posted to ≡ old.posted to ++ letters_with to (posted_by transitions)
  pub handled : (from : ℕ) → new.handled from ≡ old.handled from ++
      letters_with from (handled_by transitions)

-- A processor has gone on, by some transitions, from an earlier past to a later one.
pub record Extends (m : Machine) (cpu : ℕ) (old new : LocalTrace) : Type 0 where
  pub transitions : List Transition
  pub are : AreDeedsBetween m cpu old new transitions

-- It has gone on by turns alone, and by no tick.
pub record HasTurned (m : Machine) (cpu : ℕ) (old new : LocalTrace) : Type 0 where
  pub worked : Extends m cpu old new
  pub turns : AllByRecursion (λ d. is_turn d.event ≡ true) worked.transitions

abbrev pub posted_in : (to : ℕ) → Option LocalTrace → List Letter
posted_in to None = []
posted_in to (Some past) = past.posted to

abbrev pub handled_in : (from : ℕ) → Option LocalTrace → List Letter
handled_in from None = []
handled_in from (Some past) = past.handled from

-- The letters of an ordered pair of processors: those that the first one has posted, and those that
-- the second one has handled.

abbrev pub letters_posted : List LocalTrace → (from to : ℕ) → List Letter
letters_posted pasts from to = posted_in to (slice_get pasts from)

abbrev pub letters_handled : List LocalTrace → (from to : ℕ) → List Letter
letters_handled pasts from to = handled_in from (slice_get pasts to)

-- One list begins another.
pub record Begins {A : Type 0} (first whole : List A) : Type 0 where
  pub rest : List A
  pub is : whole ≡ first ++ rest

-- Each processor has added at most this many events.
abbrev pub AddAtMost : (most : ℕ) → (olds news : List LocalTrace) → Type 0
AddAtMost most olds news = (cpu : ℕ) (old new : LocalTrace) → slice_get olds cpu ≡ Some old →
    slice_get news cpu ≡ Some new →
    length new.events ≤ length old.events + most

-- All processors have gone on, each by itself. The letters of each pair are handled in the order in
-- which they are posted.
pub record HaveWorked (m : Machine) (olds news : List LocalTrace) : Type 0 where
  pub for_each : length news ≡ length olds
  pub each : (cpu : ℕ) (old new : LocalTrace) → slice_get olds cpu ≡ Some old →
      slice_get news cpu ≡ Some new → Extends m cpu old new
  pub in_order : (from to : ℕ) → Begins (letters_handled news from to) (letters_posted news from to)

-- All processors have gone on so, each by turns alone.
pub record HaveTurned (m : Machine) (olds news : List LocalTrace) : Type 0 where
  pub for_each : length news ≡ length olds
  pub each : (cpu : ℕ) (old new : LocalTrace) → slice_get olds cpu ≡ Some old →
      slice_get news cpu ≡ Some new → HasTurned m cpu old new
  pub in_order : (from to : ℕ) → Begins (letters_handled news from to) (letters_posted news from to)

-- All processors of the machine have gone on so from the opening: nothing that they did is missing.
pub record AreWholePasts (m : Machine) (pasts : List LocalTrace) : Type 0 where
  pub for_each : length pasts ≡ m.cpus
  pub each : (cpu : ℕ) (past : LocalTrace) → slice_get pasts cpu ≡ Some past →
      Extends m cpu (empty_past (opening_local m cpu)) past
  pub in_order : (from to : ℕ) → Begins (letters_handled pasts from to)
      (letters_posted pasts from to)

-- The pasts of all processors at the opening.
abbrev pub opening_pasts : Machine → List LocalTrace
opening_pasts m = map (λ cpu. empty_past (opening_local m cpu)) (processors m)

-- The events of all logs, processor by processor.
abbrev pub all_events : List LocalTrace → List Event
all_events pasts = flat_map (λ past. past.events) pasts

-- The events that later pasts have and earlier ones do not, processor by processor.
abbrev pub added_events : (olds news : List LocalTrace) → List Event
added_events [] news = []
added_events (old ∷ olds) [] = []
added_events (old ∷ olds) (new ∷ news) = drop (length old.events) new.events ++
    added_events olds news

-- The clock of a processor went on: one event more, and no letter was posted or handled.
pub record HasTicked (m : Machine) (cpu clock : ℕ) (old new : LocalTrace) : Type 0 where
  pub work : Work
  pub advances : advance m cpu clock old.local ≡ Some work
  pub events : new.events ≡ old.events ++ told_by (record {
    cpu = cpu;
    event = Ticked clock;
    work = work;
  }) ∷ []
  pub actions : new.actions ≡ old.actions ++ Ticks cpu clock ∷ []
  pub posted : (to : ℕ) → new.posted to ≡ old.posted to
  pub handled : (from : ℕ) → new.handled from ≡ old.handled from
  pub local : work.local ≡ new.local
