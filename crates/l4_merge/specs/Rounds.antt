-- Runs in rounds: the processors work side by side, and the clocks go on only where nothing else is
-- to be done.
use Rattle.std.specs.Prelude.{ℕ, ◌+◌, ◌-◌, ◌*◌, ◌==◌, ◌≡◌, nat_lt, Bool, true, false, not, if◌then◌else◌, ◌&&◌, Option, Some, None, List, [], ◌∷◌, length, filter, slice_get}
use Rattle.std.specs.List.{list_all}
use Rattle.l4_model.specs.Machine.{Machine}
use Rattle.l4_model.specs.Conditions.{◌>>=◌}
use Rattle.l4_core_model.specs.Local.{Local}
use Rattle.l4_core_model.specs.Turns.{is_busy}
use Rattle.l4_core_model.specs.Runs.{Event, System, processors, Action, Handles, Turns, Ticks, Run, core_run, opening_run, is_empty}
use Rattle.l4_core_model.specs.Schedules.{ticks}

abbrev pub is_no_tick : Action → Bool
is_no_tick (Handles cpu from) = true
is_no_tick (Turns cpu) = true
is_no_tick (Ticks cpu clock) = false

-- A processor has no duty, due timeout or ready thread.
abbrev pub local_is_idle : Machine → System → ℕ → Bool
local_is_idle m g cpu = at (slice_get g.locals cpu)
  where
    at : Option Local → Bool
    at None = true
    at (Some l) = not (is_busy m cpu l)

-- No processor has any of these, and no letter is under way.
abbrev pub is_idle : Machine → System → Bool
is_idle m g = list_all (local_is_idle m g) (processors m) && is_empty g.mail

-- How many of the events are of a processor.
abbrev pub events_of : (cpu : ℕ) → List Event → ℕ
events_of cpu es = length (filter (λ e. e.cpu == cpu) es)

-- Of the turns that were left no processor has taken more than its equal share, rounded up.
abbrev pub keep_shares : Machine → (turns : ℕ) → (before after : List Event) → Bool
keep_shares m turns before after = list_all within (processors m)
  where
    within : ℕ → Bool
    within cpu = nat_lt ((events_of cpu after - events_of cpu before) * m.cpus)
        ((turns - length before) + m.cpus)

-- In one round the processors take turns, in whatever order. In another the clocks go on.
pub data Round : Type 0 where
  Turning : List Action → Round
  Ticking : Round

abbrev pub if_shares_kept : Machine → (turns : ℕ) → (before after : Run) → Option Run
if_shares_kept m turns before after = if keep_shares m turns before.events after.events
    then Some after else None

-- The run after a round, where the whole run is given so many turns. None where the round is not
-- allowed. The turns of a round are no ticks, and each processor takes at most its share of those
-- left. The clocks go on, to the least deadline of all, only where nothing else is to be done.
abbrev pub after_round : Machine → (turns : ℕ) → Run → Round → Option Run
after_round m turns r (Turning actions) =
    if list_all is_no_tick actions then (core_run m r actions >>= if_shares_kept m turns r)
    else None
after_round m turns r Ticking = if is_idle m r.system then Some (ticks m r) else None

abbrev pub after_rounds : Machine → (turns : ℕ) → Run → List Round → Option Run
after_rounds m turns r [] = Some r
after_rounds m turns r (round ∷ rounds) = after_round m turns r round >>= λ after.
    after_rounds m turns after rounds

-- Some rounds lead to the run from the opening.
abbrev pub IsInRounds : Machine → (turns : ℕ) → Run → Type 0
IsInRounds m turns r = (rounds : List Round) ×
    (after_rounds m turns (opening_run m) rounds ≡ Some r)
