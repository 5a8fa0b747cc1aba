-- How a run ends that has gone on in rounds.
use Rattle.std.specs.Prelude.{ℕ, ◌≡◌, ◌+◌, ◌≤◌, ◌⊎◌, true, IsSomeAnd}
use Rattle.l4_model.specs.Machine.{Machine}
use Rattle.l4_model.specs.Words.{clock_limit}
use Rattle.l4_core_model.specs.Runs.{Run, System, at_rest}
use Rattle.l4_core_model.specs.Schedules.{earliest_deadline, turns_of}
use Rattle.l4_merge.specs.Rounds.{is_idle}

-- Nothing is to be done, and no letter is under way, but no clock can go on to the earliest
-- deadline.
abbrev pub IsOutOfTime : Machine → System → Type 0
IsOutOfTime m g =
    (is_idle m g ≡ true) × IsSomeAnd (earliest_deadline m g) (λ deadline. clock_limit ≤ deadline)

-- The turns are used up, or nothing is left.
abbrev pub HasEnded : Machine → (turns : ℕ) → (before after : Run) → Type 0
HasEnded m turns before after =
    (turns_of before + turns ≤ turns_of after) ⊎
    ((at_rest m after.system ≡ true) ⊎ IsOutOfTime m after.system)
