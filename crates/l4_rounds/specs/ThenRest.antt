-- A replay that goes on in rounds.
use Rattle.std.specs.Prelude.{ℕ, ◌≡◌, ◌+◌, ◌==◌, ◌||◌, nat_lt, if◌then◌else◌, Option, Some, List, length, take}
use Rattle.std.specs.Option.{option_map}
use Rattle.l4_model.specs.Machine.{Machine}
use Rattle.l4_core_model.specs.Runs.{Run}
use Rattle.l4_core_model.specs.Schedules.{rounds, turns_of, Entry, replay_entries}
use Rattle.l4_replay.specs.Entries.{first_stranger, most_turns}
use Rattle.l4_replay.specs.declared.fault.RunFault.{RunFault}
use Rattle.l4_replay.specs.declared.fault.RunFault.TheVariants.{Turns, Schedule}

-- Rounds: one turn of each processor, rising, or ticks of all clocks if a round has no event. They
-- go on until `turns` more turns are used up, or nothing goes on.
abbrev pub in_rounds : (turns : ℕ) → Machine → Run → Run
in_rounds turns m r = rounds m (turns_of r + turns) turns r

-- A replay of entries, and then the rest.
abbrev pub then_rest : Machine → List Entry → (turns : ℕ) → Run
then_rest m entries turns = in_rounds turns m (replay_entries m entries)

-- The entries `all` go on from `given` as `next` says. They begin with `given`, and their replay is
-- what `next` makes of the replay of `given`. They have one more entry for each further event.
pub record GoOn (next : Machine → Run → Run) (m : Machine) (given all : List Entry) : Type 0 where
  pub begins : take (length given) all ≡ given
  pub replayed : replay_entries m all ≡ next m (replay_entries m given)
  pub count : length all + turns_of (replay_entries m given) ≡
      length given + turns_of (replay_entries m all)

-- The entries `all` go on from `given` with those of the rest.
abbrev pub HaveRest : Machine → (given : List Entry) → (turns : ℕ) → (all : List Entry) → Type 0
HaveRest m given turns all = GoOn (in_rounds turns) m given all

-- Why there is no rest. No turn is asked for, or entries and turns together are more than a run may
-- have. Or else this entry, counted from 1, is none of the machine.
abbrev pub rest_fault : Machine → List Entry → (turns : ℕ) → Option RunFault
rest_fault m entries turns =
    if turns == 0 || nat_lt most_turns (length entries + turns) then Some Turns
    else option_map Schedule (first_stranger m 1 entries)
