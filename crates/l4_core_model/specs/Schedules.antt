-- Runs by a given schedule, and runs in rounds.
use Rattle.std.specs.Prelude.{ℕ, zero, suc, ◌-◌, nat_lt, nat_le, min, length, Bool, if◌then◌else◌, Option, Some, None, List, [], ◌∷◌, map, slice_get}
use Rattle.std.specs.Option.{option_map}
use Rattle.l4_model.specs.Options.{if_some}
use Rattle.l4_model.specs.Machine.{Machine, most_processors}
use Rattle.l4_model.specs.Conditions.{◌>>=◌}
use Rattle.l4_core_model.specs.Runs.{System, processors, letters, Action, Handles, Turns, Ticks, Happened, happens, Run, then_event, opening_run, is_empty}

-- The turn of a processor: mail first, and of it that of the lowest poster; else the core's turn.

abbrev pub first_poster : System → (cpu : ℕ) → List ℕ → Option ℕ
first_poster g cpu [] = None
first_poster g cpu (q ∷ qs) = if is_empty (letters g.mail q cpu)
    then first_poster g cpu qs else Some q

abbrev pub turn_of : (cpu : ℕ) → Option ℕ → Action
turn_of cpu None = Turns cpu
turn_of cpu (Some q) = Handles cpu q

abbrev pub next_turn : Machine → System → (cpu : ℕ) → Action
next_turn m g cpu = turn_of cpu (first_poster g cpu (processors m))

-- An event that is not possible leaves a run as it is.
abbrev pub or_stays : Run → Option Happened → Run
or_stays r h = if_some (λ e run. then_event run e) h r

abbrev pub attempts : Machine → Run → Action → Run
attempts m r e = or_stays r (happens m r.system e)

abbrev pub attempts_all : Machine → Run → List Action → Run
attempts_all m r [] = r
attempts_all m r (e ∷ es) = attempts_all m (attempts m r e) es

abbrev pub least_deadline : System → (cpu : ℕ) → Option ℕ
least_deadline g cpu = slice_get g.locals cpu >>= λ l.
    option_map (λ e. e.0) (slice_get l.lists.armed 0)

-- An entry of a schedule. `TurnOf`: a turn of a processor, where mail comes first, and of it that
-- of the lowest poster. `TickOf`: a tick of its clock to its least deadline. `LetterOf`: the first
-- letter under way from one poster. `CoreOf`: the turn of its core, though mail may be there.
-- `TickTo`: a tick of its clock to a value.
pub data Entry : Type 0 where
  TurnOf : (cpu : ℕ) → Entry
  TickOf : (cpu : ℕ) → Entry
  LetterOf : (cpu from : ℕ) → Entry
  CoreOf : (cpu : ℕ) → Entry
  TickTo : (cpu clock : ℕ) → Entry

-- A number below 16 is a turn of that processor, another one a tick of the processor of that number
-- less 16.
abbrev pub numbered : (number : ℕ) → Entry
numbered number = if nat_lt number most_processors then TurnOf number
    else TickOf (number - most_processors)

-- Replay: where there is nothing to do, an entry leaves the run as it is.

abbrev pub entry_event : Machine → System → Entry → Option Action
entry_event m g (TurnOf cpu) = Some (next_turn m g cpu)
entry_event m g (TickOf cpu) = option_map (Ticks cpu) (least_deadline g cpu)
entry_event m g (LetterOf cpu from) = Some (Handles cpu from)
entry_event m g (CoreOf cpu) = Some (Turns cpu)
entry_event m g (TickTo cpu clock) = Some (Ticks cpu clock)

abbrev pub replays : Machine → Run → List Entry → Run
replays m r [] = r
replays m r (entry ∷ entries) = replays m (or_stays r
    (entry_event m r.system entry >>= happens m r.system)) entries

abbrev pub replay_entries : Machine → List Entry → Run
replay_entries m entries = replays m (opening_run m) entries

abbrev pub replay : Machine → (schedule : List ℕ) → Run
replay m schedule = replay_entries m (map numbered schedule)

-- Rounds: one turn of each processor, rising. Where a round has no event, all clocks below the
-- least deadline of all are advanced to it.

abbrev pub turns_in_order : Machine → Run → List ℕ → Run
turns_in_order m r [] = r
turns_in_order m r (cpu ∷ cpus) = turns_in_order m (attempts m r (next_turn m r.system cpu)) cpus

abbrev pub round : Machine → Run → Run
round m r = turns_in_order m r (processors m)

abbrev pub earliest : Option ℕ → Option ℕ → Option ℕ
earliest None b = b
earliest (Some a) None = Some a
earliest (Some a) (Some b) = Some (min a b)

abbrev pub earliest_of : List (Option ℕ) → Option ℕ
earliest_of [] = None
earliest_of (d ∷ ds) = earliest d (earliest_of ds)

abbrev pub earliest_deadline : Machine → System → Option ℕ
earliest_deadline m g = earliest_of (map (least_deadline g) (processors m))

-- All clocks below the earliest deadline are advanced to it.
abbrev pub ticks_to : Machine → Run → Option ℕ → Run
ticks_to m r deadline = if_some (λ d run. attempts_all m run
    (map (λ cpu. Ticks cpu d) (processors m))) deadline r

abbrev pub ticks : Machine → Run → Run
ticks m r = ticks_to m r (earliest_deadline m r.system)

abbrev pub turns_of : Run → ℕ
turns_of r = length r.events

abbrev pub has_gone_on : (before after : Run) → Bool
has_gone_on before after = nat_lt (turns_of before) (turns_of after)

-- A round, or where it has no event the ticks.
abbrev pub round_or_ticks : Machine → (before after : Run) → Run
round_or_ticks m before after = if has_gone_on before after then after else ticks m after

-- What becomes of a run after a round: it has ended where nothing went on or the turns are used up.
abbrev pub unless_ended : (turns : ℕ) → (before after : Run) → (Run → Run) → Run
unless_ended turns before after more =
    if has_gone_on before after then (if nat_le turns (turns_of after) then after
    else more after) else after

-- Rounds until so many turns are used up, or nothing goes on. Each round but the last has at least
-- one event, so `turns` rounds suffice.
abbrev pub rounds : Machine → (turns : ℕ) → (left : ℕ) → Run → Run
rounds m turns zero r = r
rounds m turns (suc left) r = unless_ended turns r (round_or_ticks m r (round m r)) (λ after.
    rounds m turns left after)

abbrev pub run : Machine → (turns : ℕ) → Run
run m turns = rounds m turns turns (opening_run m)
