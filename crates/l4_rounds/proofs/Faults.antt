-- Why there is no rest.
use Rattle.std.proofs.Common.{◌≡◌, ℕ, ◌+◌, ◌<◌, ◌≤◌, Bool, true, false, cond, ◌||◌, Some, None, List, [], ◌∷◌, ◌++◌, length, map, get_or, take, refl, ap, sym, ◌∙◌, arith}
use Rattle.std.specs.Prelude.{◌==◌, nat_lt, slice_index_or}
use Rattle.std.specs.Option.{option_map}
use Rattle.std.proofs.lemmas.Bool.Decides.{nat_tests}
use Rattle.std.proofs.lemmas.List.{length-map, take_more}
use Rattle.std.proofs.lemmas.Option.{get_or_from_slice_get}
use Rattle.l4_model.specs.Machine.{Machine}
use Rattle.l4_core_model.specs.Schedules.{turns_of, Entry, TurnOf, replay_entries}
use Rattle.l4_replay.specs.declared.entries.Entry as code
use Rattle.l4_replay.specs.declared.fault.RunFault.TheVariants.{Turns, Schedule}
use Rattle.l4_replay.specs.Entries.{entries_fault, entry_from, first_stranger, most_events, most_turns}
use Rattle.l4_replay.proofs.Replays.{entry_at}
use Rattle.l4_rounds.specs.ThenRest.{HaveRest}
use Rattle.l4_rounds.proofs.Rounds.{rest_few}

pub no_fault : (m : Machine) (es : List Entry) → length es ≤ most_events → first_stranger m 1 es ≡ None →
    entries_fault m es ≡ None
no_fault m es few lawful =
    let test : nat_lt most_events (length es) ≡ false = grind (arith, nat_tests, few) in
    ap (λ b. cond b (Some Turns) (option_map Schedule (first_stranger m 1 es))) test
    ∙ ap (option_map Schedule) lawful

-- Where it is none of range, some turns are asked for, and not too many.
pub in_range : (entries turns : ℕ) → (turns == 0 || nat_lt most_turns (entries + turns)) ≡ false →
    (0 < turns) × (entries + turns ≤ most_turns)
in_range entries turns within = by (turns == 0) (nat_lt most_turns (entries + turns)) refl refl within
  where
    by : (b c : Bool) → (turns == 0) ≡ b → nat_lt most_turns (entries + turns) ≡ c → (b || c) ≡ false →
        (0 < turns) × (entries + turns ≤ most_turns)
    by true c e f none = cc
    by false true e f none = cc
    by false false e f none =
        let asked : 0 < turns = grind (arith, nat_tests, e) in
        let few : entries + turns ≤ most_turns = grind (arith, nat_tests, f) in (asked, few)

-- The entries before the next one, with it
pub next_taken : (entries : List code.Entry) (place : ℕ) (other : code.Entry) → place < length entries →
    take place (map entry_from entries) ++ entry_from (slice_index_or entries place other) ∷ []
    ≡ take (place + 1) (map entry_from entries)
next_taken entries place other within =
    let all : List Entry = map entry_from entries in
    let e : Entry = entry_from (slice_index_or entries place other) in
    let size = length-map entries entry_from in
    let at : get_or all place (TurnOf 0) ≡ e
    = get_or_from_slice_get all place e (TurnOf 0) (entry_at entries place other within) in
    sym (take_more all place (TurnOf 0) (omega (arith, size, within))
    ∙ ap (λ x. take place all ++ x ∷ []) at)

-- With the rest they are no more than there may be.
pub all_few : (m : Machine) (given all : List Entry) (turns : ℕ) → 1 ≤ m.cpus → m.cpus ≤ 16 →
    0 < turns → length given + turns ≤ most_turns → HaveRest m given turns all →
    length all ≤ most_events
all_few m given all turns some many asked few rest =
    let fewer = rest_few m turns (replay_entries m given) some asked in
    let replayed = ap turns_of rest.replayed in
    let count = rest.count in
    omega (arith, fewer, replayed, count, many, few)
