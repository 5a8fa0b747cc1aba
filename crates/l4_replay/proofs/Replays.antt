-- A schedule, entry by entry.
use Rattle.std.proofs.Common.{◌≡◌, ◌++◌, ℕ, zero, suc, ◌+◌, ◌<◌, ◌≤◌, true, false, Option, Some, None, List, [], ◌∷◌, length, drop, map, refl, ap, sym, ◌∙◌, arith, add-one, length-append}
use Rattle.std.specs.Prelude.{if◌then◌else◌, nat_lt, slice_get, slice_index_or, OnOk, Result, Ok, Err}
use Rattle.std.specs.Option.{option_map}
use Rattle.std.proofs.Math.Seq.{drop-length}
use Rattle.std.proofs.lemmas.Bool.Decides.{nat_tests}
use Rattle.std.proofs.lemmas.List.{length-map}
use Rattle.l4_model.specs.Machine.{Machine}
use Rattle.l4_model.specs.Conditions.{◌>>=◌}
use Rattle.l4_model.specs.Steps.{Step}
use Rattle.l4_core_model.specs.Runs.{Action, Happened, happens, Run, opening_run, told}
use Rattle.l4_core.specs.EventBuffers.{EventBuffer}
use Rattle.l4_core_model.specs.Schedules.{attempts, numbered, or_stays, replay, Entry, entry_event, replays, replay_entries}
use Rattle.l4_replay.specs.declared.entries.Entry as code
use Rattle.l4_replay.specs.declared.fault.RunFault.TheVariants.{Turns, Schedule}
use Rattle.l4_replay.specs.Inner.Processors.{HasTold}
use Rattle.l4_replay.specs.Entries.{after_entry, entries_fault, entry_from, is_entry, first_stranger, most_events}
use Rattle.l4_replay.specs.UnderWay.{UnderWay, IsRun, GoesOn}

-- What is tried adds one event at most.
one_more : (m : Machine) (r : Run) (e : Action) → length (attempts m r e).events ≤ length r.events + 1
one_more m r e = by (happens m r.system e)
  where
    by : (o : Option Happened) → length (or_stays r o).events ≤ length r.events + 1
    by None = omega arith
    by (Some h) = let longer = length-append r.events (h.event ∷ []) in omega arith

-- Behind some entries of a schedule: the core run of these, and the steps that it tells.
pub record IsReplaying (m : Machine) (schedule : List Entry) (u : UnderWay) (steps : List Step) (place : ℕ) : Type 0 where
  pub run : Run
  pub is : IsRun m run u
  pub goes_on : replay_entries m schedule ≡ replays m run (drop place schedule)
  pub count : length run.events ≤ place
  pub told_are : told run.events ≡ steps

pub replaying_start : (m : Machine) (schedule : List Entry) (u : UnderWay) (steps : List Step) →
    IsRun m (opening_run m) u → steps ≡ [] → IsReplaying m schedule u steps 0
replaying_start m schedule u steps i none = record {
  run = opening_run m;
  is = i;
  goes_on = refl;
  count = omega arith;
  told_are = sym none;
}

rest_at : (schedule : List Entry) (place : ℕ) (entry : Entry) → slice_get schedule place ≡ Some entry → drop place schedule ≡ entry ∷ drop (suc place) schedule
rest_at [] place entry is = cc
rest_at (first ∷ others) zero entry is = let same : first ≡ entry = cc in ap (λ e. e ∷ others) same
rest_at (first ∷ others) (suc place) entry is = rest_at others place entry is

-- The rest of a schedule begins with the entry at hand.
pub rest_is : (schedule : List Entry) (place : ℕ) (entry : Entry) → slice_get schedule place ≡ Some entry → drop place schedule ≡ entry ∷ drop (place + 1) schedule
rest_is schedule place entry is = rest_at schedule place entry is ∙ rw add-one refl

-- An entry of the code at a place is that of the definitions at it.
pub entry_at : (entries : List code.Entry) (place : ℕ) (other : code.Entry) → place < length entries →
    slice_get (map entry_from entries) place ≡ Some (entry_from (slice_index_or entries place other))
entry_at [] place other within = absurd (omega (arith, within))
entry_at (first ∷ others) zero other within = refl
entry_at (first ∷ others) (suc place) other within = entry_at others place other (omega (arith, within))

pub entry_count : (m : Machine) (r : Run) (o : Option Action) → length (or_stays r (o >>= happens m r.system)).events ≤ length r.events + 1
entry_count m r None = omega arith
entry_count m r (Some e) = one_more m r e

pub replaying_next : (m : Machine) (schedule : List Entry) (u v : UnderWay) (steps all : List Step) (place : ℕ)
    (entry : Entry) (first after : EventBuffer) → slice_get schedule place ≡ Some entry →
    IsReplaying m schedule u steps place → steps ≡ first.before ++ first.steps → GoesOn (after_entry entry) u v →
    HasTold (after_entry entry) u first after → all ≡ after.before ++ after.steps →
    IsReplaying m schedule v all (place + 1)
replaying_next m schedule u v steps all place entry first after at i same goes told_more are = record {
  run = after_entry entry m i.run;
  is = goes m i.run i.is;
  goes_on = i.goes_on ∙ ap (replays m i.run) (rest_is schedule place entry at);
  count = let before = i.count in let more = entry_count m i.run (entry_event m i.run.system entry) in omega arith;
  told_are = told_more.more m i.run i.is
      ∙ ap (λ xs. xs ++ after.steps) (i.told_are ∙ same ∙ sym told_more.kept)
      ∙ sym are;
}

pub replaying_end : (m : Machine) (schedule : List Entry) (u : UnderWay) (steps : List Step) (place : ℕ)
    (i : IsReplaying m schedule u steps place) → place ≡ length schedule → i.run ≡ replay_entries m schedule
replaying_end m schedule u steps place i all =
    sym (i.goes_on ∙ ap (λ n. replays m i.run (drop n schedule)) all ∙ ap (replays m i.run) (drop-length schedule))

-- The entries so far are lawful, and so is the one at hand.
pub lawful-next : (m : Machine) (schedule : List Entry) (place : ℕ) (entry : Entry) → slice_get schedule place ≡ Some entry → is_entry m entry ≡ true →
    first_stranger m 1 schedule ≡ first_stranger m (place + 1) (drop place schedule) →
    first_stranger m 1 schedule ≡ first_stranger m (place + 1 + 1) (drop (place + 1) schedule)
lawful-next m schedule place entry is own so_far =
    so_far ∙ ap (first_stranger m (place + 1)) (rest_is schedule place entry is)
    ∙ ap (λ b. if b then first_stranger m (place + 1 + 1) (drop (place + 1) schedule) else Some (place + 1)) own

-- The entries so far are lawful, and the one at hand is not.
pub stranger_here : (m : Machine) (entries : List code.Entry) (place : ℕ) (other : code.Entry) → length entries ≤ most_events → place < length entries →
    is_entry m (entry_from (slice_index_or entries place other)) ≡ false →
    first_stranger m 1 (map entry_from entries) ≡ first_stranger m (place + 1) (drop place (map entry_from entries)) →
    entries_fault m (map entry_from entries) ≡ Some (Schedule (place + 1))
stranger_here m entries place other few within strange so_far =
    let all = map entry_from entries in
    let count : length all ≡ length entries = length-map entries entry_from in
    let test : nat_lt most_events (length all) ≡ false = grind (arith, nat_tests, count, few) in
    let here : first_stranger m 1 all ≡ Some (place + 1) =
    so_far ∙ ap (first_stranger m (place + 1)) (rest_is all place (entry_from (slice_index_or entries place other)) (entry_at entries place other within))
    ∙ ap (λ b. if b then first_stranger m (place + 1 + 1) (drop (place + 1) all) else Some (place + 1)) strange in
    ap (λ b. if b then Some Turns else option_map Schedule (first_stranger m 1 all)) test ∙ ap (option_map Schedule) here

-- What holds where nothing was refused

pub on_both : {T E : Type 0} {A B C : Type 0} (r : Result T E) → OnOk r A → OnOk r B → (A → B → C) → OnOk r C
on_both (Ok x) a b f = f a b
on_both (Err e) a b f = tt

pub on_ok : {A E : Type 0} (r : Result A E) (P Q : Type 0) → (P → Q) → OnOk r P → OnOk r Q
on_ok (Ok x) P Q f h = f h
on_ok (Err e) P Q f h = h

-- A schedule of numbers.

pub numbers_replayed : (m : Machine) (schedule : List ℕ) (entries : List Entry) → entries ≡ map numbered schedule →
    replay_entries m entries ≡ replay m schedule
numbers_replayed m schedule entries same = ap (replay_entries m) same
