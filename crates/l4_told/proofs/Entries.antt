-- A replay that is told, entry by entry.
use Rattle.std.proofs.Common.{◌≡◌, ℕ, ◌+◌, ◌≤◌, Some, List, [], ◌++◌, drop, length, refl}
use Rattle.std.proofs.Common.{ap, sym, ◌∙◌, arith}
use Rattle.std.specs.Prelude.{slice_get}
use Rattle.std.proofs.Math.Seq.{drop-length}
use Rattle.l4_model.specs.Machine.{Machine}
use Rattle.l4_model.specs.Steps.{Step}
use Rattle.l4_core_model.specs.Runs.{Run, opening_run}
use Rattle.l4_core_model.specs.Schedules.{Entry, entry_event, replay_entries, replays}
use Rattle.l4_replay.specs.Entries.{after_entry}
use Rattle.l4_replay.proofs.Replays.{entry_count, rest_is}
use Rattle.l4_told.specs.Inner.Replays.{HasCome, HasToldAnd}
use Rattle.l4_told.specs.declared.replay.Replay.{Replay}

pub record IsReplaying (m : Machine) (schedule : List Entry) (place : ℕ) (hears : List Step →
    Type 0) (p : Replay) : Type 0 where
  pub run : Run
  pub before : List Step
  pub come : HasCome m run before p
  pub goes_on : replay_entries m schedule ≡ replays m run (drop place schedule)
  pub count : length run.events ≤ place
  pub heard : hears before

pub replaying_start : (m : Machine) (schedule : List Entry) (hears : List Step → Type 0) (p : Replay) →
    HasCome m (opening_run m) [] p → hears [] → IsReplaying m schedule 0 hears p
replaying_start m schedule hears p come none = record {
  run = opening_run m;
  before = [];
  come = come;
  goes_on = refl;
  count = omega arith;
  heard = none;
}

pub replaying_next : (m : Machine) (schedule : List Entry) (place : ℕ) (entry : Entry)
    (first second both : List Step → Type 0) (old new : Replay) →
    slice_get schedule place ≡ Some entry → IsReplaying m schedule place first old →
    HasToldAnd (after_entry entry) second old new →
    ((xs ys : List Step) → first xs → second ys → both (xs ++ ys)) → IsReplaying m schedule (place + 1) both new
replaying_next m schedule place entry first second both old new at is told joined =
    let t = told m is.run is.before is.come in
    let before = is.count in
    let more = entry_count m is.run (entry_event m is.run.system entry) in
    record {
      run = after_entry entry m is.run;
      before = is.before ++ t.0;
      come = t.1;
      goes_on = is.goes_on ∙ ap (replays m is.run) (rest_is schedule place entry at);
      count = omega (arith, before, more);
      heard = joined is.before t.0 is.heard t.2;
    }

-- Behind the last entry the run is that of the replay.
pub replaying_end : (m : Machine) (schedule : List Entry) (place : ℕ) (hears : List Step →
    Type 0) (p : Replay) (is : IsReplaying m schedule place hears p) →
    place ≡ length schedule → is.run ≡ replay_entries m schedule
replaying_end m schedule place hears p is all =
    sym (is.goes_on ∙ ap (λ n. replays m is.run (drop n schedule)) all ∙ ap (replays m is.run) (drop-length schedule))
