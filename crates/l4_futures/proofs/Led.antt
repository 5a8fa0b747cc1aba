-- Where a schedule of entries leads, and the history that it stands for.
use Rattle.std.proofs.Common.{◌≡◌, ℕ, suc, ◌≤◌, Some, List, [], ◌∷◌, length, refl, ap, ◌∙◌, arith}
use Rattle.l4_model.specs.Machine.{Machine}
use Rattle.l4_model.specs.World.{World, opening}
use Rattle.l4_model.specs.Conditions.{◌>>=◌}
use Rattle.l4_model.specs.Steps.{Step}
use Rattle.l4_model.specs.History.{reached}
use Rattle.l4_model.proofs.Chains.{bind_then}
use Rattle.l4_worlds.specs.Timeless.{timeless}
use Rattle.l4_worlds.specs.Late.{next_late, run_late}
use Rattle.l4_worlds.specs.Histories.{IsTimed, HasRoomFor}
use Rattle.l4_worlds.proofs.LateWorlds.{late_decided}
use Rattle.l4_worlds.proofs.Telling.{told_late}
use Rattle.l4_futures.specs.Choices.{step_at, after_entry, after_entries, world_after}
use Rattle.l4_futures.specs.Traces.{step_then, world_then, steps_along, trace_along}
use Rattle.l4_futures.specs.Endings.{length_of}

-- The steps of entries lead where the entries do.
record GoAlong (m : Machine) (w v : World) (entries : List ℕ) : Type 0 where
  runs : run_late m w (steps_along m w entries) ≡ Some v
  as_many : length (steps_along m w entries) ≡ length entries

go_along : (m : Machine) (entries : List ℕ) (w v : World) → after_entries m w entries ≡ Some v → GoAlong m w v entries
go_along m [] w v h = record { runs = h; as_many = refl }
go_along m (e ∷ entries) w v h =
    bind_then (after_entry m w e) (λ u. after_entries m u entries) v h λ u one rest.
    bind_then (step_at m w e) (next_late m w) u one λ step at goes.
    let more = go_along m entries u v rest in
    let are : steps_along m w (e ∷ entries) ≡ step ∷ steps_along m u entries =
    ap (λ o. step_then o (λ s. world_then (next_late m w s) (λ x. steps_along m x entries))) at
    ∙ ap (λ o. step ∷ world_then o (λ x. steps_along m x entries)) goes in
    record {
      runs = ap (run_late m w) are ∙ ap (λ o. o >>= λ x. run_late m x (steps_along m u entries)) goes ∙ more.runs;
      as_many = ap length are ∙ ap suc more.as_many;
    }

has_room : (n : ℕ) → n ≤ 1000001 → HasRoomFor n
has_room n l = omega (arith, l)

-- Where a schedule leads, and the world that its trace reaches
pub record IsLed (m : Machine) (s : List ℕ) (w : World) : Type 0 where
  pub steps : List Step
  pub late : run_late m (opening m) steps ≡ Some w
  pub no_time : timeless w ≡ w
  pub world : World
  pub reaches : reached m (trace_along m s) ≡ Some world
  pub alike : timeless world ≡ w
  pub long : length_of (trace_along m s) ≡ length s

pub is_led : (m : Machine) (s : List ℕ) (w : World) → IsTimed m → length s ≤ 1000001 → world_after m s ≡ Some w → IsLed m s w
is_led m s w timed short h =
    let steps = steps_along m (opening m) s in
    let along = go_along m s (opening m) w h in
    let told = told_late m steps w timed (has_room (length steps) (omega (arith, short, along.as_many))) along.runs in
    record {
      steps = steps;
      late = along.runs;
      no_time = (late_decided m steps w timed along.runs).0.no_time;
      world = told.w;
      reaches = told.reaches;
      alike = told.is_alike;
      long = ap length told.steps_are ∙ along.as_many;
    }
