-- A core run is replayed by what happened in it.
use Rattle.std.proofs.Common.{◌≡◌, Option, Some, None, List, [], ◌∷◌, map, refl, ap, ◌∙◌}
use Rattle.l4_model.specs.Machine.{Machine}
use Rattle.l4_model.specs.Conditions.{◌>>=◌}
use Rattle.l4_model.proofs.Chains.{some_is}
use Rattle.l4_core_model.specs.Runs.{Action, Handles, Turns, Ticks, Happened, happens, Run, core_run, then_event}
use Rattle.l4_core_model.specs.Schedules.{or_stays, entry_event, replays}
use Rattle.l4_bisimilar.specs.Entries.{entry_of}

same_event : (m : Machine) (r : Run) (e : Action) →
    (entry_event m r.system (entry_of e) >>= happens m r.system) ≡ happens m r.system e
same_event m r (Handles cpu from) = refl
same_event m r (Turns cpu) = refl
same_event m r (Ticks cpu clock) = refl

pub replayed : (m : Machine) (es : List Action) (r t : Run) → core_run m r es ≡ Some t →
    replays m r (map entry_of es) ≡ t
replayed m [] r t h = some_is r t h
replayed m (e ∷ es) r t h =
    ap (λ (o : Option Happened). replays m (or_stays r o) (map entry_of es)) (same_event m r e)
    ∙ by (happens m r.system e) h (λ u. replayed m es u t)
  where
    by : (o : Option Happened) → (o >>= λ x. core_run m (then_event r x) es) ≡ Some t →
        ((u : Run) → core_run m u es ≡ Some t → replays m u (map entry_of es) ≡ t) →
        replays m (or_stays r o) (map entry_of es) ≡ t
    by None h more = cc
    by (Some x) h more = more (then_event r x) h
