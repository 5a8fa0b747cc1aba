-- Runs by a schedule and runs in rounds are core runs.
use Rattle.std.proofs.Common.{◌≡◌, ℕ, zero, suc, Option, Some, None, List, [], ◌∷◌, ◌++◌, map, refl, sym, subst}
use Rattle.std.specs.Prelude.{nat_le}
use Rattle.l4_model.specs.Machine.{Machine}
use Rattle.l4_model.specs.Conditions.{◌>>=◌}
use Rattle.l4_model.proofs.Chains.{some_is, cond_keeps}
use Rattle.l4_core_model.specs.Runs.{Action, Ticks, Happened, happens, processors, Run, then_event, core_run, opening_run}
use Rattle.l4_core_model.specs.Schedules.{next_turn, or_stays, attempts, attempts_all, Entry, numbered, entry_event, replays, replay, turns_in_order, round, earliest_deadline, ticks_to, ticks, turns_of, has_gone_on, round_or_ticks, rounds, run}
use Rattle.l4_core_model.specs.Laws.{IsCoreRun}

core_run-last : (m : Machine) (es : List Action) (r last : Run) (e : Action) (h : Happened) → core_run m r es ≡ Some last → happens m last.system e ≡ Some h → core_run m r (es ++ e ∷ []) ≡ Some (then_event last h)
core_run-last m [] r last e h is possible =
    let same = some_is r last is in
    subst (λ r. (happens m r.system e >>= λ h. Some (then_event r h)) ≡ Some (then_event last h)) (sym same) (rw possible)
core_run-last m (x ∷ es) r last e h is possible = by (happens m r.system x) is (λ g. core_run-last m es (then_event r g) last e h)
  where
    by : (o : Option Happened) → (o >>= λ g. core_run m (then_event r g) es) ≡ Some last →
        ((g : Happened) → core_run m (then_event r g) es ≡ Some last → happens m last.system e ≡ Some h → core_run m (then_event r g) (es ++ e ∷ []) ≡ Some (then_event last h)) →
        (o >>= λ g. core_run m (then_event r g) (es ++ e ∷ [])) ≡ Some (then_event last h)
    by None is rest = cc
    by (Some g) is rest = rest g is possible

record IsRun (m : Machine) (r : Run) : Type 0 where
  actions : List Action
  is : core_run m (opening_run m) actions ≡ Some r

opening_is_run : (m : Machine) → IsRun m (opening_run m)
opening_is_run m = record { actions = []; is = refl }

-- A action is tried, where there is one.
goes_on : (m : Machine) (r : Run) (o : Option Action) → IsRun m r → IsRun m (or_stays r (o >>= happens m r.system))
goes_on m r None s = s
goes_on m r (Some e) s = by (happens m r.system e) refl
  where
    by : (o : Option Happened) → happens m r.system e ≡ o → IsRun m (or_stays r o)
    by None is = s
    by (Some h) is = record { actions = s.actions ++ e ∷ []; is = core_run-last m s.actions (opening_run m) r e h s.is is }

-- by a schedule

replays_is_run : (m : Machine) (schedule : List Entry) (r : Run) → IsRun m r → IsRun m (replays m r schedule)
replays_is_run m [] r s = s
replays_is_run m (entry ∷ entries) r s =
    let o : Option Action = entry_event m r.system entry in
    replays_is_run m entries (or_stays r (o >>= happens m r.system)) (goes_on m r o s)

pub replay_is_core_run : (m : Machine) (schedule : List ℕ) → IsCoreRun m (replay m schedule)
replay_is_core_run m schedule = let s = replays_is_run m (map numbered schedule) (opening_run m) (opening_is_run m) in (s.actions, s.is)

-- in rounds

all_attempted : (m : Machine) (es : List Action) (r : Run) → IsRun m r → IsRun m (attempts_all m r es)
all_attempted m [] r s = s
all_attempted m (e ∷ es) r s = all_attempted m es (attempts m r e) (goes_on m r (Some e) s)

turns_is_run : (m : Machine) (cpus : List ℕ) (r : Run) → IsRun m r → IsRun m (turns_in_order m r cpus)
turns_is_run m [] r s = s
turns_is_run m (cpu ∷ cpus) r s = let e = next_turn m r.system cpu in turns_is_run m cpus (attempts m r e) (goes_on m r (Some e) s)

ticks_is_run : (m : Machine) (r : Run) → IsRun m r → IsRun m (ticks m r)
ticks_is_run m r s = by (earliest_deadline m r.system)
  where
    by : (o : Option ℕ) → IsRun m (ticks_to m r o)
    by None = s
    by (Some deadline) = all_attempted m (map (λ cpu. Ticks cpu deadline) (processors m)) r s

round_is_run : (m : Machine) (before after : Run) → IsRun m after → IsRun m (round_or_ticks m before after)
round_is_run m before after s = cond_keeps (IsRun m) (has_gone_on before after) after (ticks m after) (λ yes. s) (λ no. ticks_is_run m after s)

rounds_is_run : (m : Machine) (turns left : ℕ) (r : Run) → IsRun m r → IsRun m (rounds m turns left r)
rounds_is_run m turns zero r s = s
rounds_is_run m turns (suc left) r s =
    let after : Run = round_or_ticks m r (round m r) in
    let done : IsRun m after = round_is_run m r (round m r) (turns_is_run m (processors m) r s) in
    cond_keeps (IsRun m) (has_gone_on r after) _ after
    (λ yes. cond_keeps (IsRun m) (nat_le turns (turns_of after)) after (rounds m turns left after) (λ used. done) (λ more. rounds_is_run m turns left after done))
    (λ no. done)

pub run_is_core_run : (m : Machine) (turns : ℕ) → IsCoreRun m (run m turns)
run_is_core_run m turns = let s = rounds_is_run m turns turns (opening_run m) (opening_is_run m) in (s.actions, s.is)
