-- Runs in rounds: one round more, and that they are core runs.
use Rattle.std.proofs.Common.{◌≡◌, ◌<◌, ◌≤◌, ◌+◌, ◌-◌, ◌*◌, ℕ, length, arith, lt-ltb, mul-le-mul_right, Bool, true, false, cond, Option, Some, None, List, [], ◌∷◌, ◌++◌, map, refl, ap, sym, ◌∙◌, subst}
use Rattle.std.specs.Prelude.{slice_get}
use Rattle.std.specs.Option.{option_map}
use Rattle.std.specs.List.{list_all}
use Rattle.std.proofs.lemmas.Bool.{and_from}
use Rattle.std.proofs.lemmas.Option.{slice_get-map}
use Rattle.std.proofs.lemmas.List.{append-nil, append_cancel_left}
use Rattle.l4_model.specs.Machine.{Machine}
use Rattle.l4_model.specs.Conditions.{◌>>=◌}
use Rattle.l4_model.proofs.Chains.{bind_then, some_is}
use Rattle.l4_core_model.specs.Turns.{is_busy}
use Rattle.l4_core_model.specs.Runs.{Event, Action, Ticks, Happened, happens, Run, then_event, core_run, opening_run, processors, letters, is_empty}
use Rattle.l4_core_model.specs.Schedules.{or_stays, attempts, attempts_all, ticks, ticks_to, earliest_deadline}
use Rattle.l4_core_model.specs.Laws.{IsCoreRun}
use Rattle.l4_merge.specs.LocalTraces.{LocalTrace, AddAtMost, HaveWorked, letters_posted, letters_handled}
use Rattle.l4_merge.specs.Merges.{EndsAt, IsTurnedRun}
use Rattle.l4_merge.specs.Rounds.{Round, Turning, Ticking, is_no_tick, local_is_idle, is_idle, events_of, keep_shares, if_shares_kept, after_round, after_rounds, IsInRounds}
use Rattle.l4_merge.proofs.CoreRuns.{core_run-append}
use Rattle.l4_merge.proofs.Processors.{all_processors}
use Rattle.l4_merge.proofs.Rest.{no_mail}
use Rattle.l4_merge.proofs.Shares.{at_most}

-- One round more

after_more : (m : Machine) (turns : ℕ) (rounds : List Round) (round : Round) (first middle last : Run) →
    after_rounds m turns first rounds ≡ Some middle → after_round m turns middle round ≡ Some last →
    after_rounds m turns first (rounds ++ round ∷ []) ≡ Some last
after_more m turns [] round first middle last is then =
    subst (λ r. after_rounds m turns r (round ∷ []) ≡ Some last) (sym (some_is first middle is)) (rw then)
after_more m turns (r ∷ rounds) round first middle last is then =
    bind_then (after_round m turns first r) _ middle is λ next here is.
    rw here (after_more m turns rounds round next middle last is then)

pub opening_in_rounds : (m : Machine) (turns : ℕ) → IsInRounds m turns (opening_run m)
opening_in_rounds m turns = ([], refl)

-- Who adds at most an equal share keeps it.
shares_kept : (m : Machine) (turns most : ℕ) (before after : List Event) → most * m.cpus < (turns - length before) + m.cpus →
    ((cpu : ℕ) → events_of cpu after ≤ events_of cpu before + most) → keep_shares m turns before after ≡ true
shares_kept m turns most before after share few = all_processors m _ λ cpu lt.
    let fewer : (events_of cpu after - events_of cpu before) * m.cpus ≤ most * m.cpus = mul-le-mul_right m.cpus (let few = few cpu in omega arith) in
    lt-ltb ((events_of cpu after - events_of cpu before) * m.cpus) ((turns - length before) + m.cpus) (omega arith)

pub turned_in_rounds : (m : Machine) (turns most : ℕ) (before after : Run) (olds news : List LocalTrace) → IsInRounds m turns before →
    IsTurnedRun m before olds news after → HaveWorked m olds news → AddAtMost most olds news →
    most * m.cpus < (turns - length before.events) + m.cpus → IsInRounds m turns after
turned_in_rounds m turns most before after olds news was t worked few share =
    let kept = shares_kept m turns most before.events after.events share (at_most m most before after olds news worked t.merged few) in
    let round : after_round m turns before (Turning t.merged.actions) ≡ Some after = rw t.turns (rw t.merged.is (rw kept refl)) in (
      was.0 ++ Turning t.merged.actions ∷ [],
      after_more m turns was.0 (Turning t.merged.actions) (opening_run m) before after was.1 round,
    )

pub ticked_in_rounds : (m : Machine) (turns : ℕ) (r : Run) → IsInRounds m turns r → is_idle m r.system ≡ true → IsInRounds m turns (ticks m r)
ticked_in_rounds m turns r was idle =
    let round : after_round m turns r Ticking ≡ Some (ticks m r) = rw idle refl in
    (was.0 ++ Ticking ∷ [], after_more m turns was.0 Ticking (opening_run m) r (ticks m r) was.1 round)

-- They are core runs

pub attempts_core_run : (m : Machine) (r : Run) (e : Action) → IsCoreRun m r → IsCoreRun m (attempts m r e)
attempts_core_run m r e was = by (happens m r.system e) refl
  where
    by : (o : Option Happened) → happens m r.system e ≡ o → IsCoreRun m (or_stays r o)
    by None is = was
    by (Some h) is =
        let one : core_run m r (e ∷ []) ≡ Some (then_event r h) = rw is refl in
        (was.0 ++ e ∷ [], core_run-append m was.0 (e ∷ []) (opening_run m) r (then_event r h) was.1 one)

all_core_run : (m : Machine) (es : List Action) (r : Run) → IsCoreRun m r → IsCoreRun m (attempts_all m r es)
all_core_run m [] r was = was
all_core_run m (e ∷ es) r was = all_core_run m es (attempts m r e) (attempts_core_run m r e was)

pub ticks_core_run : (m : Machine) (r : Run) → IsCoreRun m r → IsCoreRun m (ticks m r)
ticks_core_run m r was = by (earliest_deadline m r.system)
  where
    by : (o : Option ℕ) → IsCoreRun m (ticks_to m r o)
    by None = was
    by (Some deadline) = all_core_run m (map (λ cpu. Ticks cpu deadline) (processors m)) r was

-- A round is possible only where its test holds.
pub if_then : {P : Type 0} (b : Bool) (o : Option Run) (last : Run) → cond b o None ≡ Some last → (b ≡ true → o ≡ Some last → P) → P
if_then true o last is then = then refl is
if_then false o last is then = cc

-- What the turns of a round lead to.
pub turns_then : {P : Type 0} (m : Machine) (turns : ℕ) (r last : Run) (es : List Action) → after_round m turns r (Turning es) ≡ Some last →
    (list_all is_no_tick es ≡ true → core_run m r es ≡ Some last → P) → P
turns_then m turns r last es is then =
    if_then (list_all is_no_tick es) (core_run m r es >>= if_shares_kept m turns r) last is λ no_ticks is.
    bind_then (core_run m r es) (if_shares_kept m turns r) last is λ next here is.
    if_then (keep_shares m turns r.events next.events) (Some next) last is λ kept is.
    then no_ticks (here ∙ is)

round_core_run : (m : Machine) (turns : ℕ) (round : Round) (r last : Run) → IsCoreRun m r → after_round m turns r round ≡ Some last → IsCoreRun m last
round_core_run m turns (Turning es) r last was is =
    turns_then m turns r last es is λ no_ticks is. (was.0 ++ es, core_run-append m was.0 es (opening_run m) r last was.1 is)
round_core_run m turns Ticking r last was is =
    if_then (is_idle m r.system) (Some (ticks m r)) last is λ idle is.
    subst (IsCoreRun m) (some_is (ticks m r) last is) (ticks_core_run m r was)

rounds_core_run : (m : Machine) (turns : ℕ) (rounds : List Round) (r last : Run) → IsCoreRun m r → after_rounds m turns r rounds ≡ Some last → IsCoreRun m last
rounds_core_run m turns [] r last was is = subst (IsCoreRun m) (some_is r last is) was
rounds_core_run m turns (round ∷ rounds) r last was is =
    bind_then (after_round m turns r round) _ last is λ next here is.
    rounds_core_run m turns rounds next last (round_core_run m turns round r next was here) is

pub is_core_run : (m : Machine) (turns : ℕ) (r : Run) → IsInRounds m turns r → IsCoreRun m r
is_core_run m turns r is = rounds_core_run m turns is.0 (opening_run m) r ([], refl) is.1

-- A run is idle where each processor is and all letters are handled.
pub idles : (m : Machine) (pasts : List LocalTrace) (r : Run) → EndsAt r pasts →
    ((cpu : ℕ) (past : LocalTrace) → slice_get pasts cpu ≡ Some past → is_busy m cpu past.local ≡ false) →
    ((from to : ℕ) → letters_posted pasts from to ≡ letters_handled pasts from to) → is_idle m r.system ≡ true
idles m pasts r ends none handled =
    and_from (list_all (local_is_idle m r.system) (processors m)) (is_empty r.system.mail)
    (all_processors m (local_is_idle m r.system) (λ cpu lt. by cpu (slice_get pasts cpu) refl))
    (no_mail r.system.mail (λ from to.
    append_cancel_left (letters_handled pasts from to) (letters r.system.mail from to) []
    (sym (ends.mail from to) ∙ handled from to ∙ sym (append-nil (letters_handled pasts from to)))))
  where
    local_at : (cpu : ℕ) → slice_get r.system.locals cpu ≡ option_map (λ (past : LocalTrace). past.local) (slice_get pasts cpu)
    local_at cpu = ap (λ ls. slice_get ls cpu) ends.locals ∙ slice_get-map (λ (past : LocalTrace). past.local) pasts cpu

    by : (cpu : ℕ) (o : Option LocalTrace) → slice_get pasts cpu ≡ o → local_is_idle m r.system cpu ≡ true
    by cpu None at = let here = local_at cpu ∙ ap (option_map (λ (past : LocalTrace). past.local)) at in rw here refl
    by cpu (Some past) at =
        let here = local_at cpu ∙ ap (option_map (λ (past : LocalTrace). past.local)) at in
        let idle = none cpu past at in
        rw (here, idle) refl
