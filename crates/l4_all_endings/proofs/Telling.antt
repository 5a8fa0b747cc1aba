-- A history that is told step by step.
use Rattle.std.proofs.Common.{subst, ◌≡◌, ℕ, ◌+◌, ◌<◌, ◌≤◌, ◌^◌, Bool, true, false, cond, Option, Some, None, List, [], ◌∷◌, ◌++◌, length, take, get_or, refl, ap, sym, ◌∙◌, append_assoc, append-nil, arith}
use Rattle.std.proofs.lemmas.Bool.{ltb-true}
use Rattle.std.proofs.lemmas.List.{length-take-le, take_more}
use Rattle.std.proofs.lemmas.Option.{slice_get_within}
use Rattle.std.specs.Prelude.{is_some, nat_lt, IsSome}
use Rattle.l4_model.specs.Words.{Period, clock_limit}
use Rattle.l4_model.specs.Machine.{most_processors}
use Rattle.l4_model.proofs.Inversions.{tick_taken}
use Rattle.l4_model.proofs.Places.{and_true}
use Rattle.l4_model.proofs.Worlds.{reached_facts}
use Rattle.l4_audit.specs.Inner.Due.{CanTick, CanBeOver, CanBeDue}
use Rattle.l4_outlooks.specs.Inner.Named.{open_step}
use Rattle.l4_all_endings.specs.Inner.Telling.{Goes}
use Rattle.l4_all_endings.proofs.Leading.{one_led, open_on_way}
use Rattle.std.proofs.Math.ListN.{length-append}
use Rattle.l4_model.specs.Machine.{Machine}
use Rattle.l4_model.specs.World.{World, Phase, Ready, Sending, Receiving, Ordering, Ended, Deleted, opening}
use Rattle.l4_model.specs.Conditions.{◌>>=◌, ◌>>◌, Found, found, Pending, undecided}
use Rattle.l4_model.specs.Steps.{Step, SendTimeout, ReceiveTimeout, Tick, next}
use Rattle.l4_model.specs.History.{run, reached}
use Rattle.l4_model.proofs.Chains.{bind_then, some_is}
use Rattle.l4_worlds.specs.Late.{next_late}
use Rattle.l4_worlds.specs.Histories.{IsTimed}
use Rattle.l4_worlds.specs.Told.{until_over, until_phase_over, until_send_over, until_receive_over, until_due, when_due, told_behind, told}
use Rattle.l4_worlds.proofs.Ticks.{run-append}
use Rattle.l4_futures.specs.Choices.{step_at, after_entry, after_entries, world_after}
use Rattle.l4_futures.specs.Traces.{step_then, world_then, steps_along, trace_along}
use Rattle.l4_futures.proofs.Kept.{one_more as led_more}
use Rattle.l4_futures.proofs.Led.{is_led}
use Rattle.l4_outlooks.specs.Inner.Foreseen.{Foreseen, IsBehind, IsLed}
use Rattle.l4_all_endings.specs.declared.traces.Telling.{Telling as Told}

nothing_behind : (o : Option World) → told_behind o (λ v. []) ≡ []
nothing_behind None = refl
nothing_behind (Some v) = refl

-- One step more is told behind all others.
pub told_more : (m : Machine) (xs : List Step) (s : Step) (v w : World) → run m v (told m v xs) ≡ Some w → told m v (xs ++ s ∷ []) ≡ told m v xs ++ when_due m w s
told_more m [] s v w is =
    ap (λ ys. when_due m v s ++ ys) (nothing_behind (run m v (when_due m v s)))
    ∙ append-nil (when_due m v s)
    ∙ ap (λ u. when_due m u s) (some_is v w is)
told_more m (x ∷ xs) s v w is = by (run m v (when_due m v x)) refl (λ y rest. told_more m xs s y w rest)
  where
    by : (o : Option World) → run m v (when_due m v x) ≡ o → ((y : World) → run m y (told m y xs) ≡ Some w → told m y (xs ++ s ∷ []) ≡ told m y xs ++ when_due m w s) → told m v (x ∷ xs ++ s ∷ []) ≡ told m v (x ∷ xs) ++ when_due m w s
    by None none rest =
        let stuck : run m v (told m v (x ∷ xs)) ≡ None = ap (λ o. run m v (when_due m v x ++ told_behind o (λ y. told m y xs))) none ∙ run-append m (when_due m v x) [] v ∙ ap (λ o. o >>= λ y. run m y []) none in
        let no : None ≡ Some w = sym stuck ∙ is in cc
    by (Some y) one more_of =
        let are : told m v (x ∷ xs) ≡ when_due m v x ++ told m y xs = ap (λ o. when_due m v x ++ told_behind o (λ z. told m z xs)) one in
        let more : told m v (x ∷ xs ++ s ∷ []) ≡ when_due m v x ++ told m y (xs ++ s ∷ []) = ap (λ o. when_due m v x ++ told_behind o (λ z. told m z (xs ++ s ∷ []))) one in
        let rest : run m y (told m y xs) ≡ Some w = sym (ap (λ o. o >>= λ z. run m z (told m y xs)) one) ∙ sym (run-append m (when_due m v x) (told m y xs) v) ∙ sym (ap (run m v) are) ∙ is in
        more
        ∙ ap (λ ys. when_due m v x ++ ys) (more_of y rest)
        ∙ sym (append_assoc (when_due m v x) (told m y xs) (when_due m w s))
        ∙ ap (λ ys. ys ++ when_due m w s) (sym are)

-- One entry more names one step more.
pub along_more : (m : Machine) (es : List ℕ) (e : ℕ) (s : Step) (u w v : World) → after_entries m u es ≡ Some w → step_at m w e ≡ Some s → next_late m w s ≡ Some v → steps_along m u (es ++ e ∷ []) ≡ steps_along m u es ++ s ∷ []
along_more m [] e s u w v is names goes =
    let here : u ≡ w = some_is u w is in
    ap (λ x. steps_along m x (e ∷ [])) here
    ∙ ap (λ o. step_then o (λ step. world_then (next_late m w step) (λ y. []))) names
    ∙ ap (λ o. s ∷ world_then o (λ y. [])) goes
along_more m (x ∷ es) e s u w v is names goes =
    bind_then (after_entry m u x) (λ y. after_entries m y es) w is λ y first rest.
    bind_then (step_at m u x) (next_late m u) y first λ step at on.
    ap (λ o. step_then o (λ step. world_then (next_late m u step) (λ z. steps_along m z (es ++ e ∷ [])))) at
    ∙ ap (λ o. step ∷ world_then o (λ z. steps_along m z (es ++ e ∷ []))) on
    ∙ ap (λ ys. step ∷ ys) (along_more m es e s y w v rest names goes)
    ∙ sym (ap (λ ys. ys ++ s ∷ [])
    (ap (λ o. step_then o (λ step. world_then (next_late m u step) (λ z. steps_along m z es))) at
    ∙ ap (λ o. step ∷ world_then o (λ z. steps_along m z es)) on))

-- What one entry more tells, from the world that the history so far reaches
pub record OneMore (m : Machine) (es : List ℕ) (e : ℕ) (s : Step) (w : World) : Type 0 where
  pub due : World
  pub leads : run m w (when_due m w s) ≡ Some due
  pub trace : trace_along m (es ++ e ∷ []) ≡ trace_along m es ++ when_due m w s
  pub reaches : reached m (trace_along m (es ++ e ∷ [])) ≡ Some due

pub one_more : (m : Machine) (es : List ℕ) (e : ℕ) (s : Step) (v u w : World) → IsTimed m → length es ≤ 1000000 → world_after m es ≡ Some v → step_at m v e ≡ Some s → next_late m v s ≡ Some u →
    reached m (trace_along m es) ≡ Some w → OneMore m es e s w
one_more m es e s v u w timed few leads names goes reaches =
    let led = led_more m es e (opening m) v u leads (ap (λ o. o >>= next_late m v) names ∙ goes) in
    let many = length-append es (e ∷ []) in
    let t = is_led m (es ++ e ∷ []) u timed (omega (arith, few, many)) led in
    let more : steps_along m (opening m) (es ++ e ∷ []) ≡ steps_along m (opening m) es ++ s ∷ [] = along_more m es e s (opening m) v u leads names goes in
    let trace : trace_along m (es ++ e ∷ []) ≡ trace_along m es ++ when_due m w s = ap (told m (opening m)) more ∙ told_more m (steps_along m (opening m) es) s (opening m) w reaches in
    record {
      due = t.world;
      leads = sym (ap (λ o. o >>= λ y. run m y (when_due m w s)) reaches) ∙ sym (run-append m (trace_along m es) (when_due m w s) (opening m)) ∙ sym (ap (run m (opening m)) trace) ∙ t.reaches;
      trace = trace;
      reaches = t.reaches;
    }

-- These entries were taken, and their history was told.
pub record IsToldTo (m : Machine) (entries : List ℕ) (o : Foreseen) (t : Told) : Type 0 where
  pub led : IsLed m entries o
  pub machine : t.auditor.at.machine ≡ m
  pub told : t.history.steps ≡ trace_along m entries
  pub reaches : reached m (trace_along m entries) ≡ Some t.auditor.at.world

-- What is possible once it is due asks for no time past all clocks.

one_tick : (m : Machine) (w : World) (step : Step) (rest : List Step) → length w.clocks ≤ most_processors → IsSome (run m w (step ∷ rest)) → CanTick step
one_tick m w (Tick cpu clock) rest few some = by (next m w (Tick cpu clock)) refl some
  where
    by : (o : Option World) → next m w (Tick cpu clock) ≡ o → IsSome (o >>= λ v. run m v rest) → (cpu < most_processors) × (clock < clock_limit)
    by None is some = cc
    by (Some v) is some =
        let t = tick_taken m w v cpu clock is in
        let at = slice_get_within w.clocks cpu t.now t.clock_is in
        let both = and_true (nat_lt t.now clock) (nat_lt clock (2 ^ 62)) t.later in
        (omega (arith, at, few), ltb-true clock (2 ^ 62) both.1)
one_tick m w _ rest few some = tt

-- There is at most one tick.
abbrev AtMostOne : List Step → Type 0
AtMostOne [] = Unit {0}
AtMostOne (x ∷ []) = Unit {0}
AtMostOne (x ∷ y ∷ xs) = ⊥

one_over : (t : Found) (period : Period) (since : ℕ) → AtMostOne (until_over t period since)
one_over t None since = tt
one_over t (Some n) since = by (nat_lt t.clock (since + n))
  where
    by : (b : Bool) → AtMostOne (cond b (Tick t.declared.cpu (since + n) ∷ []) [])
    by true = tt
    by false = tt

one_phase : (t : Found) (phase : Phase) → AtMostOne (until_phase_over t phase)
one_phase t (Receiving receive since) = one_over t receive.period since
one_phase t Ready = tt
one_phase t Sending = tt
one_phase t Ordering = tt
one_phase t Ended = tt
one_phase t Deleted = tt

one_send : (o : Option Pending) → AtMostOne (until_send_over o)
one_send None = tt
one_send (Some p) = one_over p.sender p.send.period p.send.since

one_receive : (o : Option Found) → AtMostOne (until_receive_over o)
one_receive None = tt
one_receive (Some t) = one_phase t t.now.phase

one_due : (m : Machine) (w : World) (step : Step) → AtMostOne (until_due m w step)
one_due m w (SendTimeout s) = one_send (undecided m w s)
one_due m w (ReceiveTimeout id) = one_receive (found m w id)
one_due m w _ = tt

few_tick : (m : Machine) (w : World) (ticks rest : List Step) → AtMostOne ticks → length w.clocks ≤ most_processors → IsSome (run m w (ticks ++ rest)) → CanBeOver ticks
few_tick m w [] rest one few some = tt
few_tick m w (tick ∷ []) rest one few some = (one_tick m w tick rest few some, tt)
few_tick m w (tick ∷ other ∷ ticks) rest one few some = absurd one

pub can_be_due : (m : Machine) (w : World) (step : Step) → length w.clocks ≤ most_processors → IsSome (run m w (when_due m w step)) → CanBeDue m w step
can_be_due m w step few some = few_tick m w (until_due m w step) (step ∷ []) (one_due m w step) few some

-- One entry more

pub record IsOneMore (m : Machine) (entries : List ℕ) (i e : ℕ) (o p : Foreseen) (t : Told) : Type 0 where
  pub step : Step
  pub is : open_step o.machine o.world e ≡ Some step
  pub few : length t.auditor.at.world.clocks ≤ most_processors
  pub due : World
  pub leads : run t.auditor.at.machine t.auditor.at.world (when_due t.auditor.at.machine t.auditor.at.world step) ≡ Some due
  pub trace : trace_along m (take (i + 1) entries) ≡ trace_along m (take i entries) ++ when_due m t.auditor.at.world step
  pub reaches : reached m (trace_along m (take (i + 1) entries)) ≡ Some due

pub is_one_more : (m : Machine) (entries : List ℕ) (i e : ℕ) (o : Foreseen) (t : Told) → IsTimed m → m.cpus ≤ most_processors → i < length entries → e ≡ get_or entries i 0 → length entries ≤ 1000001 → IsSome (world_after m entries) → IsToldTo m (take i entries) o t → IsOneMore m entries i e o o t
is_one_more m entries i e o t timed cpus inside is few leads told = by (after_entry m o.world e) refl
  where
    opened : IsSome (after_entry m o.world e)
    opened = subst (λ n. IsSome (after_entry n o.world e)) told.led.machine (subst (λ k. IsSome (after_entry o.machine o.world k)) (sym is) (open_on_way m entries i o inside leads told.led))

    by : (r : Option World) → after_entry m o.world e ≡ r → IsOneMore m entries i e o o t
    by None none = let no : IsSome {T = World} None = subst IsSome none opened in cc
    by (Some v) goes =
        bind_then (step_at m o.world e) (next_late m o.world) v goes λ s names on.
        let many = length-take-le i entries (omega (arith, inside)) in
        let more = one_more m (take i entries) e s o.world v t.auditor.at.world timed (omega (arith, many, inside, few)) told.led.leads names on told.reaches in
        let more_taken : take i entries ++ e ∷ [] ≡ take (i + 1) entries = sym (take_more entries i 0 inside ∙ ap (λ k. take i entries ++ k ∷ []) (sym is)) in
        record {
          step = s;
          is = subst (λ n. open_step n o.world e ≡ Some s) (sym told.led.machine)
              (ap (λ r. r >>= λ step. (is_some (next_late m o.world step) >> Some step)) names ∙ ap (λ b. b >> Some s) (ap is_some on));
          few = let counted = (reached_facts m (trace_along m (take i entries)) t.auditor.at.world told.reaches).clocks_counted in omega (arith, counted, cpus);
          due = more.due;
          leads = subst (λ n. run n t.auditor.at.world (when_due n t.auditor.at.world s) ≡ Some more.due) (sym told.machine) more.leads;
          trace = subst (λ es. trace_along m es ≡ trace_along m (take i entries) ++ when_due m t.auditor.at.world s) more_taken more.trace;
          reaches = subst (λ es. reached m (trace_along m es) ≡ Some more.due) more_taken more.reaches;
        }

pub told_on : (m : Machine) (entries : List ℕ) (i e : ℕ) (o p : Foreseen) (t u : Told) (step : Step) → i < length entries → e ≡ get_or entries i 0 → IsToldTo m (take i entries) o t → (x : IsOneMore m entries i e o o t) → step ≡ x.step → Goes t step u → IsBehind o e p → IsToldTo m (take (i + 1) entries) p u
told_on m entries i e o p t u step inside is told x same goes behind = record {
  led = one_led m entries i e o p inside is told.led behind;
  machine = goes.machine ∙ told.machine;
  told = goes.history ∙ ap (λ xs. xs ++ when_due t.auditor.at.machine t.auditor.at.world step) told.told
      ∙ ap (λ n. trace_along m (take i entries) ++ when_due n t.auditor.at.world step) told.machine
      ∙ ap (λ s. trace_along m (take i entries) ++ when_due m t.auditor.at.world s) same
      ∙ sym x.trace;
  reaches = x.reaches ∙ sym (sym goes.leads ∙ subst (λ s. run t.auditor.at.machine t.auditor.at.world (when_due t.auditor.at.machine t.auditor.at.world s) ≡ Some x.due) (sym same) x.leads);
}
