-- Histories with their ticks and without.
use Rattle.std.proofs.Common.{◌≡◌, ℕ, zero, suc, ◌+◌, ◌-◌, ◌<◌, ◌≤◌, ◌^◌, Bool, true, false, cond, Option, Some, None, List, [], ◌∷◌, ◌++◌, length, map, replicate, refl, ap, sym, ◌∙◌, arith, get_or}
use Rattle.std.proofs.lemmas.Option.{slice_get_within, slice_get-get_or}
use Rattle.std.specs.Prelude.{slice_get, slice_index, IfSome, not, ◌↔◌}
use Rattle.std.specs.Option.{option_map}
use Rattle.std.specs.List.{AllByRecursion}
use Rattle.l4_model.specs.Words.{Period}
use Rattle.l4_model.specs.Machine.{Machine, Declaration}
use Rattle.l4_model.specs.World.{World, Thread, Send, Phase, Ready, Sending, Receiving, Ordering, Ended, Deleted, opening, opening_thread}
use Rattle.l4_model.specs.Steps.{Step, Deliver, Order, Tick, next, OfThread, OfSend}
use Rattle.l4_model.specs.History.{run, reached}
use Rattle.l4_model.specs.Still.{is_tick, IsStill}
use Rattle.l4_model.specs.Reached.{BeganBy, IsSendOf, ThreadFacts}
use Rattle.l4_model.proofs.Chains.{bind_then, some_is}
use Rattle.l4_model.proofs.Worlds.{reached_facts}
use Rattle.l4_model.proofs.Sound.{AreSound}
use Rattle.l4_model.proofs.Inversions.{deliver_taken, order_taken, thread_alone, send_clocks}
use Rattle.l4_worlds.specs.Timeless.{timeless_thread, timeless}
use Rattle.l4_worlds.specs.Late.{next_late, run_late, no_ticks}
use Rattle.l4_worlds.specs.Inner.Room.{HaveProcessors, EndsBy, PhaseEndsBy, SendEndsBy, IsRoomy, at_time}
use Rattle.l4_worlds.specs.Histories.{IsShort, IsTimed, IsStillLate, IsUntimed, IsNeverOrZero, IsUntimedIn}
use Rattle.l4_worlds.proofs.Periods.{ThreadShort, PhaseShort, SendShort, AllShort, all_at, reached_short}
use Rattle.l4_worlds.proofs.OfSteps.{late_timeless}
use Rattle.l4_worlds.proofs.Ticks.{ticks_from, ticks_to, are_ticks, tick_alike, ticks_alike}
use Rattle.l4_worlds.proofs.Passing.{possible_late, Reaches, reaches}

-- A step that is no tick keeps the clocks.

abbrev clocks_of : World → List ℕ
clocks_of w = w.clocks

pub clocks_kept : (m : Machine) (w v : World) (step : Step) → is_tick step ≡ false → next m w step ≡ Some v → v.clocks ≡ w.clocks
clocks_kept m w v (OfThread kind id) tick h = (thread_alone m w v kind id h).clocks
clocks_kept m w v (OfSend kind s) tick h = send_clocks m w v kind s h
clocks_kept m w v (Deliver s receiver shown actual tag words) tick h =
    ap clocks_of (sym (deliver_taken m w v s receiver shown actual tag words h).leads_to)
clocks_kept m w v (Order caller target what) tick h =
    ap clocks_of (sym (order_taken m w v caller target what h).leads_to)
clocks_kept m w v (Tick cpu clock) tick h = cc

pub all_same : (now : ℕ) (clocks : List ℕ) → AllByRecursion (λ clock. clock ≤ now) (map (λ clock. now) clocks)
all_same now [] = tt
all_same now (x ∷ clocks) = (omega arith, all_same now clocks)

pub all_later : (now later : ℕ) (clocks : List ℕ) → now ≤ later → AllByRecursion (λ clock. clock ≤ now) clocks → AllByRecursion (λ clock. clock ≤ later) clocks
all_later now later [] le h = tt
all_later now later (x ∷ clocks) le h = (omega (arith, h.0), all_later now later clocks le h.1)

low_at : (now : ℕ) (clocks : List ℕ) (i : ℕ) → AllByRecursion (λ clock. clock ≤ now) clocks → slice_index clocks i ≤ now
low_at now [] i h = omega arith
low_at now (x ∷ clocks) zero h = h.0
low_at now (x ∷ clocks) (suc i) h = low_at now clocks i h.1

-- Room in a reached world

-- what is known of the times of a thread of a reached world
record Times (now : ℕ) (t : Thread) : Type 0 where
  phase : BeganBy now t.phase
  send : IfSome t.send (λ (send : Send). send.since ≤ now)

began_later : (now later : ℕ) (phase : Phase) → now ≤ later → BeganBy now phase → BeganBy later phase
began_later now later Ready le h = tt
began_later now later Sending le h = tt
began_later now later (Receiving receive since) le h = omega (arith, h)
began_later now later Ordering le h = tt
began_later now later Ended le h = tt
began_later now later Deleted le h = tt

times : (m : Machine) (w : World) (now i : ℕ) (t : Thread) → length w.threads ≡ length m.threads → AreSound m w → AllByRecursion (λ clock. clock ≤ now) w.clocks → slice_get w.threads i ≡ Some t → Times now t
times m w now i t counted sound low at =
    let within : i < length m.threads = omega (arith, slice_get_within w.threads i t at, counted) in
    let none : Declaration = record { id = record { number = 0; version = 0 }; cpu = 0; space = 0; script = [] } in
    let d : Declaration = get_or m.threads i none in
    let k : ThreadFacts m d (slice_index w.clocks d.cpu) t = sound i d t (slice_get-get_or m.threads i none within) at in
    let clock : slice_index w.clocks d.cpu ≤ now = low_at now w.clocks d.cpu low in
    record { phase = began_later (slice_index w.clocks d.cpu) now t.phase clock k.began; send = since m d (slice_index w.clocks d.cpu) now t.send clock k.send }
  where
    since : (m : Machine) (d : Declaration) (clock now : ℕ) (o : Option Send) → clock ≤ now → IfSome o (IsSendOf m d.id clock) → IfSome o (λ (send : Send). send.since ≤ now)
    since m d clock now None le h = tt
    since m d clock now (Some send) le h = omega (arith, le, h.since)

ends_short : (now : ℕ) (period : Period) (since : ℕ) → since ≤ now → IsShort period → EndsBy (now + 2 ^ 42) period since
ends_short now None since le h = tt
ends_short now (Some n) since le h = omega (arith, le, h)

phase_ends : (now : ℕ) (phase : Phase) → BeganBy now phase → PhaseShort phase → PhaseEndsBy (now + 2 ^ 42) phase
phase_ends now Ready le h = tt
phase_ends now Sending le h = tt
phase_ends now (Receiving receive since) le h = ends_short now receive.period since le h
phase_ends now Ordering le h = tt
phase_ends now Ended le h = tt
phase_ends now Deleted le h = tt

send_ends : (now : ℕ) (o : Option Send) → IfSome o (λ (send : Send). send.since ≤ now) → IfSome o SendShort → IfSome o (SendEndsBy (now + 2 ^ 42))
send_ends now None le h = tt
send_ends now (Some send) le h = ends_short now send.period send.since le h.0

pub short_roomy : (m : Machine) (w : World) (now : ℕ) → length w.threads ≡ length m.threads → length w.clocks ≡ m.cpus → AreSound m w → AllShort w → AllByRecursion (λ clock. clock ≤ now) w.clocks → now + 2 ^ 42 < 2 ^ 62 →
    IsRoomy m w (now + 2 ^ 42)
short_roomy m w now threads clocks sound short low high =
    record {
      counted = clocks;
      no_later = all_later now (now + 2 ^ 42) w.clocks (omega arith) low;
      below = high;
      phases = λ i t at. phase_ends now t.phase (times m w now i t threads sound low at).phase (all_at ThreadShort w.threads i t short at).0;
      sends = λ i t at. send_ends now t.send (times m w now i t threads sound low at).send (all_at ThreadShort w.threads i t short at).1;
    }

pub reached_roomy : (m : Machine) (h : List Step) (w : World) (now : ℕ) → IsTimed m → reached m h ≡ Some w → AllByRecursion (λ clock. clock ≤ now) w.clocks → now + 2 ^ 42 < 2 ^ 62 → IsRoomy m w (now + 2 ^ 42)
reached_roomy m h w now timed r low high =
    let facts = reached_facts m h w r in
    short_roomy m w now facts.threads_counted facts.clocks_counted facts.each_thread (reached_short m h w timed.periods r) low high

-- Histories without their ticks

pub without_append : (xs ys : List Step) → no_ticks (xs ++ ys) ≡ no_ticks xs ++ no_ticks ys
without_append [] ys = refl
without_append (x ∷ xs) ys = by (not (is_tick x)) (without_append xs ys)
  where
    by : (b : Bool) → no_ticks (xs ++ ys) ≡ no_ticks xs ++ no_ticks ys →
        cond b (x ∷ no_ticks (xs ++ ys)) (no_ticks (xs ++ ys)) ≡ cond b (x ∷ no_ticks xs) (no_ticks xs) ++ no_ticks ys
    by true rest = ap (λ zs. x ∷ zs) rest
    by false rest = rest

without_ticks : (ticks : List Step) → AllByRecursion (λ tick. is_tick tick ≡ true) ticks → no_ticks ticks ≡ []
without_ticks [] all = refl
without_ticks (x ∷ ticks) all = rw all.0 (without_ticks ticks all.1)

pub without_one : (ticks : List Step) (step : Step) → AllByRecursion (λ tick. is_tick tick ≡ true) ticks → is_tick step ≡ false → no_ticks (ticks ++ step ∷ []) ≡ step ∷ []
without_one ticks step all tick =
    let one : no_ticks (step ∷ []) ≡ step ∷ [] = rw tick refl in
    without_append ticks (step ∷ []) ∙ ap (λ xs. xs ++ no_ticks (step ∷ [])) (without_ticks ticks all) ∙ one

pub late_no_tick : (m : Machine) (w v : World) (step : Step) → next_late m w step ≡ Some v → is_tick step ≡ false
late_no_tick m w v (Tick cpu clock) h = cc
late_no_tick m w v _ h = refl

-- What a history reaches is reached late without its ticks.
runs_late : (m : Machine) (h : List Step) (w v : World) → run m w h ≡ Some v → run_late m (timeless w) (no_ticks h) ≡ Some (timeless v)
runs_late m [] w v r = ap (λ x. Some (timeless x)) (some_is w v r)
runs_late m (step ∷ h) w v r =
    bind_then (next m w step) (λ u. run m u h) v r λ u is rest.
    by u is (runs_late m h u v rest) (is_tick step) refl
  where
    by : (u : World) → next m w step ≡ Some u → run_late m (timeless u) (no_ticks h) ≡ Some (timeless v) → (b : Bool) → is_tick step ≡ b →
        run_late m (timeless w) (cond (not b) (step ∷ no_ticks h) (no_ticks h)) ≡ Some (timeless v)
    by u is below true tick = ap (λ x. run_late m x (no_ticks h)) (sym (tick_alike m w u step tick is)) ∙ below
    by u is below false tick =
        let late : next_late m (timeless w) step ≡ Some (timeless u) = late_timeless m w step ∙ ap (option_map timeless) (possible_late m w u step tick is) in
        rw late below

pub opening_timeless : (m : Machine) → timeless (opening m) ≡ opening m
opening_timeless m = ap (λ ts. record (opening m) { threads = ts; clocks = map (λ clock. 0) (opening m).clocks }) (fresh m.threads) ∙ ap (λ cs. record (opening m) { clocks = cs }) (zeros m.cpus)
  where
    fresh : (ds : List Declaration) → map timeless_thread (map (λ d. opening_thread) ds) ≡ map (λ d. opening_thread) ds
    fresh [] = refl
    fresh (d ∷ ds) = ap (λ ts. opening_thread ∷ ts) (fresh ds)

    zeros : (n : ℕ) → map {B = ℕ} (λ clock. 0) (replicate {A = ℕ} n 0) ≡ replicate n 0
    zeros zero = refl
    zeros (suc n) = ap (λ xs. 0 ∷ xs) (zeros n)

pub reached_late : (m : Machine) (h : List Step) (w : World) → reached m h ≡ Some w → run_late m (opening m) (no_ticks h) ≡ Some (timeless w)
reached_late m h w r = ap (λ x. run_late m x (no_ticks h)) (sym (opening_timeless m)) ∙ runs_late m h (opening m) w r

-- Stillness

nothing_late : (m : Machine) (w later x : World) (step : Step) → IsStillLate m (timeless w) → timeless later ≡ timeless w → is_tick step ≡ false → next m later step ≡ Some x → ⊥
nothing_late m w later x step still same tick is =
    let late : next_late m (timeless w) step ≡ Some (timeless x) =
    ap (λ y. next_late m y step) (sym same) ∙ late_timeless m later step ∙ ap (option_map timeless) (possible_late m later x step tick is) in
    some_none (next_late m (timeless w) step) (timeless x) (still step) late
  where
    some_none : (o : Option World) (y : World) → o ≡ None → o ≡ Some y → ⊥
    some_none None y a b = cc
    some_none (Some z) y a b = cc

pub still_from : (m : Machine) (w : World) → IsStillLate m (timeless w) → IsStill m w
still_from m w still ticks later step all r tick = by (next m later step) refl
  where
    by : (o : Option World) → next m later step ≡ o → o ≡ None
    by None e = refl
    by (Some x) e = absurd (nothing_late m w later x step still (ticks_alike m ticks w later all r) tick e)

pub still_to : (m : Machine) (w : World) (now : ℕ) → HaveProcessors m → IsRoomy m w now → IsStill m w → IsStillLate m (timeless w)
still_to m w now have room still step = by (next_late m (timeless w) step) refl
  where
    never : (u : World) → Reaches m w now step u → is_tick step ≡ false → ⊥
    never u r tick =
        some_none (next m (at_time now w) step) r.after
        (still (ticks_from now 0 w.clocks) (at_time now w) step (are_ticks now 0 w.clocks) (ticks_to m w now room.below room.no_later) tick) r.possible
      where
        some_none : (o : Option World) (y : World) → o ≡ None → o ≡ Some y → ⊥
        some_none None y a b = cc
        some_none (Some z) y a b = cc

    by : (o : Option World) → next_late m (timeless w) step ≡ o → o ≡ None
    by None e = refl
    by (Some u) e = absurd (never u (reaches m w u now step have room e) (late_no_tick m (timeless w) u step e))

pub still_exactly : (m : Machine) (w : World) (now : ℕ) → HaveProcessors m → IsRoomy m w now → IsStill m w ↔ IsStillLate m (timeless w)
still_exactly m w now have room = (still_to m w now have room, still_from m w)

-- A reached world in which no finite period stands has room.

ends_never : (now : ℕ) (period : Period) (since : ℕ) → since ≤ now → IsNeverOrZero period → EndsBy now period since
ends_never now None since le h = tt
ends_never now (Some n) since le h = omega (arith, le, h)

phase_untimed : (now : ℕ) (phase : Phase) → BeganBy now phase → IsUntimedIn phase → PhaseEndsBy now phase
phase_untimed now Ready le h = tt
phase_untimed now Sending le h = tt
phase_untimed now (Receiving receive since) le h = ends_never now receive.period since le h
phase_untimed now Ordering le h = tt
phase_untimed now Ended le h = tt
phase_untimed now Deleted le h = tt

send_untimed : (now : ℕ) (o : Option Send) → IfSome o (λ (send : Send). send.since ≤ now) → IfSome o (λ (send : Send). IsNeverOrZero send.period) → IfSome o (SendEndsBy now)
send_untimed now None le h = tt
send_untimed now (Some send) le h = ends_never now send.period send.since le h

low_last : (clocks : List ℕ) → AllByRecursion (λ clock. clock < 2 ^ 62) clocks → AllByRecursion (λ clock. clock ≤ 2 ^ 62 - 1) clocks
low_last [] h = tt
low_last (x ∷ clocks) h = (omega (arith, h.0), low_last clocks h.1)

pub untimed_roomy : (m : Machine) (h : List Step) (w : World) → reached m h ≡ Some w → IsUntimed w → IsRoomy m w (2 ^ 62 - 1)
untimed_roomy m h w r untimed =
    let facts = reached_facts m h w r in
    let low = low_last w.clocks facts.clocks_low in
    record {
      counted = facts.clocks_counted;
      no_later = low;
      below = omega arith;
      phases = λ i t at. phase_untimed (2 ^ 62 - 1) t.phase (times m w (2 ^ 62 - 1) i t facts.threads_counted facts.each_thread low at).phase (untimed i t at).0;
      sends = λ i t at. send_untimed (2 ^ 62 - 1) t.send (times m w (2 ^ 62 - 1) i t facts.threads_counted facts.each_thread low at).send (untimed i t at).1;
    }

pub still_untimed : (m : Machine) (h : List Step) (w : World) → HaveProcessors m → reached m h ≡ Some w → IsUntimed w → IsStill m w ↔ IsStillLate m (timeless w)
still_untimed m h w have r untimed = still_exactly m w (2 ^ 62 - 1) have (untimed_roomy m h w r untimed)
