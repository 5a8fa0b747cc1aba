-- In which phase a thread waits, in worlds as good as each other and behind a step that stands alone.
use Rattle.std.proofs.Common.{◌≡◌, ℕ, zero, suc, Bool, true, false, cond, Option, Some, None, List, [], ◌∷◌, map, refl, ap, sym, subst, ◌∙◌}
use Rattle.std.proofs.lemmas.Option.{slice_get-map}
use Rattle.std.specs.Prelude.{slice_get, not}
use Rattle.std.specs.Option.{option_map}
use Rattle.l4_model.specs.Words.{GlobalId}
use Rattle.l4_model.specs.Machine.{Machine}
use Rattle.l4_model.specs.World.{Thread, World, Phase, Ready, Sending, Receiving, Ordering, Ended, Deleted, change, is_ready}
use Rattle.l4_model.specs.Conditions.{◌>>=◌, Found, found, instruction}
use Rattle.l4_model.specs.Effects.{runs, begins, waits, orders}
use Rattle.l4_model.specs.Steps.{Step, Local, Begin, Wait, Order, next}
use Rattle.l4_model.specs.History.{run}
use Rattle.l4_model.specs.Still.{is_tick}
use Rattle.l4_model.proofs.Chains.{bind_then, some_is, get-changed_other}
use Rattle.l4_model.proofs.Inversions.{local_taken, begin_taken, wait_taken, order_taken}
use Rattle.l4_model.proofs.Places.{known, id_of}
use Rattle.l4_worlds.specs.Timeless.{timeless_thread, timeless}
use Rattle.l4_worlds.specs.Numberless.{numberless_thread}
use Rattle.l4_worlds.specs.Bare.{bare_thread, AreAsGood}
use Rattle.l4_worlds.specs.Late.{next_late, run_late, no_ticks}
use Rattle.l4_worlds.proofs.OfSteps.{late_timeless}
use Rattle.l4_worlds.proofs.Passing.{possible_late}
use Rattle.l4_worlds.proofs.Ticks.{tick_alike}
use Rattle.l4_first.specs.First.{stands_alone}
use Rattle.l4_futures.specs.Stuck.{names_one}
use Rattle.l4_forever.specs.Waits.{wait_in, wait_of, wait_at, is_waiting}

-- Worlds that are as good as each other

wait_map : (f : Thread → Thread) → ((t : Thread) → wait_in (f t).phase ≡ wait_in t.phase) → (o : Option Thread) → wait_of (option_map f o) ≡ wait_of o
wait_map f same None = refl
wait_map f same (Some t) = same t

wait_mapped : (f : Thread → Thread) → ((t : Thread) → wait_in (f t).phase ≡ wait_in t.phase) → (ts : List Thread) (i : ℕ) → wait_of (slice_get (map f ts) i) ≡ wait_of (slice_get ts i)
wait_mapped f same ts i = ap wait_of (slice_get-map f ts i) ∙ wait_map f same (slice_get ts i)

time_same : (t : Thread) → wait_in (timeless_thread t).phase ≡ wait_in t.phase
time_same t = by t.phase
  where
    by : (p : Phase) → wait_in (timeless_thread (record t { phase = p })).phase ≡ wait_in p
    by Ready = refl
    by Sending = refl
    by (Receiving receive since) = refl
    by Ordering = refl
    by Ended = refl
    by Deleted = refl

bare_same : (t : Thread) → wait_in (bare_thread t).phase ≡ wait_in t.phase
bare_same t = by t.phase
  where
    by : (p : Phase) → wait_in (bare_thread (record t { phase = p })).phase ≡ wait_in p
    by Ready = refl
    by Sending = refl
    by (Receiving receive since) = refl
    by Ordering = refl
    by Ended = refl
    by Deleted = refl

pub wait_timeless : (w : World) (i : ℕ) → wait_at (timeless w) i ≡ wait_at w i
wait_timeless w i = wait_mapped timeless_thread time_same w.threads i

pub wait_good : (w v : World) (i : ℕ) → AreAsGood w v → wait_at w i ≡ wait_at v i
wait_good w v i good = sym (plain w) ∙ ap (λ (x : World). wait_at x i) good ∙ plain v
  where
    plain : (u : World) → wait_of (slice_get (map numberless_thread (map bare_thread (map timeless_thread u.threads))) i) ≡ wait_at u i
    plain u =
        wait_mapped numberless_thread (λ t. refl) (map bare_thread (map timeless_thread u.threads)) i
        ∙ wait_mapped bare_thread bare_same (map timeless_thread u.threads) i
        ∙ wait_mapped timeless_thread time_same u.threads i

-- A step that stands alone is that of a ready thread, and changes it alone.

record OwnTaken (m : Machine) (w a : World) (id : GlobalId) : Type 0 where
  t : Found
  found : found m w id ≡ Some t
  ready : is_ready t.now.phase ≡ true
  f : Thread → Thread
  leads_to : change w t.at f ≡ a

record Owned (m : Machine) (own : Step) : Type 0 where
  id : GlobalId
  taken : (w a : World) → next_late m w own ≡ Some a → OwnTaken m w a id

owned : (m : Machine) (own : Step) → stands_alone m own ≡ true → Owned m own
owned m (Local id) alone = record {
  id = id;
  taken = λ w a may. let k = local_taken m w a id may in record { t = k.t; found = k.found; ready = k.ready; f = runs (instruction k.t); leads_to = k.leads_to };
}
owned m (Begin s) alone = record {
  id = s.thread;
  taken = λ w a may. let k = begin_taken m w a s may in record { t = k.t; found = k.found; ready = k.ready; f = begins k.send; leads_to = k.leads_to };
}
owned m (Wait id) alone = record {
  id = id;
  taken = λ w a may. let k = wait_taken m w a id may in record { t = k.t; found = k.found; ready = k.ready; f = waits k.receive k.t.clock; leads_to = k.leads_to };
}
owned m (Order caller target what) alone = record {
  id = caller;
  taken = λ w a may. let k = order_taken m w a caller target what may in record { t = k.t; found = k.found; ready = k.ready; f = orders k.order; leads_to = k.leads_to };
}
owned m _ alone = cc

ready_waits : (p : Phase) → is_ready p ≡ true → is_waiting (wait_in p) ≡ true → ⊥
ready_waits Ready ready waits = cc
ready_waits Sending ready waits = cc
ready_waits (Receiving receive since) ready waits = cc
ready_waits Ordering ready waits = cc
ready_waits Ended ready waits = cc
ready_waits Deleted ready waits = cc

-- Wherever it is told, a thread that waits where it is possible waits as before.
pub own_keeps : (m : Machine) (w a v z : World) (own : Step) (thread : ℕ) → stands_alone m own ≡ true → next_late m w own ≡ Some a → is_waiting (wait_at w thread) ≡ true →
    next_late m v own ≡ Some z → wait_at z thread ≡ wait_at v thread
own_keeps m w a v z own thread alone may waits goes =
    let o = owned m own alone in
    let x = o.taken w a may in
    let y = o.taken v z goes in
    let one : x.t.at ≡ y.t.at = some_is x.t.at y.t.at (sym (id_of m w o.id x.t x.found).1 ∙ (id_of m v o.id y.t y.found).1) in
    ap (λ (u : World). wait_at u thread) (sym y.leads_to) ∙ ap wait_of (get-changed_other y.f v.threads y.t.at thread (λ same. not_it o.id x (one ∙ same)))
  where
    not_it : (id : GlobalId) → (x : OwnTaken m w a id) → x.t.at ≡ thread → ⊥
    not_it id x same =
        let here : slice_get w.threads thread ≡ Some x.t.now = ap (slice_get w.threads) (sym same) ∙ (known m w id x.t x.found).now in
        ready_waits x.t.now.phase x.ready (ap (λ o. is_waiting (wait_of o)) (sym here) ∙ waits)

-- What goes on from a world goes on from it without its ticks.
pub runs_late : (m : Machine) (h : List Step) (w v : World) → run m w h ≡ Some v → run_late m (timeless w) (no_ticks h) ≡ Some (timeless v)
runs_late m [] w v r = ap (λ x. Some (timeless x)) (some_is w v r)
runs_late m (step ∷ h) w v r =
    bind_then (next m w step) (λ u. run m u h) v r λ u is rest.
    by u is (runs_late m h u v rest) (is_tick step) refl
  where
    by : (u : World) → next m w step ≡ Some u → run_late m (timeless u) (no_ticks h) ≡ Some (timeless v) → (b : Bool) → is_tick step ≡ b →
        run_late m (timeless w) (cond (not b) (step ∷ no_ticks h) (no_ticks h)) ≡ Some (timeless v)
    by u is below true tick = ap (λ x. run_late m x (no_ticks h)) (sym (tick_alike m w u step tick is)) ∙ below
    by u is below false tick =
        let late : next_late m (timeless w) step ≡ Some (timeless u) = late_timeless m w step ∙ ap (option_map timeless) (possible_late m w u step tick is) in
        rw late below
