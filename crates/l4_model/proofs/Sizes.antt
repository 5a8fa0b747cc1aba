-- A world has a thread and a list for each declared thread, and a clock below 2^62 for each processor.
use Rattle.std.proofs.Common.{subst, ◌≡◌, ℕ, zero, suc, ◌^◌, ◌<◌, Some, List, [], ◌∷◌, length, replicate, refl, ap, sym, ◌∙◌, arith}
use Rattle.std.proofs.lemmas.Bool.{ltb-true}
use Rattle.std.proofs.lemmas.List.{length-map, length-set}
use Rattle.std.specs.Prelude.{slice_set, nat_lt}
use Rattle.std.specs.List.{AllByRecursion}
use Rattle.l4_model.specs.Machine.{Machine}
use Rattle.l4_model.specs.World.{World, changed, opening, Name}
use Rattle.l4_model.specs.Steps.{Step, OfThread, OfSend, Begun, Queued, Failed, Dropped, Deliver, Order, Tick, next}
use Rattle.l4_model.proofs.Chains.{length-changed}
use Rattle.l4_model.proofs.Sends.{Status, status, statuses, with_begun, with_decided, Effect, effect}
use Rattle.l4_model.proofs.Lists.{ListEffect, Unlists, list_effect}
use Rattle.l4_model.proofs.Inversions.{deliver_taken, order_taken, TickTaken, tick_taken, thread_alone, send_clocks}
use Rattle.l4_model.proofs.Places.{and_true}

-- how many threads a step leaves
threads_kept : (w v : World) → statuses v ≡ statuses w → length v.threads ≡ length w.threads
threads_kept w v e = sym (length-map v.threads status) ∙ ap length e ∙ length-map w.threads status

threads_changed : (w v : World) (f : Status → Status) (i : ℕ) → statuses v ≡ changed f (statuses w) i → length v.threads ≡ length w.threads
threads_changed w v f i e = sym (length-map v.threads status) ∙ ap length e ∙ length-changed f (statuses w) i ∙ length-map w.threads status

threads_after : (m : Machine) (w v : World) (step : Step) → Effect m w v step → length v.threads ≡ length w.threads
threads_after m w v (OfSend Begun s) e = threads_changed w v (with_begun e.send) e.place e.now
threads_after m w v (OfSend (Failed why) s) e = threads_changed w v with_decided e.place e.now
threads_after m w v (OfSend Dropped s) e = threads_changed w v with_decided e.place e.now
threads_after m w v (Deliver s receiver shown actual tag words) e = threads_changed w v with_decided e.place e.now
threads_after m w v _ e = threads_kept w v e

-- how many lists it leaves
unlisted_size : (m : Machine) (w v : World) (s : Name) → Unlists m w v s → length v.waiting ≡ length w.waiting
unlisted_size m w v s u = ap length u.now ∙ length-map w.waiting _

lists_after : (m : Machine) (w v : World) (step : Step) → ListEffect m w v step → length v.waiting ≡ length w.waiting
lists_after m w v (OfSend Queued s) l =
    sym (ap (λ (u : World). length u.waiting) l.leads_to) ∙ length-changed _ w.waiting l.r.at
lists_after m w v (OfSend (Failed why) s) l = unlisted_size m w v s l
lists_after m w v (OfSend Dropped s) l = unlisted_size m w v s l
lists_after m w v (Deliver s receiver shown actual tag words) l = unlisted_size m w v s l
lists_after m w v _ l = ap length l

-- what it does to the clocks
abbrev ClockEffect : Machine → World → World → Step → Type 0
ClockEffect m w v (Tick cpu clock) = TickTaken m w v cpu clock
ClockEffect m w v _ = v.clocks ≡ w.clocks

abbrev clocks_of : World → List ℕ
clocks_of w = w.clocks

clock_effect : (m : Machine) (w v : World) (step : Step) → next m w step ≡ Some v → ClockEffect m w v step
clock_effect m w v (OfThread kind id) h = (thread_alone m w v kind id h).clocks
clock_effect m w v (OfSend kind s) h = send_clocks m w v kind s h
clock_effect m w v (Deliver s receiver shown actual tag words) h =
    ap clocks_of (sym (deliver_taken m w v s receiver shown actual tag words h).leads_to)
clock_effect m w v (Order caller target what) h = ap clocks_of (sym (order_taken m w v caller target what h).leads_to)
clock_effect m w v (Tick cpu clock) h = tick_taken m w v cpu clock h

-- The sizes of a world, and how high its clocks are.
pub record Sized (m : Machine) (w : World) : Type 0 where
  pub threads : length w.threads ≡ length m.threads
  pub lists : length w.waiting ≡ length m.threads
  pub clocks : length w.clocks ≡ m.cpus
  pub low : AllByRecursion (λ clock. clock < 2 ^ 62) w.clocks

low_set : (xs : List ℕ) (i x : ℕ) → x < 2 ^ 62 → AllByRecursion (λ clock. clock < 2 ^ 62) xs → AllByRecursion (λ clock. clock < 2 ^ 62) (slice_set xs i x)
low_set [] i x lt h = tt
low_set (y ∷ xs) zero x lt h = (lt, h.1)
low_set (y ∷ xs) (suc i) x lt h = (h.0, low_set xs i x lt h.1)

record Clocked (m : Machine) (clocks : List ℕ) : Type 0 where
  count : length clocks ≡ m.cpus
  low : AllByRecursion (λ clock. clock < 2 ^ 62) clocks

tick_clocked : (m : Machine) (w v : World) (cpu clock : ℕ) → TickTaken m w v cpu clock → Clocked m w.clocks → Clocked m v.clocks
tick_clocked m w v cpu clock k h =
    let later = and_true (nat_lt k.now clock) (nat_lt clock (2 ^ 62)) k.later in
    let below : clock < 2 ^ 62 = ltb-true clock (2 ^ 62) later.1 in
    subst (λ (u : World). Clocked m u.clocks) k.leads_to (record { count = length-set w.clocks cpu clock ∙ h.count; low = low_set w.clocks cpu clock below h.low })

clocks_after : (m : Machine) (w v : World) (step : Step) → ClockEffect m w v step → Clocked m w.clocks → Clocked m v.clocks
clocks_after m w v (Tick cpu clock) e h = tick_clocked m w v cpu clock e h
clocks_after m w v _ e h = subst (Clocked m) (sym e) h

pub step_sized : (m : Machine) (w v : World) (step : Step) → next m w step ≡ Some v → Sized m w → Sized m v
step_sized m w v step h sized =
    let clocks = clocks_after m w v step (clock_effect m w v step h) (record { count = sized.clocks; low = sized.low }) in
    record {
      threads = threads_after m w v step (effect m w v step h) ∙ sized.threads;
      lists = lists_after m w v step (list_effect m w v step h) ∙ sized.lists;
      clocks = clocks.count;
      low = clocks.low;
    }

pub opening_sized : (m : Machine) → Sized m (opening m)
opening_sized m = record { threads = length-map m.threads _; lists = length-map m.threads _; clocks = count m.cpus; low = low m.cpus }
  where
    count : (n : ℕ) → length {A = ℕ} (replicate n 0) ≡ n
    count zero = refl
    count (suc n) = ap suc (count n)

    low : (n : ℕ) → AllByRecursion (λ clock. clock < 2 ^ 62) (replicate n 0)
    low zero = tt
    low (suc n) = (omega arith, low n)
