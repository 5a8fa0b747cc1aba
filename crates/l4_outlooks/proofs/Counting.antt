-- So many steps begin at most so many sends, and leave at most so many retargets owed.
use Rattle.std.proofs.Common.{subst, ◌≡◌, ℕ, zero, suc, ◌+◌, ◌<◌, ◌≤◌, Bool, true, false, cond, Option, Some, None, List, [], ◌∷◌, length, map, refl, ap, sym, arith}
use Rattle.std.specs.Prelude.{slice_get, is_some, filter, not}
use Rattle.std.specs.List.{AllByRecursion}
use Rattle.l4_model.specs.Machine.{Machine, Declaration}
use Rattle.l4_model.specs.World.{World, Send, Owed, Thread, changed, opening, opening_thread, same_name, one_more, unqueued}
use Rattle.l4_model.specs.Rules.{owed_by}
use Rattle.l4_model.specs.Effects.{fails, refused}
use Rattle.l4_model.specs.Steps.{Step, Local, Begin, Queue, Deliver, Wait, SendTimeout, ReceiveTimeout, SendNobody, ReceiveNobody, SendCancel, ReceiveCancel, Drop, Order, Obey, Tick, Retarget}
use Rattle.l4_model.proofs.Chains.{some_is, get-map, map-changed_same}
use Rattle.l4_model.proofs.Owed.{OwedEffect, owed_effect}
use Rattle.l4_model.proofs.Sends.{Status, status, statuses, with_begun, with_decided, Effect, effect, Decides, decides, status-refused, status-fails}
use Rattle.l4_worlds.specs.Late.{next_late}
use Rattle.l4_worlds.proofs.Taken.{late_send_timeout, late_receive_timeout}

-- What a step that is possible late does to sends and to what is owed

pub late_effect : (m : Machine) (w v : World) (step : Step) → next_late m w step ≡ Some v → Effect m w v step
late_effect m w v (SendTimeout s) h =
    let k = late_send_timeout m w v s h in
    subst (λ u. Decides m w u s) k.leads_to (decides m w (unqueued w k.p.sender.at) s k.p (refused 2) k.is_undecided refl (status-refused 2))
late_effect m w v (ReceiveTimeout id) h =
    let k = late_receive_timeout m w v id h in
    subst (λ u. statuses u ≡ statuses w) k.leads_to (map-changed_same status (fails 3) (status-fails 3) w.threads k.t.at)
late_effect m w v (Tick cpu clock) h = cc
late_effect m w v (Local id) h = effect m w v (Local id) h
late_effect m w v (Begin s) h = effect m w v (Begin s) h
late_effect m w v (Queue s) h = effect m w v (Queue s) h
late_effect m w v (Deliver s receiver shown actual tag words) h = effect m w v (Deliver s receiver shown actual tag words) h
late_effect m w v (Wait id) h = effect m w v (Wait id) h
late_effect m w v (SendNobody s) h = effect m w v (SendNobody s) h
late_effect m w v (ReceiveNobody id) h = effect m w v (ReceiveNobody id) h
late_effect m w v (SendCancel s) h = effect m w v (SendCancel s) h
late_effect m w v (ReceiveCancel id) h = effect m w v (ReceiveCancel id) h
late_effect m w v (Drop s) h = effect m w v (Drop s) h
late_effect m w v (Order caller target what) h = effect m w v (Order caller target what) h
late_effect m w v (Obey caller) h = effect m w v (Obey caller) h
late_effect m w v (Retarget s) h = effect m w v (Retarget s) h

abbrev owed_in : World → List Owed
owed_in w = w.owed

late_owed : (m : Machine) (w v : World) (step : Step) → next_late m w step ≡ Some v → OwedEffect m w v step
late_owed m w v (SendTimeout s) h = let k = late_send_timeout m w v s h in ap owed_in (sym k.leads_to)
late_owed m w v (ReceiveTimeout id) h = let k = late_receive_timeout m w v id h in ap owed_in (sym k.leads_to)
late_owed m w v (Tick cpu clock) h = cc
late_owed m w v (Local id) h = owed_effect m w v (Local id) h
late_owed m w v (Begin s) h = owed_effect m w v (Begin s) h
late_owed m w v (Queue s) h = owed_effect m w v (Queue s) h
late_owed m w v (Deliver s receiver shown actual tag words) h = owed_effect m w v (Deliver s receiver shown actual tag words) h
late_owed m w v (Wait id) h = owed_effect m w v (Wait id) h
late_owed m w v (SendNobody s) h = owed_effect m w v (SendNobody s) h
late_owed m w v (ReceiveNobody id) h = owed_effect m w v (ReceiveNobody id) h
late_owed m w v (SendCancel s) h = owed_effect m w v (SendCancel s) h
late_owed m w v (ReceiveCancel id) h = owed_effect m w v (ReceiveCancel id) h
late_owed m w v (Drop s) h = owed_effect m w v (Drop s) h
late_owed m w v (Order caller target what) h = owed_effect m w v (Order caller target what) h
late_owed m w v (Obey caller) h = owed_effect m w v (Obey caller) h
late_owed m w v (Retarget s) h = owed_effect m w v (Retarget s) h

-- Each thread has begun at most so many sends, and one that has a send has begun some.

pub record IsCounted (n : ℕ) (x : Status) : Type 0 where
  pub few : x.begun ≤ n
  pub some : is_some x.send ≡ true → 0 < x.begun

pub record AreCounted (n : ℕ) (w : World) : Type 0 where
  pub begun : AllByRecursion (IsCounted n) (statuses w)
  pub owed : length w.owed ≤ n

all_as : {A : Type 0} (P Q : A → Type 0) → ((x : A) → P x → Q x) → (xs : List A) → AllByRecursion P xs → AllByRecursion Q xs
all_as P Q f [] h = tt
all_as P Q f (x ∷ xs) h = (f x h.0, all_as P Q f xs h.1)

all_changed : {A : Type 0} (P Q : A → Type 0) (g : A → A) → ((x : A) → P x → Q x) → ((x : A) → P x → Q (g x)) → (xs : List A) (i : ℕ) → AllByRecursion P xs → AllByRecursion Q (changed g xs i)
all_changed P Q g f here [] i h = tt
all_changed P Q g f here (x ∷ xs) zero h = (here x h.0, all_as P Q f xs h.1)
all_changed P Q g f here (x ∷ xs) (suc i) h = (f x h.0, all_changed P Q g f here xs i h.1)

more : (n : ℕ) (x : Status) → IsCounted n x → IsCounted (n + 1) x
more n x h = record { few = let few = h.few in omega arith; some = h.some }

one_begun : (n : ℕ) (send : Send) (x : Status) → IsCounted n x → IsCounted (n + 1) (with_begun send x)
one_begun n send x h = record { few = let few = h.few in omega arith; some = λ e. omega arith }

one_decided : (n : ℕ) (x : Status) → IsCounted n x → IsCounted (n + 1) (with_decided x)
one_decided n x h = record { few = let few = h.few in omega arith; some = λ e. cc }

begun_after : (m : Machine) (w v : World) (n : ℕ) (step : Step) → Effect m w v step → AllByRecursion (IsCounted n) (statuses w) → AllByRecursion (IsCounted (n + 1)) (statuses v)
begun_after m w v n (Begin s) e h = subst (AllByRecursion (IsCounted (n + 1))) (sym e.now) (all_changed (IsCounted n) (IsCounted (n + 1)) (with_begun e.send) (more n) (one_begun n e.send) (statuses w) e.place h)
begun_after m w v n (Deliver s receiver shown actual tag words) e h = subst (AllByRecursion (IsCounted (n + 1))) (sym e.now) (all_changed (IsCounted n) (IsCounted (n + 1)) with_decided (more n) (one_decided n) (statuses w) e.place h)
begun_after m w v n (SendTimeout s) e h = subst (AllByRecursion (IsCounted (n + 1))) (sym e.now) (all_changed (IsCounted n) (IsCounted (n + 1)) with_decided (more n) (one_decided n) (statuses w) e.place h)
begun_after m w v n (SendNobody s) e h = subst (AllByRecursion (IsCounted (n + 1))) (sym e.now) (all_changed (IsCounted n) (IsCounted (n + 1)) with_decided (more n) (one_decided n) (statuses w) e.place h)
begun_after m w v n (SendCancel s) e h = subst (AllByRecursion (IsCounted (n + 1))) (sym e.now) (all_changed (IsCounted n) (IsCounted (n + 1)) with_decided (more n) (one_decided n) (statuses w) e.place h)
begun_after m w v n (Drop s) e h = subst (AllByRecursion (IsCounted (n + 1))) (sym e.now) (all_changed (IsCounted n) (IsCounted (n + 1)) with_decided (more n) (one_decided n) (statuses w) e.place h)
begun_after m w v n _ e h = subst (AllByRecursion (IsCounted (n + 1))) (sym e) (all_as (IsCounted n) (IsCounted (n + 1)) (more n) (statuses w) h)

one_more_owed : (o : Option Owed) (os : List Owed) → length (one_more o os) ≤ length os + 1
one_more_owed None os = omega arith
one_more_owed (Some o) [] = omega arith
one_more_owed (Some o) (x ∷ os) = let rest = one_more_owed (Some o) os in omega arith

fewer_owed : (p : Owed → Bool) (os : List Owed) → length (filter p os) ≤ length os
fewer_owed p [] = omega arith
fewer_owed p (o ∷ os) = by (p o) (fewer_owed p os)
  where
    by : (b : Bool) → length (filter p os) ≤ length os → length (cond b (o ∷ filter p os) (filter p os)) ≤ suc (length os)
    by true rest = omega arith
    by false rest = omega arith

owed_after : (m : Machine) (w v : World) (step : Step) → OwedEffect m w v step → length v.owed ≤ length w.owed + 1
owed_after m w v (Deliver s receiver shown actual tag words) e =
    subst (λ (u : World). length u.owed ≤ length w.owed + 1) e.leads_to (one_more_owed (owed_by m s e.p.send.message receiver) w.owed)
owed_after m w v (Retarget s) e =
    let fewer = fewer_owed (λ o. not (same_name s o.send)) w.owed in
    let same : length v.owed ≡ length (filter (λ (o : Owed). not (same_name s o.send)) w.owed) = ap length e in
    omega arith
owed_after m w v _ e = let same : length v.owed ≡ length w.owed = ap length e in omega arith

pub step_counted : (m : Machine) (w v : World) (n : ℕ) (step : Step) → next_late m w step ≡ Some v → AreCounted n w → AreCounted (n + 1) v
step_counted m w v n step is h = record {
  begun = begun_after m w v n step (late_effect m w v step is) h.begun;
  owed =
      let one = owed_after m w v step (late_owed m w v step is) in
      let few = h.owed in
      omega arith;
}

pub opening_counted : (m : Machine) → AreCounted 0 (opening m)
opening_counted m = record { begun = by m.threads; owed = omega arith }
  where
    by : (ds : List Declaration) → AllByRecursion (IsCounted 0) (map status (map (λ d. opening_thread) ds))
    by [] = tt
    by (d ∷ ds) = (record { few = omega arith; some = λ e. cc }, by ds)

-- Of one thread

pub counted_at : (n : ℕ) (w : World) (i : ℕ) (t : Thread) → AreCounted n w → slice_get w.threads i ≡ Some t → IsCounted n (status t)
counted_at n w i t h at = by (statuses w) i (get-map status w.threads i t at) h.begun
  where
    by : (xs : List Status) (i : ℕ) → slice_get xs i ≡ Some (status t) → AllByRecursion (IsCounted n) xs → IsCounted n (status t)
    by [] i at h = cc
    by (x ∷ xs) zero at h = subst (IsCounted n) (some_is x (status t) at) h.0
    by (x ∷ xs) (suc i) at h = by xs i at h.1
