-- What is true of every world that is reached late: it is true of worlds that histories reach, and does not depend on time.
use Rattle.std.proofs.Common.{subst, ◌≡◌, ℕ, ◌+◌, ◌≤◌, ◌<◌, ◌^◌, true, Option, Some, None, List, [], ◌∷◌, ◌++◌, map, refl, ap, sym, ◌∙◌, arith}
use Rattle.std.proofs.lemmas.List.{length-map}
use Rattle.std.proofs.lemmas.Option.{slice_get-map}
use Rattle.std.specs.Prelude.{slice_get, slice_index, is_some, is_none, nat_lt, ◌==◌, ◌&&◌, ◌||◌, IfSome, IsSomeAnd}
use Rattle.std.specs.Option.{option_map}
use Rattle.std.specs.List.{AllByRecursion}
use Rattle.l4_model.specs.Words.{GlobalId}
use Rattle.l4_model.specs.Machine.{Machine, Declaration}
use Rattle.l4_model.specs.World.{World, Thread, Name, Owed, Send, PendingOrder, Phase, Ready, Sending, Receiving, Ordering, Ended, Deleted, opening}
use Rattle.l4_model.specs.Effects.{has_receive_phase}
use Rattle.l4_model.specs.Steps.{Step, next}
use Rattle.l4_model.specs.History.{run}
use Rattle.l4_model.specs.Reached.{Suits, BeganBy, IsSendOf, ThreadFacts, WorldFacts, SendsTo, place_to}
use Rattle.l4_model.proofs.Chains.{bind_then, some_is, get-map}
use Rattle.l4_model.proofs.Owed.{step_among, step_apart}
use Rattle.l4_model.proofs.Sends.{lasting, Status, status, statuses}
use Rattle.l4_model.proofs.Sound.{AreSound, opening_sound, step_sound}
use Rattle.l4_model.proofs.Sizes.{opening_sized, step_sized}
use Rattle.l4_model.proofs.Lists.{GoesTo, Listed, opening_listed, step_listed}
use Rattle.l4_model.proofs.Worlds.{Standing}
use Rattle.l4_worlds.specs.Timeless.{timeless_send, timeless_phase, timeless_thread, timeless}
use Rattle.l4_worlds.specs.Late.{next_late, run_late}
use Rattle.l4_worlds.specs.Histories.{IsTimed}
use Rattle.l4_worlds.proofs.OwedOnce.{is_past, WasDecided, AreDecided, step_decided}
use Rattle.l4_worlds.proofs.Passing.{map_from, reaches}
use Rattle.l4_worlds.proofs.Periods.{PhaseShort, SendShort, ThreadShort, AllShort, run_short, opening_short}
use Rattle.l4_worlds.proofs.Reaching.{short_roomy, opening_timeless}
use Rattle.l4_worlds.proofs.Ticks.{ticks_from}

-- A fact of worlds that steps keep, ticks among them, and that does not depend on time
pub record IsKept (m : Machine) (P : World → Type 0) : Type 0 where
  pub by_step : (w v : World) (step : Step) → next m w step ≡ Some v → Standing m w → P w → P v
  pub without_time : (w : World) → P w → P (timeless w)

one_standing : (m : Machine) (w v : World) (step : Step) → next m w step ≡ Some v → Standing m w → Standing m v
one_standing m w v step is s = record {
  sized = step_sized m w v step is s.sized;
  sound = step_sound m w v step is s.sound;
  listed = step_listed m w v step is s.sound s.listed;
  among = step_among m w v step is s.sound s.among;
  apart = step_apart m w v step is s.sound s.listed s.apart;
}

run_kept : (m : Machine) (P : World → Type 0) → IsKept m P → (h : List Step) (w v : World) → run m w h ≡ Some v → Standing m w → P w → Standing m v × P v
run_kept m P kept [] w v r s p = (subst (Standing m) (some_is w v r) s, subst P (some_is w v r) p)
run_kept m P kept (step ∷ h) w v r s p =
    bind_then (next m w step) (λ u. run m u h) v r λ u is rest.
    run_kept m P kept h u v rest (one_standing m w u step is s) (kept.by_step w u step is s p)

-- What stands does not depend on time.

suits_timeless : (p : Phase) (send : Option Send) (order : Option PendingOrder) → Suits p send order → Suits (timeless_phase p) (option_map timeless_send send) order
suits_timeless Ready send order h = (ap (option_map timeless_send) h.0, h.1)
suits_timeless Sending send order h = (some_same send h.0, h.1)
  where
    some_same : (o : Option Send) → is_some o ≡ true → is_some (option_map timeless_send o) ≡ true
    some_same None h = h
    some_same (Some x) h = h
suits_timeless (Receiving receive since) send order h = (ap (option_map timeless_send) h.0, h.1)
suits_timeless Ordering send order h = (ap (option_map timeless_send) h.0, h.1)
suits_timeless Ended send order h = (ap (option_map timeless_send) h.0, h.1)
suits_timeless Deleted send order h = tt

began_timeless : (now : ℕ) (p : Phase) → BeganBy now (timeless_phase p)
began_timeless now Ready = tt
began_timeless now Sending = tt
began_timeless now (Receiving receive since) = omega arith
began_timeless now Ordering = tt
began_timeless now Ended = tt
began_timeless now Deleted = tt

send_timeless : (m : Machine) (id : GlobalId) (now later : ℕ) (o : Option Send) → IfSome o (IsSendOf m id now) → IfSome (option_map timeless_send o) (IsSendOf m id later)
send_timeless m id now later None h = tt
send_timeless m id now later (Some send) h = record { since = omega arith; actual = h.actual; shown = h.shown; short = h.short }

some_timeless : (o : Option Send) → is_some (option_map timeless_send o) ≡ is_some o
some_timeless None = refl
some_timeless (Some x) = refl

receives_timeless : (p : Phase) (o : Option Send) → has_receive_phase (timeless_phase p) (option_map timeless_send o) ≡ has_receive_phase p o
receives_timeless Ready o = refl
receives_timeless Sending None = refl
receives_timeless Sending (Some x) = refl
receives_timeless (Receiving receive since) o = refl
receives_timeless Ordering o = refl
receives_timeless Ended o = refl
receives_timeless Deleted o = refl

facts_timeless : (m : Machine) (d : Declaration) (now later : ℕ) (t : Thread) → ThreadFacts m d now t → ThreadFacts m d later (timeless_thread t)
facts_timeless m d now later t k = record {
  suits = suits_timeless t.phase t.send t.order k.suits;
  send = send_timeless m d.id now later t.send k.send;
  began = began_timeless later t.phase;
  send_wish = λ wish. some_timeless t.send ∙ k.send_wish wish;
  receive_wish = λ wish. receives_timeless t.phase t.send ∙ k.receive_wish wish;
  registers = k.registers;
}

sound_timeless : (m : Machine) (w : World) → AreSound m w → AreSound m (timeless w)
sound_timeless m w sound i d t declared now =
    let was = map_from timeless_thread (slice_get w.threads i) t (sym (slice_get-map timeless_thread w.threads i) ∙ now) in
    subst (ThreadFacts m d (slice_index (timeless w).clocks d.cpu)) was.2
    (facts_timeless m d (slice_index w.clocks d.cpu) (slice_index (timeless w).clocks d.cpu) was.0 (sound i d was.0 declared was.1))

goes_timeless : (m : Machine) (j : ℕ) (o : Option Thread) → GoesTo m j (option_map status o) → GoesTo m j (option_map status (option_map timeless_thread o))
goes_timeless m j None h = h
goes_timeless m j (Some t) h = by t.send h
  where
    by : (send : Option Send) → GoesTo m j (Some (status (record t { send = send }))) → GoesTo m j (Some (status (timeless_thread (record t { send = send }))))
    by None h = h
    by (Some x) h = h

listed_timeless : (m : Machine) (w : World) → Listed m w → Listed m (timeless w)
listed_timeless m w listed = record {
  goes_to = λ j i stands.
      subst (GoesTo m j) (ap (option_map status) (sym (slice_get-map timeless_thread w.threads i)) ∙ sym (slice_get-map status (timeless w).threads i))
      (goes_timeless m j (slice_get w.threads i) (subst (GoesTo m j) (slice_get-map status w.threads i) (listed.goes_to j i stands)));
  once = listed.once;
}

low_zeros : (clocks : List ℕ) → AllByRecursion (λ clock. clock < 2 ^ 62) (map (λ clock. 0) clocks)
low_zeros [] = tt
low_zeros (x ∷ clocks) = (omega arith, low_zeros clocks)

standing_timeless : (m : Machine) (w : World) → Standing m w → Standing m (timeless w)
standing_timeless m w s = record {
  sized = record {
    threads = length-map w.threads timeless_thread ∙ s.sized.threads;
    lists = s.sized.lists;
    clocks = length-map w.clocks (λ clock. 0) ∙ s.sized.clocks;
    low = low_zeros w.clocks;
  };
  sound = sound_timeless m w s.sound;
  listed = listed_timeless m w s.listed;
  among = s.among;
  apart = s.apart;
}

short_phase : (p : Phase) → PhaseShort p → PhaseShort (timeless_phase p)
short_phase Ready h = h
short_phase Sending h = h
short_phase (Receiving receive since) h = h
short_phase Ordering h = h
short_phase Ended h = h
short_phase Deleted h = h

short_send : (o : Option Send) → IfSome o SendShort → IfSome (option_map timeless_send o) SendShort
short_send None h = tt
short_send (Some send) h = h

short_timeless : (ts : List Thread) → AllByRecursion ThreadShort ts → AllByRecursion ThreadShort (map timeless_thread ts)
short_timeless [] h = tt
short_timeless (t ∷ ts) h = ((short_phase t.phase h.0.0, short_send t.send h.0.1), short_timeless ts h.1)

-- A world without time

abbrev pub IsTimeless : World → Type 0
IsTimeless w = timeless w ≡ w

pub record IsLate (m : Machine) (w : World) : Type 0 where
  pub no_time : IsTimeless w
  pub standing : Standing m w
  pub short : AllShort w

twice_send : (o : Option Send) → option_map timeless_send (option_map timeless_send o) ≡ option_map timeless_send o
twice_send None = refl
twice_send (Some x) = refl

twice_phase : (p : Phase) → timeless_phase (timeless_phase p) ≡ timeless_phase p
twice_phase Ready = refl
twice_phase Sending = refl
twice_phase (Receiving receive since) = refl
twice_phase Ordering = refl
twice_phase Ended = refl
twice_phase Deleted = refl

twice_thread : (t : Thread) → timeless_thread (timeless_thread t) ≡ timeless_thread t
twice_thread t = ap (λ p. record t { phase = p; send = option_map timeless_send (option_map timeless_send t.send) }) (twice_phase t.phase) ∙ ap (λ o. record t { phase = timeless_phase t.phase; send = o }) (twice_send t.send)

twice_threads : (ts : List Thread) → map timeless_thread (map timeless_thread ts) ≡ map timeless_thread ts
twice_threads [] = refl
twice_threads (t ∷ ts) = ap (λ x. x ∷ map timeless_thread (map timeless_thread ts)) (twice_thread t) ∙ ap (λ xs. timeless_thread t ∷ xs) (twice_threads ts)

twice_clocks : (clocks : List ℕ) → map {B = ℕ} (λ clock. 0) (map {B = ℕ} (λ clock. 0) clocks) ≡ map (λ clock. 0) clocks
twice_clocks [] = refl
twice_clocks (x ∷ clocks) = ap (λ xs. 0 ∷ xs) (twice_clocks clocks)

pub timeless_twice : (w : World) → IsTimeless (timeless w)
timeless_twice w =
    ap (λ ts. record w { threads = ts; clocks = (timeless (timeless w)).clocks }) (twice_threads w.threads)
    ∙ ap (λ cs. record w { threads = map timeless_thread w.threads; clocks = cs }) (twice_clocks w.clocks)

pub no_later : (m : Machine) (w : World) (now : ℕ) → IsLate m w → AllByRecursion (λ clock. clock ≤ now) w.clocks
no_later m w now late = subst (λ (x : World). AllByRecursion (λ clock. clock ≤ now) x.clocks) late.no_time (zeros now w.clocks)
  where
    zeros : (now : ℕ) (clocks : List ℕ) → AllByRecursion (λ clock. clock ≤ now) (map (λ clock. 0) clocks)
    zeros now [] = tt
    zeros now (x ∷ clocks) = (omega arith, zeros now clocks)

pub late_step : (m : Machine) (P : World → Type 0) → IsKept m P → IsTimed m → (w v : World) (step : Step) → next_late m w step ≡ Some v → IsLate m w → P w → IsLate m v × P v
late_step m P kept timed w v step is late p =
    let s = late.standing in
    let room = short_roomy m w 0 s.sized.threads s.sized.clocks s.sound late.short (no_later m w 0 late) (omega arith) in
    let r = reaches m w v (0 + 2 ^ 42) step timed.processors room (ap (λ x. next_late m x step) late.no_time ∙ is) in
    let kept_by = run_kept m P kept (ticks_from (0 + 2 ^ 42) 0 w.clocks ++ step ∷ []) w r.after r.leads_to s p in
    let short = run_short m (ticks_from (0 + 2 ^ 42) 0 w.clocks ++ step ∷ []) w r.after timed.periods r.leads_to late.short in (
      subst (IsLate m) r.is_alike (record { no_time = timeless_twice r.after; standing = standing_timeless m r.after kept_by.0; short = short_timeless r.after.threads short }),
      subst P r.is_alike (kept.without_time r.after kept_by.1),
    )

pub late_run : (m : Machine) (P : World → Type 0) → IsKept m P → IsTimed m → (steps : List Step) (w v : World) → run_late m w steps ≡ Some v → IsLate m w → P w → IsLate m v × P v
late_run m P kept timed [] w v r late p = (subst (IsLate m) (some_is w v r) late, subst P (some_is w v r) p)
late_run m P kept timed (step ∷ steps) w v r late p =
    bind_then (next_late m w step) (λ u. run_late m u steps) v r λ u is rest.
    let one = late_step m P kept timed w u step is late p in
    late_run m P kept timed steps u v rest one.0 one.1

pub opening_late : (m : Machine) → IsLate m (opening m)
opening_late m = record {
  no_time = opening_timeless m;
  standing = record { sized = opening_sized m; sound = opening_sound m; listed = opening_listed m; among = tt; apart = tt };
  short = opening_short m;
}

-- Each owed retarget is named once.

past_timeless : (m : Machine) (w : World) (s : Name) → WasDecided m w s → WasDecided m (timeless w) s
past_timeless m w s was j x named at =
    let t = map_from timeless_thread (slice_get w.threads j) u.0 (sym (slice_get-map timeless_thread w.threads j) ∙ u.1) in
    let before : is_past s.k (status t.0) ≡ true = was j (status t.0) named (get-map status w.threads j t.0 t.1) in
    subst (λ y. is_past s.k y ≡ true) u.2 (subst (λ (y : Thread). is_past s.k (status y) ≡ true) t.2 (same t.0 before))
  where
    u : (y : Thread) × (slice_get (timeless w).threads j ≡ Some y) × (status y ≡ x)
    u = map_from status (slice_get (timeless w).threads j) x (sym (slice_get-map status (timeless w).threads j) ∙ at)

    none_same : (o : Option Send) → is_none (option_map lasting (option_map timeless_send o)) ≡ is_none (option_map lasting o)
    none_same None = refl
    none_same (Some y) = refl

    same : (t : Thread) → is_past s.k (status t) ≡ true → is_past s.k (status (timeless_thread t)) ≡ true
    same t h = ap (λ b. nat_lt s.k t.context.begun || ((s.k == t.context.begun) && b)) (none_same t.send) ∙ h

all_as : (P Q : Owed → Type 0) (os : List Owed) → ((o : Owed) → P o → Q o) → AllByRecursion P os → AllByRecursion Q os
all_as P Q [] f h = tt
all_as P Q (o ∷ os) f h = (f o h.0, all_as P Q os f h.1)

pub decided_kept : (m : Machine) → IsKept m (AreDecided m)
decided_kept m = record {
  by_step = λ w v step is s d. step_decided m w v step is d;
  without_time = λ w d. record {
    decided = all_as (λ (o : Owed). WasDecided m w o.send) (λ (o : Owed). WasDecided m (timeless w) o.send) w.owed (λ o. past_timeless m w o.send) d.decided;
    once = d.once;
  };
}

pub late_decided : (m : Machine) (steps : List Step) (w : World) → IsTimed m → run_late m (opening m) steps ≡ Some w → IsLate m w × AreDecided m w
late_decided m steps w timed r = late_run m (AreDecided m) (decided_kept m) timed steps (opening m) w r (opening_late m) (record { decided = tt; once = tt })

-- All that is so of a world that a history reaches

one_goal : (m : Machine) (i j : ℕ) (o : Option Status) → GoesTo m i o → GoesTo m j o → i ≡ j
one_goal m i j None a b = absurd a
one_goal m i j (Some x) a b = of x.send a b
  where
    of : (send : Option Send) → IsSomeAnd send (λ s. place_to m s.to ≡ Some i) → IsSomeAnd send (λ s. place_to m s.to ≡ Some j) → i ≡ j
    of None a b = absurd a
    of (Some send) a b = some_is i j (sym a ∙ b)

goes_sends : (m : Machine) (j : ℕ) (o : Option Thread) → GoesTo m j (option_map status o) → IsSomeAnd o (λ t. SendsTo m j t.send)
goes_sends m j None a = a
goes_sends m j (Some t) a = of t.send a
  where
    of : (o : Option Send) → IsSomeAnd (option_map lasting o) (λ s. place_to m s.to ≡ Some j) → SendsTo m j o
    of None a = a
    of (Some send) a = a

pub late_facts : (m : Machine) (steps : List Step) (w : World) → IsTimed m → run_late m (opening m) steps ≡ Some w → WorldFacts m w
late_facts m steps w timed r =
    let both = late_decided m steps w timed r in
    let s = both.0.standing in
    record {
      threads_counted = s.sized.threads;
      lists_counted = s.sized.lists;
      clocks_counted = s.sized.clocks;
      clocks_low = s.sized.low;
      each_thread = s.sound;
      listed_sends = λ receiver sender stands. goes_sends m receiver (slice_get w.threads sender) (subst (GoesTo m receiver) (slice_get-map status w.threads sender) (s.listed.goes_to receiver sender stands));
      one_list = λ i j sender a b. one_goal m i j (slice_get (statuses w) sender) (s.listed.goes_to i sender a) (s.listed.goes_to j sender b);
      listed_once = s.listed.once;
      owed_among = s.among;
      owed_once = both.1.once;
      owed_apart = s.apart;
    }
