-- What is possible is possible late; what is possible late is possible after ticks.
use Rattle.std.proofs.Common.{subst, ◌≡◌, ℕ, zero, suc, ◌+◌, ◌<◌, true, false, Option, Some, None, List, [], ◌∷◌, ◌++◌, length, map, refl, ap, sym, ◌∙◌, arith}
use Rattle.std.proofs.lemmas.Bool.{le-leb, and_from}
use Rattle.std.specs.Prelude.{slice_get, slice_index, is_some, is_none, not, IfSome}
use Rattle.std.specs.Option.{option_map}
use Rattle.std.specs.List.{AllByRecursion}
use Rattle.l4_model.specs.Words.{GlobalId, Period}
use Rattle.l4_model.specs.Machine.{Machine, Declaration}
use Rattle.l4_model.specs.World.{World, Receive, Phase, Ready, Sending, Receiving, Ordering, Ended, Deleted, Name, receive_now, must_wait}
use Rattle.l4_model.specs.Conditions.{Found, found, Pending, undecided, has_passed, is_timed_out, first_accepted, ◌>>=◌}
use Rattle.l4_model.specs.Rules.{Failure, TimeOver, NobodyThere, CancelAsked}
use Rattle.l4_model.specs.Steps.{Step, OfThread, Fails, OfSend, Failed, Tick, receive_passed, may_refuse, may_fail, next}
use Rattle.l4_model.specs.History.{run}
use Rattle.l4_model.specs.Still.{is_tick}
use Rattle.l4_model.proofs.Chains.{bind_then, guard_then, some_is}
use Rattle.l4_model.proofs.Places.{and_true, known, known_send}
use Rattle.l4_model.proofs.Inversions.{send_failed, receive_failed}
use Rattle.l4_worlds.specs.Timeless.{timeless, AreAlike}
use Rattle.l4_worlds.specs.Late.{next_late, may_time_out, may_refuse_late, may_fail_late}
use Rattle.l4_worlds.specs.Inner.Room.{HaveProcessors, EndsBy, PhaseEndsBy, SendEndsBy, IsRoomy, at_time, LeadsAlike}
use Rattle.l4_worlds.proofs.Ticks.{ticks_from, ticks_to, are_ticks, at_time_alike, run-append}
use Rattle.l4_worlds.proofs.OfSteps.{late_timeless}
use Rattle.l4_worlds.proofs.Taken.{late_refused, late_failed}

-- What is possible is possible late

passed_finite : (period : Period) (since now : ℕ) → has_passed period since now ≡ true → is_some period ≡ true
passed_finite None since now h = cc
passed_finite (Some n) since now h = refl

receive_finite : (t : Found) (phase : Phase) (receive : Receive) → receive_now phase ≡ Some receive → receive_passed t phase ≡ true → is_some receive.period ≡ true
receive_finite t Ready receive e h = cc
receive_finite t Sending receive e h = cc
receive_finite t (Receiving r since) receive e h =
    subst (λ (x : Receive). is_some x.period ≡ true) (some_is r receive e) (passed_finite r.period since t.clock h)
receive_finite t Ordering receive e h = cc
receive_finite t Ended receive e h = cc
receive_finite t Deleted receive e h = cc

may_refuse_too : (m : Machine) (w : World) (s : Name) (p : Pending) (why : Failure) →
    may_refuse m w s p why ≡ true → may_refuse_late m w s p why ≡ true
may_refuse_too m w s p TimeOver h =
    let due = and_true (is_timed_out m w p) _ h in
    let both = and_true (has_passed p.send.period p.send.since p.sender.clock) _ due.0 in
    let finite : is_some p.send.period ≡ true = passed_finite p.send.period p.send.since p.sender.clock both.0 in
    let may : may_time_out m w p ≡ true = and_from (is_some p.send.period) _ finite both.1 in
    and_from (may_time_out m w p) _ may due.1
may_refuse_too m w s p NobodyThere h = h
may_refuse_too m w s p CancelAsked h = h

may_fail_too : (m : Machine) (w : World) (t : Found) (receive : Receive) (why : Failure) →
    receive_now t.now.phase ≡ Some receive → may_fail m w t receive why ≡ true → may_fail_late m w t receive why ≡ true
may_fail_too m w t receive TimeOver is h =
    let both = and_true (receive_passed t t.now.phase) _ h in
    and_from (is_some receive.period) _ (receive_finite t t.now.phase receive is both.0) both.1
may_fail_too m w t receive NobodyThere is h = h
may_fail_too m w t receive CancelAsked is h = h

pub possible_late : (m : Machine) (w v : World) (step : Step) → is_tick step ≡ false → next m w step ≡ Some v → next_late m w step ≡ Some v
possible_late m w v (OfSend (Failed why) s) tick h =
    let k = send_failed m w v s why h in
    rw (k.is_undecided, may_refuse_too m w s k.p why k.may) (ap Some k.leads_to)
possible_late m w v (OfThread (Fails why) id) tick h =
    let k = receive_failed m w v id why h in
    rw (k.found, k.receiving, may_fail_too m w k.t k.receive why k.receiving k.may) (ap Some k.leads_to)
possible_late m w v (Tick cpu clock) tick h = cc
possible_late m w v _ tick h = h

-- What is possible late is possible where all is over

passed_by : (period : Period) (since now : ℕ) → EndsBy now period since → is_some period ≡ true → has_passed period since now ≡ true
passed_by None since now e h = cc
passed_by (Some n) since now e h = le-leb (since + n) now e

at_same : (clocks : List ℕ) (now i : ℕ) → i < length clocks → slice_index (map (λ clock. now) clocks) i ≡ now
at_same [] now i lt = absurd (omega arith)
at_same (x ∷ clocks) now zero lt = refl
at_same (x ∷ clocks) now (suc i) lt = at_same clocks now i (omega arith)

pub processor : (n : ℕ) (ds : List Declaration) (i : ℕ) (d : Declaration) → AllByRecursion (λ (x : Declaration). x.cpu < n) ds → slice_get ds i ≡ Some d → d.cpu < n
processor n [] i d all at = cc
processor n (x ∷ ds) zero d all at = subst (λ (y : Declaration). y.cpu < n) (some_is x d at) all.0
processor n (x ∷ ds) (suc i) d all at = processor n ds i d all.1 at

-- the clock of a thread
clock_is : (m : Machine) (w : World) (now : ℕ) → HaveProcessors m → length w.clocks ≡ m.cpus → (id : GlobalId) (t : Found) → found m (at_time now w) id ≡ Some t → t.clock ≡ now
clock_is m w now have counted id t is =
    let k = known m (at_time now w) id t is in
    let lt : t.declared.cpu < m.cpus = processor m.cpus m.threads t.at t.declared have k.declared in
    k.clock ∙ at_same w.clocks now t.declared.cpu (omega (arith, lt, counted))

receive_over : (t : Found) (now : ℕ) (phase : Phase) (receive : Receive) → t.clock ≡ now → PhaseEndsBy now phase → receive_now phase ≡ Some receive → is_some receive.period ≡ true → receive_passed t phase ≡ true
receive_over t now Ready receive c e is h = cc
receive_over t now Sending receive c e is h = cc
receive_over t now (Receiving r since) receive c e is h =
    ap (has_passed r.period since) c ∙ passed_by r.period since now e (subst (λ (x : Receive). is_some x.period ≡ true) (sym (some_is r receive is)) h)
receive_over t now Ordering receive c e is h = cc
receive_over t now Ended receive c e is h = cc
receive_over t now Deleted receive c e is h = cc

may_refuse_now : (m : Machine) (w : World) (now : ℕ) (s : Name) (p : Pending) (why : Failure) →
    HaveProcessors m → IsRoomy m w now → undecided m (at_time now w) s ≡ Some p →
    may_refuse_late m (at_time now w) s p why ≡ true → may_refuse m (at_time now w) s p why ≡ true
may_refuse_now m w now s p TimeOver have room is h =
    let u = at_time now w in
    let held = and_true (may_time_out m u p) _ h in
    let k = known_send m u s p is in
    let both = and_true (is_some p.send.period) _ held.0 in
    let lt = processor m.cpus m.threads p.sender.at p.sender.declared have k.sender.declared in
    let clock : p.sender.clock ≡ now =
    k.sender.clock ∙ at_same w.clocks now p.sender.declared.cpu (omega (arith, room.counted, lt)) in
    let ends : IfSome p.sender.now.send (SendEndsBy now) = room.sends p.sender.at p.sender.now k.sender.now in
    let end : SendEndsBy now p.send = subst (λ o. IfSome o (SendEndsBy now)) k.send ends in
    let passed : has_passed p.send.period p.send.since p.sender.clock ≡ true =
    ap (has_passed p.send.period p.send.since) clock ∙ passed_by p.send.period p.send.since now end both.0 in
    let due = and_from (has_passed p.send.period p.send.since p.sender.clock) _ passed both.1 in
    and_from (is_timed_out m u p) _ due held.1
may_refuse_now m w now s p NobodyThere have room is h = h
may_refuse_now m w now s p CancelAsked have room is h = h

may_fail_now : (m : Machine) (w : World) (now : ℕ) (id : GlobalId) (t : Found) (receive : Receive) (why : Failure) →
    HaveProcessors m → IsRoomy m w now → found m (at_time now w) id ≡ Some t → receive_now t.now.phase ≡ Some receive →
    may_fail_late m (at_time now w) t receive why ≡ true → may_fail m (at_time now w) t receive why ≡ true
may_fail_now m w now id t receive TimeOver have room is receiving h =
    let u = at_time now w in
    let both = and_true (is_some receive.period) _ h in
    let clock : t.clock ≡ now = clock_is m w now have room.counted id t is in
    let ends = room.phases t.at t.now (known m u id t is).now in
    and_from (receive_passed t t.now.phase) _ (receive_over t now t.now.phase receive clock ends receiving both.0) both.1
may_fail_now m w now id t receive NobodyThere have room is receiving h = h
may_fail_now m w now id t receive CancelAsked have room is receiving h = h

pub possible_now : (m : Machine) (w v : World) (now : ℕ) (step : Step) → HaveProcessors m → IsRoomy m w now →
    next_late m (at_time now w) step ≡ Some v → next m (at_time now w) step ≡ Some v
possible_now m w v now (OfSend (Failed why) s) have room h =
    let k = late_refused m (at_time now w) v s why h in
    rw (k.is_undecided, may_refuse_now m w now s k.p why have room k.is_undecided k.may) (ap Some k.leads_to)
possible_now m w v now (OfThread (Fails why) id) have room h =
    let k = late_failed m (at_time now w) v id why h in
    rw (k.found, k.receiving, may_fail_now m w now id k.t k.receive why have room k.found k.receiving k.may)
    (ap Some k.leads_to)
possible_now m w v now (Tick cpu clock) have room h = cc
possible_now m w v now _ have room h = h

-- A world that something maps to
pub map_from : {A B : Type 0} (g : A → B) (o : Option A) (y : B) → option_map g o ≡ Some y → (x : A) × (o ≡ Some x) × (g x ≡ y)
map_from g None y h = cc
map_from g (Some x) y h = (x, refl, some_is (g x) y h)

-- What is possible late of a world without time is possible after ticks.
pub record Reaches (m : Machine) (v : World) (now : ℕ) (step : Step) (u : World) : Type 0 where
  pub after : World
  pub possible : next m (at_time now v) step ≡ Some after
  pub leads_to : run m v (ticks_from now 0 v.clocks ++ step ∷ []) ≡ Some after
  pub is_alike : timeless after ≡ u

pub reaches : (m : Machine) (v u : World) (now : ℕ) (step : Step) → HaveProcessors m → IsRoomy m v now →
    next_late m (timeless v) step ≡ Some u → Reaches m v now step u
reaches m v u now step have room h =
    let late : option_map timeless (next_late m (at_time now v) step) ≡ Some u =
    sym (late_timeless m (at_time now v) step) ∙ ap (λ x. next_late m x step) (at_time_alike now v) ∙ h in
    let found = map_from timeless (next_late m (at_time now v) step) u late in
    let possible : next m (at_time now v) step ≡ Some found.0 = possible_now m v found.0 now step have room found.1 in
    let ran : run m (at_time now v) (step ∷ []) ≡ Some found.0 = rw possible refl in
    record {
      after = found.0;
      possible = possible;
      leads_to = run-append m (ticks_from now 0 v.clocks) (step ∷ []) v ∙ ap (λ o. o >>= λ x. run m x (step ∷ [])) (ticks_to m v now room.below room.no_later) ∙ ran;
      is_alike = found.2;
    }

-- What is possible in one of two alike worlds is possible in the other one, after ticks if need be.
pub leads_alike : (m : Machine) (w v after : World) (now : ℕ) (step : Step) → HaveProcessors m → IsRoomy m v now → AreAlike w v → is_tick step ≡ false → next m w step ≡ Some after → LeadsAlike m v step after
leads_alike m w v after now step have room alike tick h =
    let late : next_late m (timeless w) step ≡ Some (timeless after) = late_timeless m w step ∙ ap (option_map timeless) (possible_late m w after step tick h) in
    let r = reaches m v (timeless after) now step have room (ap (λ x. next_late m x step) (sym alike) ∙ late) in
    record { ticks = ticks_from now 0 v.clocks; are_ticks = are_ticks now 0 v.clocks; after = r.after; leads_to = r.leads_to; alike = sym r.is_alike }
