-- What is reached late is reached by a history that ticks only to what is due.
use Rattle.std.proofs.Common.{subst, ◌≡◌, ℕ, zero, suc, ◌+◌, ◌*◌, ◌<◌, ◌≤◌, ◌^◌, Bool, true, false, cond, Some, None, List, [], ◌∷◌, ◌++◌, length, replicate, refl, ap, sym, ◌∙◌, arith}
use Rattle.std.proofs.lemmas.Bool.{lt-ltb, ltb-true, and_from, le-leb}
use Rattle.std.proofs.lemmas.Bool.Decides.{nat_tests}
use Rattle.std.specs.Prelude.{slice_get, slice_set, slice_index, nat_lt, ◌&&◌, is_some, IfSome}
use Rattle.std.specs.List.{AllByRecursion}
use Rattle.l4_model.specs.Words.{GlobalId, Period}
use Rattle.l4_model.specs.Machine.{Machine, Declaration}
use Rattle.l4_model.specs.World.{World, Thread, Send, Receive, Phase, Ready, Sending, Receiving, Ordering, Ended, Deleted, Name, opening, receive_now}
use Rattle.l4_model.specs.Conditions.{◌>>=◌, Found, found, has_passed, is_timed_out}
use Rattle.l4_model.specs.Steps.{Step, SendTimeout, ReceiveTimeout, Tick, receive_passed, next}
use Rattle.l4_model.specs.History.{run, reached}
use Rattle.l4_model.specs.Still.{is_tick}
use Rattle.l4_model.proofs.Chains.{bind_then, some_is}
use Rattle.l4_model.proofs.Places.{and_true, Known, known, known_send, sender_found}
use Rattle.l4_worlds.specs.Timeless.{timeless}
use Rattle.l4_worlds.specs.Late.{next_late, run_late, no_ticks}
use Rattle.l4_worlds.specs.Inner.Room.{EndsBy, PhaseEndsBy, SendEndsBy, IsRoomy}
use Rattle.l4_worlds.specs.Histories.{IsTimed, HasRoomFor}
use Rattle.l4_worlds.specs.Told.{until_over, until_send_over, until_phase_over, until_receive_over, until_due, when_due, told_behind, told, IsTold}
use Rattle.l4_worlds.proofs.OfSteps.{late_timeless}
use Rattle.l4_worlds.proofs.Passing.{map_from, processor}
use Rattle.l4_worlds.proofs.Reaching.{clocks_kept, without_append, reached_roomy, opening_timeless, all_later}
use Rattle.l4_worlds.proofs.Taken.{LateSendTimeout, late_send_timeout, LateReceiveTimeout, late_receive_timeout}
use Rattle.l4_worlds.proofs.Ticks.{tick_alike, run-append}

-- One clock that goes on

clock_at : (clocks : List ℕ) (i : ℕ) → i < length clocks → slice_get clocks i ≡ Some (slice_index clocks i)
clock_at [] i lt = absurd (omega arith)
clock_at (x ∷ clocks) zero lt = refl
clock_at (x ∷ clocks) (suc i) lt = clock_at clocks i (omega arith)

clock_set : (clocks : List ℕ) (i now : ℕ) → i < length clocks → slice_index (slice_set clocks i now) i ≡ now
clock_set [] i now lt = absurd (omega arith)
clock_set (x ∷ clocks) zero now lt = refl
clock_set (x ∷ clocks) (suc i) now lt = clock_set clocks i now (omega arith)

low_set : (top now i : ℕ) (clocks : List ℕ) → now ≤ top → AllByRecursion (λ clock. clock ≤ top) clocks → AllByRecursion (λ clock. clock ≤ top) (slice_set clocks i now)
low_set top now i [] le h = tt
low_set top now zero (x ∷ clocks) le h = (le, h.1)
low_set top now (suc i) (x ∷ clocks) le h = (h.0, low_set top now i clocks le h.1)

abbrev at_clock : World → (cpu now : ℕ) → World
at_clock w cpu now = record w { clocks = slice_set w.clocks cpu now }

ticked : (m : Machine) (w : World) (cpu now : ℕ) → cpu < length w.clocks → slice_index w.clocks cpu < now → now < 2 ^ 62 → next m w (Tick cpu now) ≡ Some (at_clock w cpu now)
ticked m w cpu now lt later high =
    let both : (nat_lt (slice_index w.clocks cpu) now && nat_lt now (2 ^ 62)) ≡ true = and_from (nat_lt (slice_index w.clocks cpu) now) (nat_lt now (2 ^ 62)) (lt-ltb (slice_index w.clocks cpu) now later) (lt-ltb now (2 ^ 62) high) in
    rw (clock_at w.clocks cpu lt, both) refl

-- One step, with the tick before it
pub record Told (m : Machine) (v : World) (top : ℕ) (step : Step) (u : World) : Type 0 where
  pub after : World
  pub leads : run m v (when_due m v step) ≡ Some after
  pub is_alike : timeless after ≡ u
  pub low : AllByRecursion (λ clock. clock ≤ top) after.clocks
  pub steps_are : no_ticks (when_due m v step) ≡ step ∷ []

at_once : (m : Machine) (v u after : World) (top : ℕ) (step : Step) → until_due m v step ≡ [] → is_tick step ≡ false → next m v step ≡ Some after → timeless after ≡ u → AllByRecursion (λ clock. clock ≤ top) v.clocks → Told m v top step u
at_once m v u after top step none tick goes alike low = record {
  after = after;
  leads = ap (λ xs. run m v (xs ++ step ∷ [])) none ∙ ap (λ o. o >>= λ x. Some x) goes;
  is_alike = alike;
  low = subst (AllByRecursion (λ clock. clock ≤ top)) (sym (clocks_kept m v after step tick goes)) low;
  steps_are = ap (λ xs. no_ticks (xs ++ step ∷ [])) none ∙ rw tick refl;
}

behind_tick : (m : Machine) (v u after : World) (top cpu now : ℕ) (step : Step) → until_due m v step ≡ Tick cpu now ∷ [] → is_tick step ≡ false → next m v (Tick cpu now) ≡ Some (at_clock v cpu now) →
    next m (at_clock v cpu now) step ≡ Some after → timeless after ≡ u → now ≤ top → AllByRecursion (λ clock. clock ≤ top) v.clocks → Told m v top step u
behind_tick m v u after top cpu now step one tick first goes alike le low = record {
  after = after;
  leads = ap (λ xs. run m v (xs ++ step ∷ [])) one ∙ ap (λ o. o >>= λ x. run m x (step ∷ [])) first ∙ ap (λ o. o >>= λ x. Some x) goes;
  is_alike = alike;
  low = subst (AllByRecursion (λ clock. clock ≤ top)) (sym (clocks_kept m (at_clock v cpu now) after step tick goes)) (low_set top now cpu v.clocks le low);
  steps_are = ap (λ xs. no_ticks (xs ++ step ∷ [])) one ∙ rw tick refl;
}

-- What is possible late here is so behind a tick.
late_behind : (m : Machine) (v u x : World) (step : Step) → timeless x ≡ timeless v → next_late m (timeless v) step ≡ Some u → (y : World) × (next_late m x step ≡ Some y) × (timeless y ≡ u)
late_behind m v u x step same late = map_from timeless (next_late m x step) u (sym (late_timeless m x step) ∙ ap (λ z. next_late m z step) same ∙ late)

known_clock : (m : Machine) (v : World) (cpu now : ℕ) (id : GlobalId) (t u : Found) → found m v id ≡ Some t → found m (at_clock v cpu now) id ≡ Some u → (u.at ≡ t.at) × ((u.declared ≡ t.declared) × (u.now ≡ t.now))
known_clock m v cpu now id t u a b =
    let k = known m v id t a in
    let l = known m (at_clock v cpu now) id u b in
    let at : u.at ≡ t.at = some_is u.at t.at (sym l.place ∙ k.place) in
    (at, (some_is u.declared t.declared (sym l.declared ∙ ap (slice_get m.threads) at ∙ k.declared), some_is u.now t.now (sym l.now ∙ ap (slice_get v.threads) at ∙ k.now)))

passed : (n since now : ℕ) → since + n ≤ now → has_passed (Some n) since now ≡ true
passed n since now le = le-leb (since + n) now le

finite_is : (period : Period) → is_some period ≡ true → (n : ℕ) × (period ≡ Some n)
finite_is None h = cc
finite_is (Some n) h = (n, refl)

-- A send

send_told : (m : Machine) (v u : World) (top : ℕ) (s : Name) → IsTimed m → IsRoomy m v top → next_late m (timeless v) (SendTimeout s) ≡ Some u → Told m v top (SendTimeout s) u
send_told m v u top s timed room late =
    let here = late_behind m v u v (SendTimeout s) refl late in
    let k = late_send_timeout m v here.0 s here.1 in
    let f = finite_is k.p.send.period (and_true (is_some k.p.send.period) _ k.may).0 in
    with here.0 here.2 k f.0 f.1
  where
    with : (y : World) → timeless y ≡ u → (k : LateSendTimeout m v y s) → (n : ℕ) → k.p.send.period ≡ Some n → Told m v top (SendTimeout s) u
    with y alike k n is = by (nat_lt k.p.sender.clock (k.p.send.since + n)) refl
      where
        cpu : ℕ
        cpu = k.p.sender.declared.cpu

        over : ℕ
        over = k.p.send.since + n

        there : Known m v s.thread k.p.sender
        there = known m v s.thread k.p.sender (sender_found m v s k.p k.is_undecided)

        inside : k.p.sender.declared.cpu < length v.clocks
        inside = let low = processor m.cpus m.threads k.p.sender.at k.p.sender.declared timed.processors there.declared in omega (arith, low, room.counted)

        ends : EndsBy top k.p.send.period k.p.send.since
        ends = subst (λ o. IfSome o (SendEndsBy top)) (known_send m v s k.p k.is_undecided).send (room.sends k.p.sender.at k.p.sender.now there.now)

        le : k.p.send.since + n ≤ top
        le = subst (λ period. EndsBy top period k.p.send.since) is ends

        ticks : (b : Bool) → nat_lt k.p.sender.clock (k.p.send.since + n) ≡ b → until_due m v (SendTimeout s) ≡ cond b (Tick k.p.sender.declared.cpu (k.p.send.since + n) ∷ []) []
        ticks b test =
            ap until_send_over k.is_undecided ∙ ap (λ period. until_over k.p.sender period k.p.send.since) is
            ∙ ap (λ b. cond b (Tick k.p.sender.declared.cpu (k.p.send.since + n) ∷ []) []) test

        by : (b : Bool) → nat_lt k.p.sender.clock (k.p.send.since + n) ≡ b → Told m v top (SendTimeout s) u
        by false test =
            let late_enough : k.p.send.since + n ≤ k.p.sender.clock = grind (arith, nat_tests) in
            let over_now : has_passed k.p.send.period k.p.send.since k.p.sender.clock ≡ true = ap (λ period. has_passed period k.p.send.since k.p.sender.clock) is ∙ passed n k.p.send.since k.p.sender.clock late_enough in
            let due : is_timed_out m v k.p ≡ true = and_from (has_passed k.p.send.period k.p.send.since k.p.sender.clock) _ over_now (and_true (is_some k.p.send.period) _ k.may).1 in
            at_once m v u y top (SendTimeout s) (ticks false test) refl (rw (k.is_undecided, due, k.free) (ap (λ z. Some z) k.leads_to)) alike room.no_later
        by true test =
            let sooner : k.p.sender.clock < k.p.send.since + n = ltb-true k.p.sender.clock (k.p.send.since + n) test in
            let tick = ticked m v k.p.sender.declared.cpu (k.p.send.since + n) inside (omega (arith, sooner, there.clock)) (omega (arith, le, room.below)) in
            let x : World = at_clock v k.p.sender.declared.cpu (k.p.send.since + n) in
            let same : timeless x ≡ timeless v = tick_alike m v x (Tick k.p.sender.declared.cpu (k.p.send.since + n)) refl tick in
            let behind = late_behind m v u x (SendTimeout s) same late in
            let l = late_send_timeout m x behind.0 s behind.1 in
            let one = known_clock m v k.p.sender.declared.cpu (k.p.send.since + n) s.thread k.p.sender l.p.sender (sender_found m v s k.p k.is_undecided) (sender_found m x s l.p l.is_undecided) in
            let send : l.p.send ≡ k.p.send = some_is l.p.send k.p.send (sym (known_send m x s l.p l.is_undecided).send ∙ ap (λ (t : Thread). t.send) one.1.1 ∙ (known_send m v s k.p k.is_undecided).send) in
            let clock : l.p.sender.clock ≡ k.p.send.since + n =
            (known m x s.thread l.p.sender (sender_found m x s l.p l.is_undecided)).clock
            ∙ ap (λ (d : Declaration). slice_index x.clocks d.cpu) one.1.0
            ∙ clock_set v.clocks k.p.sender.declared.cpu (k.p.send.since + n) inside in
            let over_now : has_passed l.p.send.period l.p.send.since l.p.sender.clock ≡ true =
            ap (λ (z : Send). has_passed z.period z.since l.p.sender.clock) send
            ∙ ap (has_passed k.p.send.period k.p.send.since) clock
            ∙ ap (λ period. has_passed period k.p.send.since (k.p.send.since + n)) is
            ∙ passed n k.p.send.since (k.p.send.since + n) (omega arith) in
            let due : is_timed_out m x l.p ≡ true = and_from (has_passed l.p.send.period l.p.send.since l.p.sender.clock) _ over_now (and_true (is_some l.p.send.period) _ l.may).1 in
            behind_tick m v u behind.0 top k.p.sender.declared.cpu (k.p.send.since + n) (SendTimeout s) (ticks true test) refl tick
            (rw (l.is_undecided, due, l.free) (ap (λ z. Some z) l.leads_to)) behind.2 le room.no_later

-- A receive phase

receiving_since : (p : Phase) (receive : Receive) → receive_now p ≡ Some receive → (since : ℕ) × (p ≡ Receiving receive since)
receiving_since Ready receive h = cc
receiving_since Sending receive h = cc
receiving_since (Receiving r since) receive h = (since, ap (λ x. Receiving x since) (some_is r receive h))
receiving_since Ordering receive h = cc
receiving_since Ended receive h = cc
receiving_since Deleted receive h = cc

receive_told : (m : Machine) (v u : World) (top : ℕ) (id : GlobalId) → IsTimed m → IsRoomy m v top → next_late m (timeless v) (ReceiveTimeout id) ≡ Some u → Told m v top (ReceiveTimeout id) u
receive_told m v u top id timed room late =
    let here = late_behind m v u v (ReceiveTimeout id) refl late in
    let k = late_receive_timeout m v here.0 id here.1 in
    let f = finite_is k.receive.period k.finite in
    let p = receiving_since k.t.now.phase k.receive k.receiving in
    with here.0 here.2 k f.0 f.1 p.0 p.1
  where
    with : (y : World) → timeless y ≡ u → (k : LateReceiveTimeout m v y id) → (n : ℕ) → k.receive.period ≡ Some n → (since : ℕ) → k.t.now.phase ≡ Receiving k.receive since → Told m v top (ReceiveTimeout id) u
    with y alike k n is since phase = by (nat_lt k.t.clock (since + n)) refl
      where
        there : Known m v id k.t
        there = known m v id k.t k.found

        inside : k.t.declared.cpu < length v.clocks
        inside = let low = processor m.cpus m.threads k.t.at k.t.declared timed.processors there.declared in omega (arith, low, room.counted)

        ends : PhaseEndsBy top k.t.now.phase
        ends = room.phases k.t.at k.t.now there.now

        le : since + n ≤ top
        le = subst (λ period. EndsBy top period since) is (subst (PhaseEndsBy top) phase ends)

        ticks : (b : Bool) → nat_lt k.t.clock (since + n) ≡ b → until_due m v (ReceiveTimeout id) ≡ cond b (Tick k.t.declared.cpu (since + n) ∷ []) []
        ticks b test =
            ap until_receive_over k.found ∙ ap (until_phase_over k.t) phase ∙ ap (λ period. until_over k.t period since) is
            ∙ ap (λ b. cond b (Tick k.t.declared.cpu (since + n) ∷ []) []) test

        by : (b : Bool) → nat_lt k.t.clock (since + n) ≡ b → Told m v top (ReceiveTimeout id) u
        by false test =
            let late_enough : since + n ≤ k.t.clock = grind (arith, nat_tests) in
            let over_now : receive_passed k.t k.t.now.phase ≡ true = ap (receive_passed k.t) phase ∙ ap (λ period. has_passed period since k.t.clock) is ∙ passed n since k.t.clock late_enough in
            at_once m v u y top (ReceiveTimeout id) (ticks false test) refl (rw (k.found, k.receiving, over_now, k.none_accepted) (ap (λ z. Some z) k.leads_to)) alike room.no_later
        by true test =
            let sooner : k.t.clock < since + n = ltb-true k.t.clock (since + n) test in
            let tick = ticked m v k.t.declared.cpu (since + n) inside (omega (arith, sooner, there.clock)) (omega (arith, le, room.below)) in
            let x : World = at_clock v k.t.declared.cpu (since + n) in
            let same : timeless x ≡ timeless v = tick_alike m v x (Tick k.t.declared.cpu (since + n)) refl tick in
            let behind = late_behind m v u x (ReceiveTimeout id) same late in
            let l = late_receive_timeout m x behind.0 id behind.1 in
            let one = known_clock m v k.t.declared.cpu (since + n) id k.t l.t k.found l.found in
            let clock : l.t.clock ≡ since + n =
            (known m x id l.t l.found).clock ∙ ap (λ (d : Declaration). slice_index x.clocks d.cpu) one.1.0 ∙ clock_set v.clocks k.t.declared.cpu (since + n) inside in
            let over_now : receive_passed l.t l.t.now.phase ≡ true =
            ap (receive_passed l.t) (ap (λ (t : Thread). t.phase) one.1.1 ∙ phase)
            ∙ ap (has_passed k.receive.period since) clock
            ∙ ap (λ period. has_passed period since (since + n)) is
            ∙ passed n since (since + n) (omega arith) in
            behind_tick m v u behind.0 top k.t.declared.cpu (since + n) (ReceiveTimeout id) (ticks true test) refl tick
            (rw (l.found, l.receiving, over_now, l.none_accepted) (ap (λ z. Some z) l.leads_to)) behind.2 le room.no_later

-- Any step

one_told : (m : Machine) (v u : World) (top : ℕ) (step : Step) → IsTimed m → IsRoomy m v top → next_late m (timeless v) step ≡ Some u → Told m v top step u
one_told m v u top (SendTimeout s) timed room late = send_told m v u top s timed room late
one_told m v u top (ReceiveTimeout id) timed room late = receive_told m v u top id timed room late
one_told m v u top (Tick cpu clock) timed room late = cc
one_told m v u top step timed room late = let here = late_behind m v u v step refl late in at_once m v u here.0 top step refl refl here.1 here.2 room.no_later

-- Many steps

pub record AreTold (m : Machine) (v : World) (top : ℕ) (steps : List Step) (u : World) : Type 0 where
  pub w : World
  pub steps_are : no_ticks (told m v steps) ≡ steps
  pub leads : run m v (told m v steps) ≡ Some w
  pub is_alike : timeless w ≡ u
  pub low : AllByRecursion (λ clock. clock ≤ top) w.clocks

all_told : (m : Machine) (steps h : List Step) (v u : World) (now : ℕ) → IsTimed m → reached m h ≡ Some v → AllByRecursion (λ clock. clock ≤ now) v.clocks →
    run_late m (timeless v) steps ≡ Some u → now + length steps * 2 ^ 42 < 2 ^ 62 → AreTold m v (now + length steps * 2 ^ 42) steps u
all_told m [] h v u now timed r low late high =
    record { w = v; steps_are = refl; leads = refl; is_alike = some_is (timeless v) u late; low = all_later now (now + 0 * 2 ^ 42) v.clocks (omega arith) low }
all_told m (step ∷ steps) h v u now timed r low late high =
    bind_then (next_late m (timeless v) step) (λ x. run_late m x steps) u late λ x is rest.
    let room = reached_roomy m h v now timed r low (omega (arith, high)) in
    let one = one_told m v x (now + 2 ^ 42) step timed room is in
    let reached_after : reached m (h ++ when_due m v step) ≡ Some one.after = run-append m h (when_due m v step) (opening m) ∙ ap (λ o. o >>= λ y. run m y (when_due m v step)) r ∙ one.leads in
    let more = all_told m steps (h ++ when_due m v step) one.after u (now + 2 ^ 42) timed reached_after one.low (ap (λ y. run_late m y steps) one.is_alike ∙ rest) (omega (arith, high)) in
    let are : told m v (step ∷ steps) ≡ when_due m v step ++ told m one.after steps = ap (λ o. when_due m v step ++ told_behind o (λ y. told m y steps)) one.leads in
    record {
      w = more.w;
      steps_are = ap no_ticks are ∙ without_append (when_due m v step) (told m one.after steps) ∙ ap (λ xs. xs ++ no_ticks (told m one.after steps)) one.steps_are ∙ ap (λ xs. step ∷ xs) more.steps_are;
      leads = ap (run m v) are ∙ run-append m (when_due m v step) (told m one.after steps) v ∙ ap (λ o. o >>= λ y. run m y (told m one.after steps)) one.leads ∙ more.leads;
      is_alike = more.is_alike;
      low = all_later (now + 2 ^ 42 + length steps * 2 ^ 42) (now + suc (length steps) * 2 ^ 42) more.w.clocks (omega arith) more.low;
    }

no_clock_yet : (n : ℕ) → AllByRecursion (λ clock. clock ≤ 0) (replicate n 0)
no_clock_yet zero = tt
no_clock_yet (suc n) = (omega arith, no_clock_yet n)

pub told_late : (m : Machine) (steps : List Step) (u : World) → IsTimed m → HasRoomFor (length steps) → run_late m (opening m) steps ≡ Some u → IsTold m steps u
told_late m steps u timed room late =
    let g = all_told m steps [] (opening m) u 0 timed refl (no_clock_yet m.cpus) (ap (λ x. run_late m x steps) (opening_timeless m) ∙ late) (omega (arith, room)) in
    record {
      w = g.w;
      steps_are = g.steps_are;
      reaches = g.leads;
      is_alike = g.is_alike;
      no_later = all_later (0 + length steps * 2 ^ 42) (length steps * 2 ^ 42) g.w.clocks (omega arith) g.low;
    }
