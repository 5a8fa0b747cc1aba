-- Where nothing is possible however late, no finite period stands but zero.
use Rattle.std.proofs.Common.{◌≡◌, ℕ, zero, suc, Bool, true, false, cond, ◌⊎◌, inl, inr, Option, Some, None, List, [], ◌∷◌, map, refl, ap, sym, subst, ◌∙◌, arith, get_or}
use Rattle.std.proofs.Math.Nat.{eq-or-lt_of_le}
use Rattle.std.proofs.lemmas.Bool.{cases_lt}
use Rattle.std.proofs.lemmas.Bool.Decides.{nat_tests}
use Rattle.std.proofs.lemmas.Option.{slice_get-get_or, slice_get_within}
use Rattle.std.proofs.lemmas.Slice.Eq.{bytes_eq-Decides}
use Rattle.std.specs.Prelude.{slice_get, slice_index, find, is_some, not, IfSome, IsSomeAnd, ◌==◌, ◌||◌}
use Rattle.std.specs.List.{AllByRecursion}
use Rattle.std.specs.Option.{option_map}
use Rattle.l4_model.specs.Words.{GlobalId, Id, NilThread, AnyThread, AnyLocalThread, LocalThread, GlobalThread, Period}
use Rattle.l4_model.specs.Machine.{Machine, Declaration, OrderKind, CancelSend, CancelReceive, CancelBoth, Delete, Instr, Run, Ipc, Ask, End, place_of}
use Rattle.l4_model.specs.World.{World, Thread, Context, Send, Receive, Owed, Phase, Ready, Sending, Receiving, Ordering, Ended, Deleted, Name, changed, opening, opening_thread, is_alive, is_deleted, is_in, list_at, owed_of, must_wait}
use Rattle.l4_model.specs.Rules.{receive_code, send_code, Act, Orders, RunsAlone, ipc_act, ask_act, act, is_admitted, id_from, receive_phase, received_tag, is_cross}
use Rattle.l4_model.specs.Effects.{runs, begins, waits, fails, decided, refused, receives, goes_on, delivered, asked, orders, obeyed, turns, turns_in}
use Rattle.l4_model.specs.Conditions.{◌>>=◌, Found, found, found_at, found_by, Pending, undecided, receiver_of, instruction, is_waiting, shows_accepted, first_accepted, is_zero, is_no_destination}
use Rattle.l4_model.specs.Steps.{Step, Queue, Deliver, SendTimeout, ReceiveTimeout, SendNobody, Order, Tick, Retarget, send_of, next, OfThread, OfSend, Runs, Waits, Fails, Obeys, Begun, Queued, Failed, Dropped, Retargeted}
use Rattle.l4_model.specs.History.{run, reached}
use Rattle.l4_model.specs.Reached.{IsOwedAmong, SendsTo, WorldFacts, place_to}
use Rattle.l4_model.proofs.Chains.{bind_then, some_is, get-changed_same, get-changed_other}
use Rattle.l4_model.proofs.Inversions.{local_taken, begin_taken, queue_taken, deliver_taken, wait_taken, drop_taken, order_taken, obey_taken, tick_taken, retarget_taken, send_failed, receive_failed}
use Rattle.l4_model.proofs.Places.{eqb_same, same_name_refl, place_id, known, sender_found, receiver_place}
use Rattle.l4_model.proofs.Worlds.{reached_facts}
use Rattle.l4_worlds.specs.Timeless.{timeless}
use Rattle.l4_worlds.specs.Late.{next_late, may_time_out}
use Rattle.l4_worlds.specs.Histories.{IsStillLate, IsUntimed, IsUntimedIn, IsNeverOrZero}
use Rattle.l4_worlds.proofs.OfSteps.{late_timeless}
use Rattle.l4_worlds.proofs.Passing.{map_from}

-- Two invariants: each send goes to somebody, and a thread whose id is that of an earlier one does
-- nothing.

abbrev is_somebody : Id → Bool
is_somebody NilThread = false
is_somebody _ = true

abbrev GoesSomewhere : Option Send → Type 0
GoesSomewhere o = IfSome o (λ (send : Send). is_somebody send.to ≡ true)

record Fits (m : Machine) (i : ℕ) (d : Declaration) (t : Thread) : Type 0 where
  goes : GoesSomewhere t.send
  idle : (place_of m d.id ≡ Some i → ⊥) → (t.phase ≡ Ready) × (t.send ≡ None)

abbrev AllFit : Machine → List Thread → Type 0
AllFit m ts = (i : ℕ) (d : Declaration) (t : Thread) → slice_get m.threads i ≡ Some d → slice_get ts i ≡ Some t → Fits m i d t

abbrev IsNamed : Machine → ℕ → Type 0
IsNamed m i = (d : Declaration) → slice_get m.threads i ≡ Some d → place_of m d.id ≡ Some i

named_by : (m : Machine) (id : GlobalId) (i : ℕ) → place_of m id ≡ Some i → IsNamed m i
named_by m id i place d at =
    let there = place_id m id i place d in
    let same : get_or m.threads i d ≡ d = some_is _ _ (sym (slice_get-get_or m.threads i d there.0) ∙ at) in
    ap (place_of m) (ap (λ (x : Declaration). x.id) (sym same) ∙ there.1) ∙ place

same_place : (i j : ℕ) → (i ≡ j) ⊎ (i ≡ j → ⊥)
same_place i j = elim (cases_lt i j) [
  | inl less ↦ inr (λ e. omega (arith, less, e))
  | inr le ↦ elim (eq-or-lt_of_le le) [
    | inl is ↦ inl (sym is)
    | inr less ↦ inr (λ e. omega (arith, less, e))
  ]
]

abbrev Keeps : (Thread → Thread) → Type 0
Keeps f = (t : Thread) → GoesSomewhere t.send → GoesSomewhere (f t).send

changed_fit : (m : Machine) (f : Thread → Thread) (ts : List Thread) (p : ℕ) → IsNamed m p → Keeps f → AllFit m ts → AllFit m (changed f ts p)
changed_fit m f ts p named keeps all i d t at_d at_t = by (same_place p i)
  where
    by : (p ≡ i) ⊎ (p ≡ i → ⊥) → Fits m i d t
    by (inr apart) = all i d t at_d (sym (get-changed_other f ts p i apart) ∙ at_t)
    by (inl is) =
        let here : slice_get (changed f ts i) i ≡ Some t = ap (λ j. slice_get (changed f ts j) i) (sym is) ∙ at_t in
        let x = map_from f (slice_get ts i) t (sym (get-changed_same f ts i) ∙ here) in
        record {
          goes = subst (λ (y : Thread). GoesSomewhere y.send) x.2 (keeps x.0 (all i d x.0 at_d x.1).goes);
          idle = λ no. absurd (no (subst (λ j. place_of m d.id ≡ Some j) is (named d (ap (slice_get m.threads) is ∙ at_d))));
        }

-- Changes of a thread

cond_goes : (b : Bool) (x y : Thread) → GoesSomewhere x.send → GoesSomewhere y.send → GoesSomewhere (cond b x y).send
cond_goes true x y p q = p
cond_goes false x y p q = q

fails_goes : (code : ℕ) → Keeps (fails code)
fails_goes code t h = cond_goes (is_alive t.phase) _ t h h

refused_goes : (code : ℕ) → Keeps (refused code)
refused_goes code t h = fails_goes code (decided t) tt

delivered_goes : (send : Send) (now : ℕ) → Keeps (delivered send now)
delivered_goes send now t h = cond_goes (is_alive t.phase) _ _ (by send.receive) tt
  where
    by : (o : Option Receive) → GoesSomewhere (goes_on o now t).send
    by None = tt
    by (Some receive) = tt

asked_goes : (what : OrderKind) → Keeps (asked what)
asked_goes CancelSend t h = h
asked_goes CancelReceive t h = h
asked_goes CancelBoth t h = h
asked_goes Delete t h = h

obeyed_goes : Keeps obeyed
obeyed_goes t h = cond_goes (is_alive t.phase) _ _ h h

turns_goes : (o : Owed) → Keeps (turns o)
turns_goes o t h = by t.phase t.send h
  where
    with : Phase → Option Send → Thread
    with p s = record t { phase = p; send = s }

    by : (p : Phase) (s : Option Send) → GoesSomewhere s → GoesSomewhere (turns_in p o (with p s)).send
    by Ready s h = h
    by Sending None h = tt
    by Sending (Some send) h = h
    by (Receiving receive since) s h = h
    by Ordering s h = h
    by Ended s h = h
    by Deleted s h = h

-- What an instruction sends goes to somebody.

abbrev ActGoes : Act → Type 0
ActGoes a = GoesSomewhere (send_of a)

ipc_goes : (m : Machine) (id : GlobalId) (now : ℕ) (c : Context) (to : Id) (period : Period) (receive : Option Receive) → ActGoes (ipc_act m id now c to period receive)
ipc_goes m id now c NilThread period None = tt
ipc_goes m id now c NilThread period (Some receive) = tt
ipc_goes m id now c AnyThread period receive = refl
ipc_goes m id now c AnyLocalThread period receive = refl
ipc_goes m id now c (LocalThread word) period receive = refl
ipc_goes m id now c (GlobalThread t) period receive = refl

ask_goes : (m : Machine) (id : GlobalId) (target : Id) (what : OrderKind) → ActGoes (ask_act m id target what)
ask_goes m id NilThread what = tt
ask_goes m id AnyThread what = tt
ask_goes m id AnyLocalThread what = tt
ask_goes m id (LocalThread word) what = tt
ask_goes m id (GlobalThread t) what = by (is_admitted m id t what)
  where
    by : (b : Bool) → ActGoes (cond b (Orders (record { target = t; what = what })) RunsAlone)
    by true = tt
    by false = tt

act_goes : (m : Machine) (id : GlobalId) (now : ℕ) (c : Context) (i : Instr) → ActGoes (act m id now c i)
act_goes m id now c (Ipc to from send_period receive_period) = ipc_goes m id now c (id_from c to) send_period (receive_phase (id_from c from) receive_period)
act_goes m id now c (Ask target what) = ask_goes m id (id_from c target) what
act_goes m id now c (Run own) = tt
act_goes m id now c End = tt

-- Steps

found_named : (m : Machine) (w : World) (id : GlobalId) (t : Found) → found m w id ≡ Some t → IsNamed m t.at
found_named m w id t is = named_by m id t.at (known m w id t is).place

sender_named : (m : Machine) (w : World) (s : Name) (p : Pending) → undecided m w s ≡ Some p → IsNamed m p.sender.at
sender_named m w s p is = found_named m w s.thread p.sender (sender_found m w s p is)

abbrev Fit : Machine → World → Type 0
Fit m w = AllFit m w.threads

step_fit : (m : Machine) (w v : World) (step : Step) → next m w step ≡ Some v → Fit m w → Fit m v
step_fit m w v (OfThread Runs id) h all =
    let k = local_taken m w v id h in
    subst (Fit m) k.leads_to
    (changed_fit m (runs (instruction k.t)) w.threads k.t.at (found_named m w id k.t k.found) (λ t g. g) all)
step_fit m w v (OfThread Waits id) h all =
    let k = wait_taken m w v id h in
    subst (Fit m) k.leads_to
    (changed_fit m (waits k.receive k.t.clock) w.threads k.t.at (found_named m w id k.t k.found) (λ t g. g) all)
step_fit m w v (OfThread (Fails why) id) h all =
    let k = receive_failed m w v id why h in
    let code = receive_code why in
    subst (Fit m) k.leads_to
    (changed_fit m (fails code) w.threads k.t.at (found_named m w id k.t k.found) (fails_goes code) all)
step_fit m w v (OfThread Obeys id) h all =
    let k = obey_taken m w v id h in
    let what = k.order.what in
    subst (Fit m) k.leads_to
    (changed_fit m obeyed (changed (asked what) w.threads k.target) k.t.at (found_named m w id k.t k.found) obeyed_goes
    (changed_fit m (asked what) w.threads k.target (named_by m k.order.target k.target k.target_is)
    (asked_goes what) all))
step_fit m w v (OfSend Begun s) h all =
    let k = begin_taken m w v s h in
    let acts = act_goes m k.t.declared.id k.t.clock k.t.now.context (instruction k.t) in
    let goes : GoesSomewhere (Some k.send) = subst GoesSomewhere k.sends acts in
    subst (Fit m) k.leads_to
    (changed_fit m (begins k.send) w.threads k.t.at (found_named m w s.thread k.t k.found) (λ t g. goes) all)
step_fit m w v (OfSend Queued s) h all = subst (Fit m) (queue_taken m w v s h).leads_to all
step_fit m w v (OfSend (Failed why) s) h all =
    let k = send_failed m w v s why h in
    let code = send_code why in
    subst (Fit m) k.leads_to
    (changed_fit m (refused code) w.threads k.p.sender.at (sender_named m w s k.p k.is_undecided)
    (refused_goes code) all)
step_fit m w v (OfSend Dropped s) h all =
    let k = drop_taken m w v s h in
    subst (Fit m) k.leads_to
    (changed_fit m decided w.threads k.p.sender.at (sender_named m w s k.p k.is_undecided) (λ t g. tt) all)
step_fit m w v (OfSend Retargeted s) h all =
    let k = retarget_taken m w v s h in
    subst (Fit m) k.leads_to
    (changed_fit m (turns k.o) w.threads k.t.at (found_named m w k.o.originator k.t k.found) (turns_goes k.o) all)
step_fit m w v (Deliver s receiver shown actual tag words) h all =
    let k = deliver_taken m w v s receiver shown actual tag words h in
    let gets : Thread → Thread = receives k.p.send.message tag in
    let there = named_by m k.r.declared.id k.r.at (receiver_place m w k.p.send.to k.r k.to) in
    subst (Fit m) k.leads_to
    (changed_fit m (delivered k.p.send k.p.sender.clock) (changed gets w.threads k.r.at) k.p.sender.at
    (sender_named m w s k.p k.is_undecided) (delivered_goes k.p.send k.p.sender.clock)
    (changed_fit m gets w.threads k.r.at there (λ t g. g) all))
step_fit m w v (Order caller target what) h all =
    let k = order_taken m w v caller target what h in
    subst (Fit m) k.leads_to
    (changed_fit m (orders k.order) w.threads k.t.at (found_named m w caller k.t k.found) (λ t g. g) all)
step_fit m w v (Tick cpu clock) h all = subst (Fit m) (tick_taken m w v cpu clock h).leads_to all

run_fit : (m : Machine) (h : List Step) (w v : World) → run m w h ≡ Some v → Fit m w → Fit m v
run_fit m [] w v r all = subst (Fit m) (some_is w v r) all
run_fit m (step ∷ h) w v r all =
    bind_then (next m w step) (λ u. run m u h) v r λ u is rest.
    run_fit m h u v rest (step_fit m w u step is all)

opening_fit : (m : Machine) → Fit m (opening m)
opening_fit m i d t at_d at_t =
    let e = fresh m.threads i at_t in
    subst (Fits m i d) e (record { goes = tt; idle = λ no. (refl, refl) })
  where
    fresh : (ds : List Declaration) (i : ℕ) → slice_get (map (λ d. opening_thread) ds) i ≡ Some t → opening_thread ≡ t
    fresh [] i at = cc
    fresh (d ∷ ds) zero at = some_is _ t at
    fresh (d ∷ ds) (suc i) at = fresh ds i at

-- Where nothing is possible late

find_in : (p : ℕ → Bool) (xs : List ℕ) (j : ℕ) → find p xs ≡ Some j → (is_in j xs ≡ true) × (p j ≡ true)
find_in p [] j h = cc
find_in p (x ∷ xs) j h = by (p x) refl h (λ rest. find_in p xs j rest)
  where
    or_true : (b : Bool) → (b || true) ≡ true
    or_true true = refl
    or_true false = refl

    by : (b : Bool) → p x ≡ b → cond b (Some x) (find p xs) ≡ Some j → (find p xs ≡ Some j → (is_in j xs ≡ true) × (p j ≡ true)) → (is_in j (x ∷ xs) ≡ true) × (p j ≡ true)
    by true is at rest =
        let same : x ≡ j = some_is x j at in
        (subst (λ y. is_in j (y ∷ xs) ≡ true) (sym same) (ap (λ b. b || is_in j xs) (eqb_same j)), subst (λ y. p y ≡ true) same is)
    by false is at rest = let r = rest at in (ap (λ b. (j == x) || b) r.0 ∙ or_true (j == x), r.1)

never : {A : Type 0} (o : Option A) (y : A) → o ≡ None → o ≡ Some y → ⊥
never None y p q = cc
never (Some z) y p q = cc

not_zero : (n : ℕ) → is_zero (Some (suc n)) ≡ false
not_zero n = grind (arith, nat_tests)

module _ (m : Machine) (w : World) (facts : WorldFacts m w) (fit : Fit m w) (still : (step : Step) → next_late m w step ≡ None) where
  moves : (step : Step) → is_some (next_late m w step) ≡ true → ⊥
  moves step h = let no : is_some (next_late m w step) ≡ false = ap is_some (still step) in cc

  -- A thread that was found
  abbrev of_place : ℕ → Declaration → Thread → Found
  of_place i d t = record { at = i; declared = d; now = t; clock = slice_index w.clocks d.cpu }

  found_there : (i : ℕ) (d : Declaration) (t : Thread) → slice_get m.threads i ≡ Some d → slice_get w.threads i ≡ Some t → found_at m w i ≡ Some (of_place i d t)
  found_there i d t at_d at_t = rw (at_d, at_t) refl

  found_named_one : (i : ℕ) (d : Declaration) (t : Thread) (id : GlobalId) → place_of m id ≡ Some i → slice_get m.threads i ≡ Some d → slice_get w.threads i ≡ Some t → found m w id ≡ Some (of_place i d t)
  found_named_one i d t id place at_d at_t = ap (λ o. o >>= found_at m w) place ∙ found_there i d t at_d at_t

  abbrev last_send : Declaration → Thread → Name
  last_send d t = record { thread = d.id; k = t.context.begun }

  undecided_there : (i : ℕ) (d : Declaration) (t : Thread) (send : Send) → place_of m d.id ≡ Some i → slice_get m.threads i ≡ Some d → slice_get w.threads i ≡ Some t → t.send ≡ Some send →
      undecided m w (last_send d t) ≡ Some (record { sender = of_place i d t; send = send })
  undecided_there i d t send place at_d at_t has = rw (found_named_one i d t d.id place at_d at_t, eqb_same t.context.begun, has) refl

  declared_at : (i : ℕ) (t : Thread) → slice_get w.threads i ≡ Some t → (d : Declaration) × (slice_get m.threads i ≡ Some d)
  declared_at i t at =
      let none : Declaration = record { id = record { number = 0; version = 0 }; cpu = 0; space = 0; script = [] } in
      let within = slice_get_within w.threads i t at in
      (get_or m.threads i none, slice_get-get_or m.threads i none (omega (arith, within, facts.threads_counted)))

  is_place : (o : Option ℕ) (i : ℕ) → (o ≡ Some i) ⊎ (o ≡ Some i → ⊥)
  is_place None i = inr (λ e. cc)
  is_place (Some j) i = elim (same_place j i) [ inl is ↦ inl (ap Some is) | inr apart ↦ inr (λ e. apart (some_is j i e)) ]

  -- Nobody is owed a retarget.
  none_owed : w.owed ≡ []
  none_owed = by w.owed refl facts.owed_among
    where
      by : (os : List Owed) → w.owed ≡ os → AllByRecursion (IsOwedAmong m) os → os ≡ []
      by [] is among = refl
      by (o ∷ os) is among = absurd (turn (place_of m o.originator) refl among.0.originator)
        where
          first : owed_of (o ∷ os) o.send ≡ Some o
          first = rw (same_name_refl o.send) refl

          turn : (p : Option ℕ) → place_of m o.originator ≡ p → is_some (place_of m o.originator) ≡ true → ⊥
          turn None place there = let no : is_some (place_of m o.originator) ≡ false = ap is_some place in cc
          turn (Some i) place there =
              let d0 : Declaration = record { id = o.originator; cpu = 0; space = 0; script = [] } in
              let low = (place_id m o.originator i place d0).0 in
              let d = slice_get-get_or m.threads i d0 low in
              let t = slice_get-get_or w.threads i opening_thread (omega (arith, low, facts.threads_counted)) in
              let f = found_named_one i (get_or m.threads i d0) (get_or w.threads i opening_thread) o.originator place d t in
              let owed : owed_of w.owed o.send ≡ Some o = ap (λ xs. owed_of xs o.send) is ∙ first in
              moves (Retarget o.send) (rw (owed, f) refl)

  free : (sender : GlobalId) (to : Id) → not (must_wait w.owed sender to) ≡ true
  free sender to = ap (λ os. not (must_wait os sender to)) none_owed

  -- A send with a finite period that is not zero would time out, or go into a list, or be refused.
  module _ (i : ℕ) (d : Declaration) (t : Thread) (send : Send) (place : place_of m d.id ≡ Some i) (at_d : slice_get m.threads i ≡ Some d) (at_t : slice_get w.threads i ≡ Some t)
      (has : t.send ≡ Some send) where
    p : Pending
    p = record { sender = of_place i d t; send = send }

    is_undecided : undecided m w (last_send d t) ≡ Some (record { sender = of_place i d t; send = send })
    is_undecided = undecided_there i d t send place at_d at_t has

    goes : is_somebody send.to ≡ true
    goes = subst GoesSomewhere has (fit i d t at_d at_t).goes

    to_nobody : is_no_destination send.to (receiver_of m w (record { sender = of_place i d t; send = send })) ≡ true → ⊥
    to_nobody nobody = moves (SendNobody (last_send d t)) (rw (is_undecided, nobody, free d.id send.to) refl)

    gone : (to : Id) (o : Option Found) → is_somebody to ≡ true → found_by m w to ≡ o → ((r : Found) → o ≡ Some r → is_alive r.now.phase ≡ false) → is_no_destination to o ≡ true
    gone NilThread o some is none = cc
    gone AnyThread o some is none = refl
    gone AnyLocalThread o some is none = refl
    gone (LocalThread word) o some is none = refl
    gone (GlobalThread g) None some is none = refl
    gone (GlobalThread g) (Some r) some is none = deleted (is_deleted r.now.phase) (none r refl)
      where
        deleted : (b : Bool) → not b ≡ false → b ≡ true
        deleted true h = refl
        deleted false h = cc

    waits_not : is_waiting w (record { sender = of_place i d t; send = send }) ≡ false → ⊥
    waits_not out = to_nobody (gone send.to (found_by m w send.to) goes refl (λ r is. dead r is (is_alive r.now.phase) refl))
      where
        dead : (r : Found) → found_by m w send.to ≡ Some r → (b : Bool) → is_alive r.now.phase ≡ b → is_alive r.now.phase ≡ false
        dead r is false alive = alive
        dead r is true alive = absurd (moves (Queue (last_send d t)) (rw (is_undecided, is, alive, out, free d.id send.to) refl))

    send_untimed : IsNeverOrZero send.period
    send_untimed = by send.period refl
      where
        by : (period : Period) → send.period ≡ period → IsNeverOrZero period
        by None is = tt
        by (Some zero) is = refl
        by (Some (suc n)) is = absurd (listed (is_waiting w (record { sender = of_place i d t; send = send })) refl)
          where
            listed : (b : Bool) → is_waiting w (record { sender = of_place i d t; send = send }) ≡ b → ⊥
            listed false out = waits_not out
            listed true inside =
                let may : may_time_out m w (record { sender = of_place i d t; send = send }) ≡ true = rw (is, not_zero n, inside) refl in
                moves (SendTimeout (last_send d t)) (rw (is_undecided, may, free d.id send.to) refl)

  -- A receive phase with a finite period would time out, or take a message.
  module _ (i : ℕ) (d : Declaration) (t : Thread) (receive : Receive) (since n : ℕ) (place : place_of m d.id ≡ Some i) (at_d : slice_get m.threads i ≡ Some d) (at_t : slice_get w.threads i ≡ Some t)
      (phase : t.phase ≡ Receiving receive since) (finite : receive.period ≡ Some n) where
    r : Found
    r = of_place i d t

    receiver_is : found m w d.id ≡ Some (of_place i d t)
    receiver_is = found_named_one i d t d.id place at_d at_t

    -- The sender that is accepted
    takes : (j : ℕ) → first_accepted m w (of_place i d t) receive.from ≡ Some j → (x : Thread) → slice_get w.threads j ≡ Some x → (send : Send) → x.send ≡ Some send → place_to m send.to ≡ Some i → ⊥
    takes j first x at_x send has to =
        let dj = declared_at j x at_x in
        named (is_place (place_of m dj.0.id) j)
      where
        e : Declaration
        e = (declared_at j x at_x).0

        at_e : slice_get m.threads j ≡ Some (declared_at j x at_x).0
        at_e = (declared_at j x at_x).1

        to_receiver : (to : Id) → place_to m to ≡ Some i → found_by m w to ≡ Some (of_place i d t)
        to_receiver NilThread h = cc
        to_receiver AnyThread h = cc
        to_receiver AnyLocalThread h = cc
        to_receiver (LocalThread word) h = cc
        to_receiver (GlobalThread g) h = found_named_one i d t g h at_d at_t

        named : (place_of m (declared_at j x at_x).0.id ≡ Some j) ⊎ (place_of m (declared_at j x at_x).0.id ≡ Some j → ⊥) → ⊥
        named (inr unnamed) = let none = ((fit j (declared_at j x at_x).0 x at_e at_x).idle unnamed).1 in never x.send send none has
        named (inl there) =
            let message = send.message in
            let s = last_send (declared_at j x at_x).0 x in
            let is_undecided = undecided_there j (declared_at j x at_x).0 x send there at_e at_x has in
            let tag = received_tag (is_cross m d.id send.message) send.message in
            moves (Deliver s d.id message.shown message.actual tag message.words) (rw (
              is_undecided,
              to_receiver send.to to,
              phase,
              first,
              eqb_same j,
              eqb_same d.id.number,
              eqb_same d.id.version,
              eqb_same message.shown.number,
              eqb_same message.shown.version,
              eqb_same message.actual.number,
              eqb_same message.actual.version,
              eqb_same tag,
              (bytes_eq-Decides message.words message.words).1 refl,
            ) refl)

    receive_never : ⊥
    receive_never = by (first_accepted m w (of_place i d t) receive.from) refl
      where
        listed : (j : ℕ) → first_accepted m w (of_place i d t) receive.from ≡ Some j → IsSomeAnd (slice_get w.threads j) (λ (x : Thread). SendsTo m i x.send) → ⊥
        listed j first there = thread (slice_get w.threads j) refl there
          where
            thread : (o : Option Thread) → slice_get w.threads j ≡ o → IsSomeAnd o (λ (x : Thread). SendsTo m i x.send) → ⊥
            thread None at h = absurd h
            thread (Some x) at h = sent x.send refl h
              where
                sent : (o : Option Send) → x.send ≡ o → IsSomeAnd o (λ (send : Send). place_to m send.to ≡ Some i) → ⊥
                sent None has h = absurd h
                sent (Some send) has h = takes j first x at send has h

        by : (o : Option ℕ) → first_accepted m w (of_place i d t) receive.from ≡ o → ⊥
        by None none =
            let finite_now : is_some receive.period ≡ true = ap is_some finite in
            moves (ReceiveTimeout d.id) (rw (receiver_is, phase, finite_now, none) refl)
        by (Some j) first =
            listed j first (facts.listed_sends i j (find_in (λ k. shows_accepted m receive.from d.id (slice_get w.threads k)) (list_at w.waiting i) j first).0)

  untimed : IsUntimed w
  untimed i t at =
      let d = declared_at i t at in
      by d.0 d.1 (is_place (place_of m d.0.id) i)
    where
      phase_untimed : (d : Declaration) → slice_get m.threads i ≡ Some d → place_of m d.id ≡ Some i → (p : Phase) → t.phase ≡ p → IsUntimedIn p
      phase_untimed d at_d place Ready is = tt
      phase_untimed d at_d place Sending is = tt
      phase_untimed d at_d place (Receiving receive since) is = period receive.period refl
        where
          period : (o : Period) → receive.period ≡ o → IsNeverOrZero o
          period None e = tt
          period (Some n) e = absurd (receive_never i d t receive since n place at_d at is e)
      phase_untimed d at_d place Ordering is = tt
      phase_untimed d at_d place Ended is = tt
      phase_untimed d at_d place Deleted is = tt

      one_send : (d : Declaration) → slice_get m.threads i ≡ Some d → place_of m d.id ≡ Some i → (o : Option Send) → t.send ≡ o → IfSome o (λ (send : Send). IsNeverOrZero send.period)
      one_send d at_d place None has = tt
      one_send d at_d place (Some send) has = send_untimed i d t send place at_d at has

      by : (d : Declaration) → slice_get m.threads i ≡ Some d → (place_of m d.id ≡ Some i) ⊎ (place_of m d.id ≡ Some i → ⊥) → IsUntimedIn t.phase × IfSome t.send (λ (send : Send). IsNeverOrZero send.period)
      by d at_d (inl place) = (phase_untimed d at_d place t.phase refl, one_send d at_d place t.send refl)
      by d at_d (inr unnamed) =
          let idle = (fit i d t at_d at).idle unnamed in
          (subst IsUntimedIn (sym idle.0) tt, subst (λ o. IfSome o (λ (send : Send). IsNeverOrZero send.period)) (sym idle.1) tt)

-- A world that a history reaches, and in which nothing is possible however late
pub settled_untimed : (m : Machine) (h : List Step) (w : World) → reached m h ≡ Some w → IsStillLate m (timeless w) → IsUntimed w
settled_untimed m h w r still = untimed m w (reached_facts m h w r) (run_fit m h (opening m) w r (opening_fit m)) now
  where
    none : (o : Option World) → option_map timeless o ≡ None → o ≡ None
    none None e = refl
    none (Some x) e = cc

    now : (step : Step) → next_late m w step ≡ None
    now step = none (next_late m w step) (sym (late_timeless m w step) ∙ still step)
