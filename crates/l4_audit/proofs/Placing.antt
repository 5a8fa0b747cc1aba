-- A thread that waits until what it asked for is done stands at an instruction of its script.
use Rattle.std.proofs.Common.{◌≡◌, ℕ, ◌<◌, zero, suc, Bool, true, false, Option, Some, None, List, [], ◌∷◌, map, length, refl, ap, sym, ◌∙◌, subst, ◌⊎◌, inl, inr}
use Rattle.std.specs.Prelude.{slice_get, is_some, unwrap_or}
use Rattle.std.proofs.lemmas.Option.{slice_get_within}
use Rattle.l4_model.specs.Words.{GlobalId}
use Rattle.l4_model.specs.Machine.{Machine, Declaration, Instr, End, OrderKind, CancelSend, CancelReceive, CancelBoth, Delete}
use Rattle.l4_model.specs.World.{Thread, PendingOrder, Send, Receive, Owed, Phase, Ready, Sending, Receiving, Ordering, Ended, Deleted, World, change, changed, opening, opening_thread, unqueued, others_owed, is_ready}
use Rattle.l4_model.specs.Rules.{receive_code, send_code, act}
use Rattle.l4_model.specs.Effects.{runs, begins, waits, fails, decided, refused, receives, delivered, goes_on, asked, orders, obeyed, turns}
use Rattle.l4_model.specs.Conditions.{Found, found, instruction}
use Rattle.l4_model.specs.Steps as steps
use Rattle.l4_model.specs.Reached.{Suits, WorldFacts}
use Rattle.l4_model.proofs.Chains.{some_is, map-changed_same, get-map}
use Rattle.l4_model.proofs.Places.{known}
use Rattle.l4_model.proofs.Inversions.{local_taken, begin_taken, queue_taken, deliver_taken, wait_taken, drop_taken, order_taken, obey_taken, tick_taken, retarget_taken, send_failed, receive_failed}
use Rattle.l4_worlds.specs.Late.{next_late}
use Rattle.l4_worlds.proofs.Taken.{late_refused, late_failed}

-- What of a thread is spoken of: whether it asked for something, and its place.
pub record Part : Type 0 where
  pub asks : Bool
  pub place : ℕ

abbrev part : Thread → Part
part t = record { asks = is_some t.order; place = t.context.place }

abbrev parts : World → List Part
parts w = map part w.threads

abbrev pub Placed : Machine → World → Type 0
Placed m w = (i : ℕ) (d : Declaration) (p : Part) → slice_get m.threads i ≡ Some d → slice_get (map part w.threads) i ≡ Some p → p.asks ≡ true → p.place < length d.script

pub placed_at : (m : Machine) (w : World) (i : ℕ) (d : Declaration) (t : Thread) → Placed m w → slice_get m.threads i ≡ Some d → slice_get w.threads i ≡ Some t → is_some t.order ≡ true →
    t.context.place < length d.script
placed_at m w i d t placed declared now has = placed i d (part t) declared (get-map part w.threads i t now) has

-- Changes that keep this part

fails_part : (code : ℕ) (t : Thread) → part (fails code t) ≡ part t
fails_part code t = by t.phase
  where
    by : (p : Phase) → part (fails code (record t { phase = p })) ≡ part t
    by Ready = refl
    by Sending = refl
    by (Receiving receive since) = refl
    by Ordering = refl
    by Ended = refl
    by Deleted = refl

refused_part : (code : ℕ) (t : Thread) → part (refused code t) ≡ part t
refused_part code t = fails_part code (decided t)

goes_part : (receive : Option Receive) (now : ℕ) (t : Thread) → part (goes_on receive now t) ≡ part t
goes_part None now t = refl
goes_part (Some receive) now t = refl

delivered_part : (send : Send) (now : ℕ) (t : Thread) → part (delivered send now t) ≡ part t
delivered_part send now t = by t.phase
  where
    by : (p : Phase) → part (delivered send now (record t { phase = p })) ≡ part t
    by Ready = goes_part send.receive now (record t { phase = Ready })
    by Sending = goes_part send.receive now (record t { phase = Sending })
    by (Receiving receive since) = goes_part send.receive now (record t { phase = Receiving receive since })
    by Ordering = goes_part send.receive now (record t { phase = Ordering })
    by Ended = goes_part send.receive now (record t { phase = Ended })
    by Deleted = refl

asked_part : (what : OrderKind) (t : Thread) → part (asked what t) ≡ part t
asked_part CancelSend t = refl
asked_part CancelReceive t = refl
asked_part CancelBoth t = refl
asked_part Delete t = refl

obeyed_part : (t : Thread) → (part (obeyed t)).asks ≡ false
obeyed_part t = by t.phase
  where
    by : (p : Phase) → (part (obeyed (record t { phase = p }))).asks ≡ false
    by Ready = refl
    by Sending = refl
    by (Receiving receive since) = refl
    by Ordering = refl
    by Ended = refl
    by Deleted = refl

turned_part : (o : Owed) (t : Thread) → part (turns o t) ≡ part t
turned_part o t = by t.phase
  where
    by : (p : Phase) → part (turns o (record t { phase = p })) ≡ part t
    by Ready = refl
    by Sending = refl
    by (Receiving receive since) = refl
    by Ordering = refl
    by Ended = refl
    by Deleted = refl

-- Who is ready has asked for nothing.
ready_asks : (p : Phase) (send : Option Send) (order : Option PendingOrder) → is_ready p ≡ true → Suits p send order → is_some order ≡ false
ready_asks Ready send order h s = ap is_some s.1
ready_asks Sending send order h s = cc
ready_asks (Receiving receive since) send order h s = cc
ready_asks Ordering send order h s = cc
ready_asks Ended send order h s = cc
ready_asks Deleted send order h s = cc

-- Worlds

pub opening_placed : (m : Machine) → Placed m (opening m)
opening_placed m i d p declared at has = none m.threads i at has
  where
    none : {P : Type 0} (ds : List Declaration) (i : ℕ) → slice_get (map part (map (λ x. opening_thread) ds)) i ≡ Some p → p.asks ≡ true → P
    none [] i at has = cc
    none (x ∷ ds) zero at has = let e = some_is (part opening_thread) p at in let f : false ≡ p.asks = ap (λ (q : Part). q.asks) e in cc
    none (x ∷ ds) (suc i) at has = none ds i at has

same_parts : (m : Machine) (w v : World) → parts v ≡ parts w → Placed m w → Placed m v
same_parts m w v e placed i d p declared at has = placed i d p declared (ap (λ ps. slice_get ps i) (sym e) ∙ at) has

changed_part : (f : Thread → Thread) (xs : List Thread) (i j : ℕ) (p : Part) → slice_get (map part (changed f xs i)) j ≡ Some p →
    (slice_get (map part xs) j ≡ Some p) ⊎ ((i ≡ j) × ((x : Thread) × (slice_get xs j ≡ Some x) × (part (f x) ≡ p)))
changed_part f [] i j p h = inl h
changed_part f (x ∷ xs) zero zero p h = inr (refl, (x, refl, some_is (part (f x)) p h))
changed_part f (x ∷ xs) zero (suc j) p h = inl h
changed_part f (x ∷ xs) (suc i) zero p h = inl h
changed_part f (x ∷ xs) (suc i) (suc j) p h = later (changed_part f xs i j p h)
  where
    later : (slice_get (map part xs) j ≡ Some p) ⊎ ((i ≡ j) × ((y : Thread) × (slice_get xs j ≡ Some y) × (part (f y) ≡ p))) →
        (slice_get (map part xs) j ≡ Some p) ⊎ ((suc i ≡ suc j) × ((y : Thread) × (slice_get xs j ≡ Some y) × (part (f y) ≡ p)))
    later (inl same) = inl same
    later (inr both) = inr (ap suc both.0, both.1)

-- One thread changes so that it asks for nothing, or stands at an instruction.
found_placed : (m : Machine) (w : World) (id : GlobalId) (t : Found) (f : Thread → Thread) → found m w id ≡ Some t → Placed m w →
    ((part (f t.now)).asks ≡ true → (part (f t.now)).place < length t.declared.script) → Placed m (change w t.at f)
found_placed m w id t f is placed keeps j d p declared at has = by (changed_part f w.threads t.at j p at)
  where
    by : (slice_get (map part w.threads) j ≡ Some p) ⊎ ((t.at ≡ j) × ((x : Thread) × (slice_get w.threads j ≡ Some x) × (part (f x) ≡ p))) → p.place < length d.script
    by (inl same) = placed j d p declared same has
    by (inr both) =
        let k = known m w id t is in
        let same_t : t.now ≡ both.1.0 = some_is t.now both.1.0 (sym k.now ∙ ap (slice_get w.threads) both.0 ∙ both.1.1) in
        let same_d : t.declared ≡ d = some_is t.declared d (sym k.declared ∙ ap (slice_get m.threads) both.0 ∙ declared) in
        let same_p : part (f t.now) ≡ p = ap (λ x. part (f x)) same_t ∙ both.1.2 in
        let lt = keeps (ap (λ (q : Part). q.asks) same_p ∙ has) in
        subst (λ (q : Part). q.place < length d.script) same_p (subst (λ (x : Declaration). (part (f t.now)).place < length x.script) same_d lt)

not_both : {P : Type 0} (b : Bool) → b ≡ true → b ≡ false → P
not_both b h e = cc

-- One thread changes so that it asks for nothing.
silent_placed : (m : Machine) (u : World) (i : ℕ) (f : Thread → Thread) → ((t : Thread) → (part (f t)).asks ≡ false) → Placed m u → Placed m (change u i f)
silent_placed m u i f silent placed j d p declared at has = by (changed_part f u.threads i j p at)
  where
    by : (slice_get (map part u.threads) j ≡ Some p) ⊎ ((i ≡ j) × ((x : Thread) × (slice_get u.threads j ≡ Some x) × (part (f x) ≡ p))) → p.place < length d.script
    by (inl same) = placed j d p declared same has
    by (inr both) = not_both p.asks has (ap (λ (q : Part). q.asks) (sym both.1.2) ∙ silent both.1.0)

-- A thread that is ready changes, and asks for nothing.
ready_placed : (m : Machine) (w : World) (id : GlobalId) (t : Found) (f : Thread → Thread) → WorldFacts m w → found m w id ≡ Some t → is_ready t.now.phase ≡ true → (part (f t.now)).asks ≡ (part t.now).asks →
    Placed m w → Placed m (change w t.at f)
ready_placed m w id t f facts is ready same placed =
    let k = known m w id t is in
    let here = facts.each_thread t.at t.declared t.now k.declared k.now in
    let none : is_some t.now.order ≡ false = ready_asks t.now.phase t.now.send t.now.order ready here.suits in
    found_placed m w id t f is placed (λ has. not_both ((part (f t.now)).asks) has (same ∙ none))

-- An order is given at an instruction.
order_within : (m : Machine) (t : Found) (order : PendingOrder) → steps.order_of (act m t.declared.id t.clock t.now.context (instruction t)) ≡ Some order → t.now.context.place < length t.declared.script
order_within m t order h = by (slice_get t.declared.script t.now.context.place) refl h
  where
    by : (o : Option Instr) → slice_get t.declared.script t.now.context.place ≡ o → steps.order_of (act m t.declared.id t.clock t.now.context (unwrap_or o End)) ≡ Some order →
        t.now.context.place < length t.declared.script
    by None e h = cc
    by (Some i) e h = slice_get_within t.declared.script t.now.context.place i e

kept : (m : Machine) (w v u : World) (i : ℕ) (f : Thread → Thread) → ((t : Thread) → part (f t) ≡ part t) → u.threads ≡ w.threads → change u i f ≡ v → Placed m w → Placed m v
kept m w v u i f e same is placed =
    same_parts m w v (ap parts (sym is) ∙ map-changed_same part f e u.threads i ∙ ap (map part) same) placed

pub step_placed : (m : Machine) (w v : World) (step : steps.Step) → WorldFacts m w → steps.next m w step ≡ Some v → Placed m w → Placed m v
step_placed m w v (steps.OfThread steps.Runs id) facts h placed =
    let k = local_taken m w v id h in
    subst (Placed m) k.leads_to (ready_placed m w id k.t (runs (instruction k.t)) facts k.found k.ready refl placed)
step_placed m w v (steps.OfThread steps.Waits id) facts h placed =
    let k = wait_taken m w v id h in
    subst (Placed m) k.leads_to
    (ready_placed m w id k.t (waits k.receive k.t.clock) facts k.found k.ready refl placed)
step_placed m w v (steps.OfThread (steps.Fails why) id) facts h placed =
    let k = receive_failed m w v id why h in
    let code = receive_code why in
    kept m w v w k.t.at (fails code) (fails_part code) refl k.leads_to placed
step_placed m w v (steps.OfThread steps.Obeys id) facts h placed =
    let k = obey_taken m w v id h in
    let what = k.order.what in
    let u : World = change w k.target (asked what) in
    subst (Placed m) k.leads_to
    (silent_placed m u k.t.at obeyed obeyed_part (kept m w u w k.target (asked what) (asked_part what) refl refl placed))
step_placed m w v (steps.OfSend steps.Begun s) facts h placed =
    let k = begin_taken m w v s h in
    subst (Placed m) k.leads_to (ready_placed m w s.thread k.t (begins k.send) facts k.found k.ready refl placed)
step_placed m w v (steps.OfSend steps.Queued s) facts h placed =
    subst (Placed m) (queue_taken m w v s h).leads_to placed
step_placed m w v (steps.OfSend (steps.Failed why) s) facts h placed =
    let k = send_failed m w v s why h in
    let code = send_code why in
    let u : World = unqueued w k.p.sender.at in
    kept m w v u k.p.sender.at (refused code) (refused_part code) refl k.leads_to placed
step_placed m w v (steps.OfSend steps.Dropped s) facts h placed =
    let k = drop_taken m w v s h in
    kept m w v (unqueued w k.p.sender.at) k.p.sender.at decided (λ t. refl) refl k.leads_to placed
step_placed m w v (steps.OfSend steps.Retargeted s) facts h placed =
    let k = retarget_taken m w v s h in
    kept m w v (record w { owed = others_owed w.owed s }) k.t.at (turns k.o) (turned_part k.o) refl k.leads_to placed
step_placed m w v (steps.Deliver s receiver shown actual tag words) facts h placed =
    let k = deliver_taken m w v s receiver shown actual tag words h in
    let got : World = change (unqueued w k.p.sender.at) k.r.at (receives k.p.send.message tag) in
    let sent : Thread → Thread = delivered k.p.send k.p.sender.clock in
    let gone : World = change got k.p.sender.at sent in
    subst (Placed m) k.leads_to
    (kept m got gone got k.p.sender.at sent (delivered_part k.p.send k.p.sender.clock) refl refl
    (kept m w got (unqueued w k.p.sender.at) k.r.at (receives k.p.send.message tag) (λ t. refl) refl refl placed))
step_placed m w v (steps.Order caller target what) facts h placed =
    let k = order_taken m w v caller target what h in
    subst (Placed m) k.leads_to
    (found_placed m w caller k.t (orders k.order) k.found placed (λ has. order_within m k.t k.order k.ordered))
step_placed m w v (steps.Tick cpu clock) facts h placed =
    subst (Placed m) (tick_taken m w v cpu clock h).leads_to placed

-- It stays so by a step that is possible where each finite period is over.
pub late_placed : (m : Machine) (w v : World) (step : steps.Step) → WorldFacts m w → next_late m w step ≡ Some v → Placed m w → Placed m v
late_placed m w v (steps.OfSend (steps.Failed why) s) facts h placed =
    let k = late_refused m w v s why h in
    let code = send_code why in
    let u : World = unqueued w k.p.sender.at in
    kept m w v u k.p.sender.at (refused code) (refused_part code) refl k.leads_to placed
late_placed m w v (steps.OfThread (steps.Fails why) id) facts h placed =
    let k = late_failed m w v id why h in
    let code = receive_code why in
    kept m w v w k.t.at (fails code) (fails_part code) refl k.leads_to placed
late_placed m w v (steps.Tick cpu clock) facts h placed = cc
late_placed m w v step facts h placed = step_placed m w v step facts h placed
