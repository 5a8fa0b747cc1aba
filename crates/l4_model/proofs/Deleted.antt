-- A deleted thread stays deleted, and receives nothing.
use Rattle.std.proofs.Common.{subst, ◌≡◌, ℕ, Bool, true, false, Option, Some, None, List, [], ◌∷◌, ◌++◌, refl, ap, sym, ◌∙◌, arith}
use Rattle.std.proofs.lemmas.Bool.{eqb-true}
use Rattle.std.proofs.lemmas.Bool.Decides.{nat_tests}
use Rattle.std.specs.Prelude.{slice_get, ◌==◌}
use Rattle.std.specs.List.{AllByRecursion}
use Rattle.std.specs.Option.{option_map}
use Rattle.l4_model.specs.Words.{GlobalId, Id, NilThread, AnyThread, AnyLocalThread, LocalThread, GlobalThread, same_id}
use Rattle.l4_model.specs.Machine.{Machine, OrderKind, CancelSend, CancelReceive, CancelBoth, Delete, place_of}
use Rattle.l4_model.specs.World.{World, Thread, PendingOrder, Owed, others_owed, Receive, Phase, Ready, Sending, Receiving, Ordering, Ended, Deleted, changed, change, is_ready, is_deleted, receive_now, unqueued}
use Rattle.l4_model.specs.Conditions.{Found, Pending, found, found_by}
use Rattle.l4_model.specs.Steps.{ThreadStep, Step, Deliver, Order, Obey, Tick, after_thread, next, OfThread, OfSend, Runs, Waits, Fails, Obeys, Begun, Queued, Failed, Dropped, Retargeted}
use Rattle.l4_model.specs.Rules.{receive_code, send_code}
use Rattle.l4_model.specs.Effects.{fails, decided, refused, receives as gets, delivered, asked, obeyed, turns_in, turns}
use Rattle.l4_model.specs.History.{run}
use Rattle.l4_model.specs.Laws.{undone, is_delivered_to}
use Rattle.l4_model.proofs.Chains.{bind_then, some_is, get-changed_same, get-changed_other}
use Rattle.l4_model.proofs.Inversions.{local_taken, begin_taken, queue_taken, DeliverTaken, deliver_taken, wait_taken, send_failed, drop_taken, receive_failed, order_taken, obey_taken, tick_taken, retarget_taken}
use Rattle.l4_model.proofs.Places.{same_id_is, known, receiver_place, receiver_there}

-- no thread stands at this place, or a deleted one
abbrev is_gone_thread : Option Thread → Bool
is_gone_thread None = true
is_gone_thread (Some t) = is_deleted t.phase

abbrev gone_at : World → ℕ → Bool
gone_at w j = is_gone_thread (slice_get w.threads j)

-- a change that no deleted thread notices
stays : (w : World) (i : ℕ) (f : Thread → Thread) (j : ℕ) → ((x : Thread) → slice_get w.threads i ≡ Some x → is_deleted x.phase ≡ true → is_deleted (f x).phase ≡ true) →
    gone_at w j ≡ true → gone_at (change w i f) j ≡ true
stays w i f j keep gone = by (i == j) refl
  where
    different : (i j : ℕ) → i ≡ j → (i == j) ≡ false → ⊥
    different i j same apart = grind (arith, nat_tests)

    of : (o : Option Thread) → slice_get w.threads i ≡ o → is_gone_thread o ≡ true → is_gone_thread (option_map f o) ≡ true
    of None at g = refl
    of (Some x) at g = keep x at g

    by : (b : Bool) → (i == j) ≡ b → gone_at (change w i f) j ≡ true
    by true same =
        let i_is : i ≡ j = eqb-true i j same in
        let gone_i : gone_at w i ≡ true = ap (gone_at w) i_is ∙ gone in
        ap (λ k. is_gone_thread (slice_get (changed f w.threads i) k)) (sym i_is)
        ∙ ap is_gone_thread (get-changed_same f w.threads i) ∙ of (slice_get w.threads i) refl gone_i
    by false apart = ap is_gone_thread (get-changed_other f w.threads i j (λ same. different i j same apart)) ∙ gone

ready_not_deleted : (p q : Phase) → is_ready p ≡ true → is_deleted p ≡ true → is_deleted q ≡ true
ready_not_deleted Ready q r d = cc
ready_not_deleted Sending q r d = cc
ready_not_deleted (Receiving receive since) q r d = cc
ready_not_deleted Ordering q r d = cc
ready_not_deleted Ended q r d = cc
ready_not_deleted Deleted q r d = cc

receiving_not_deleted : {P : Type 0} (p : Phase) (receive : Receive) → receive_now p ≡ Some receive → is_deleted p ≡ true → P
receiving_not_deleted Ready receive r d = cc
receiving_not_deleted Sending receive r d = cc
receiving_not_deleted (Receiving x since) receive r d = cc
receiving_not_deleted Ordering receive r d = cc
receiving_not_deleted Ended receive r d = cc
receiving_not_deleted Deleted receive r d = cc

fails_stays : (code : ℕ) (x : Thread) → is_deleted x.phase ≡ true → is_deleted (fails code x).phase ≡ true
fails_stays code x d = rw d d

delivered_stays : (p : Pending) (now : ℕ) (x : Thread) → is_deleted x.phase ≡ true → is_deleted (delivered p.send now x).phase ≡ true
delivered_stays p now x d = rw d d

obeyed_stays : (x : Thread) → is_deleted x.phase ≡ true → is_deleted (obeyed x).phase ≡ true
obeyed_stays x d = rw d d

turns_stays : (o : Owed) (x : Thread) → is_deleted x.phase ≡ true → is_deleted (turns o x).phase ≡ true
turns_stays o x d = by x.phase d
  where
    by : (p : Phase) → is_deleted p ≡ true → is_deleted (turns_in p o x).phase ≡ true
    by Ready h = d
    by Sending h = d
    by (Receiving receive since) h = cc
    by Ordering h = d
    by Ended h = d
    by Deleted h = d

asked_stays : (what : OrderKind) (x : Thread) → is_deleted x.phase ≡ true → is_deleted (asked what x).phase ≡ true
asked_stays CancelSend x d = d
asked_stays CancelReceive x d = d
asked_stays CancelBoth x d = d
asked_stays Delete x d = refl

-- the thread that was found is the one that stands there
at_now : (m : Machine) (w : World) (id : GlobalId) (t : Found) → found m w id ≡ Some t → (x : Thread) → slice_get w.threads t.at ≡ Some x → t.now ≡ x
at_now m w id t is x at = some_is t.now x (sym (known m w id t is).now ∙ at)

receiver_now : (m : Machine) (w : World) (to : Id) (r : Found) → found_by m w to ≡ Some r → (x : Thread) → slice_get w.threads r.at ≡ Some x → r.now ≡ x
receiver_now m w NilThread r is x at = cc
receiver_now m w AnyThread r is x at = cc
receiver_now m w AnyLocalThread r is x at = cc
receiver_now m w (LocalThread word) r is x at = cc
receiver_now m w (GlobalThread t) r is x at = at_now m w t r is x at

-- a ready thread was none that is deleted
ready_stays : (m : Machine) (w : World) (id : GlobalId) (t : Found) (f : Thread → Thread) (j : ℕ) → found m w id ≡ Some t → is_ready t.now.phase ≡ true → gone_at w j ≡ true → gone_at (change w t.at f) j ≡ true
ready_stays m w id t f j is ready = stays w t.at f j (λ x at d.
    let same = at_now m w id t is x at in
    ready_not_deleted x.phase (f x).phase (ap (λ (y : Thread). is_ready y.phase) (sym same) ∙ ready) d)

refusal_stays : (m : Machine) (w : World) (p : Pending) (f : Thread → Thread) (j : ℕ) → ((x : Thread) → is_deleted x.phase ≡ true → is_deleted (f x).phase ≡ true) →
    gone_at w j ≡ true → gone_at (change (unqueued w p.sender.at) p.sender.at f) j ≡ true
refusal_stays m w p f j keep gone = stays (unqueued w p.sender.at) p.sender.at f j (λ x at. keep x) gone

thread_stays : (m : Machine) (w v : World) (kind : ThreadStep) (id : GlobalId) (j : ℕ) →
    after_thread m w id kind ≡ Some v → gone_at w j ≡ true → gone_at v j ≡ true
thread_stays m w v Runs id j h gone =
    let k = local_taken m w v id h in
    subst (λ u. gone_at u j ≡ true) k.leads_to (ready_stays m w id k.t _ j k.found k.ready gone)
thread_stays m w v Waits id j h gone =
    let k = wait_taken m w v id h in
    subst (λ u. gone_at u j ≡ true) k.leads_to (ready_stays m w id k.t _ j k.found k.ready gone)
thread_stays m w v (Fails why) id j h gone =
    let k = receive_failed m w v id why h in
    subst (λ u. gone_at u j ≡ true) k.leads_to
    (stays w k.t.at (fails (receive_code why)) j (λ x at. fails_stays (receive_code why) x) gone)
thread_stays m w v Obeys id j h gone =
    let k = obey_taken m w v id h in
    subst (λ u. gone_at u j ≡ true) k.leads_to
    (stays (change w k.target (asked k.order.what)) k.t.at obeyed j (λ x at. obeyed_stays x)
    (stays w k.target (asked k.order.what) j (λ x at. asked_stays k.order.what x) gone))

step_stays : (m : Machine) (w v : World) (step : Step) (j : ℕ) → next m w step ≡ Some v → gone_at w j ≡ true → gone_at v j ≡ true
step_stays m w v (OfThread kind id) j h gone = thread_stays m w v kind id j h gone
step_stays m w v (OfSend Begun s) j h gone =
    let k = begin_taken m w v s h in
    subst (λ u. gone_at u j ≡ true) k.leads_to (ready_stays m w s.thread k.t _ j k.found k.ready gone)
step_stays m w v (OfSend Queued s) j h gone = subst (λ u. gone_at u j ≡ true) (queue_taken m w v s h).leads_to gone
step_stays m w v (OfSend (Failed why) s) j h gone =
    let k = send_failed m w v s why h in
    subst (λ u. gone_at u j ≡ true) k.leads_to
    (refusal_stays m w k.p (refused (send_code why)) j (λ x. fails_stays (send_code why) (decided x)) gone)
step_stays m w v (OfSend Dropped s) j h gone =
    let k = drop_taken m w v s h in
    subst (λ u. gone_at u j ≡ true) k.leads_to (refusal_stays m w k.p decided j (λ x d. d) gone)
step_stays m w v (OfSend Retargeted s) j h gone =
    let k = retarget_taken m w v s h in
    let u : World = record w { owed = others_owed w.owed s } in
    subst (λ u. gone_at u j ≡ true) k.leads_to (stays u k.t.at (turns k.o) j (λ x at. turns_stays k.o x) gone)
step_stays m w v (Deliver s receiver shown actual tag words) j h gone =
    let k = deliver_taken m w v s receiver shown actual tag words h in
    let g : Thread → Thread = gets k.p.send.message tag in
    subst (λ u. gone_at u j ≡ true) k.leads_to
    (stays (change (unqueued w k.p.sender.at) k.r.at g) k.p.sender.at (delivered k.p.send k.p.sender.clock) j
    (λ x at. delivered_stays k.p k.p.sender.clock x)
    (stays (unqueued w k.p.sender.at) k.r.at g j (λ x at d.
    let same = receiver_now m w k.p.send.to k.r k.to x at in
    let receiving = ap (λ (y : Thread). receive_now y.phase) (sym same) ∙ k.receiving in
    receiving_not_deleted x.phase k.receive receiving d) gone))
step_stays m w v (Order caller target what) j h gone =
    let k = order_taken m w v caller target what h in
    subst (λ u. gone_at u j ≡ true) k.leads_to (ready_stays m w caller k.t _ j k.found k.ready gone)
step_stays m w v (Tick cpu clock) j h gone =
    subst (λ u. gone_at u j ≡ true) (tick_taken m w v cpu clock h).leads_to gone

no_delivery : (m : Machine) (w v : World) (step : Step) (target : GlobalId) (j : ℕ) → next m w step ≡ Some v → place_of m target ≡ Some j → gone_at w j ≡ true → is_delivered_to target step ≡ false
no_delivery m w v (Deliver s receiver shown actual tag words) target j h place gone = by (same_id target receiver) refl
  where
    k : DeliverTaken m w v s receiver shown actual tag words
    k = deliver_taken m w v s receiver shown actual tag words h

    by : (b : Bool) → same_id target receiver ≡ b → b ≡ false
    by false differs = refl
    by true match =
        let same : target ≡ k.r.declared.id = same_id_is target receiver match ∙ same_id_is receiver k.r.declared.id k.same_receiver in
        let at : j ≡ k.r.at = some_is j k.r.at (sym place ∙ ap (place_of m) same ∙ receiver_place m w k.p.send.to k.r k.to) in
        let gone_r : is_deleted k.r.now.phase ≡ true =
        sym (ap is_gone_thread (receiver_there m w k.p.send.to k.r k.to)) ∙ ap (gone_at w) (sym at) ∙ gone in
        receiving_not_deleted k.r.now.phase k.receive k.receiving gone_r
no_delivery m w v _ target j h place gone = refl

run_no_delivery : (m : Machine) (target : GlobalId) (j : ℕ) (h : List Step) (w v : World) → run m w h ≡ Some v → place_of m target ≡ Some j → gone_at w j ≡ true →
    AllByRecursion (λ step. is_delivered_to target step ≡ false) h
run_no_delivery m target j [] w v r place gone = tt
run_no_delivery m target j (step ∷ h) w v r place gone =
    bind_then (next m w step) (λ u. run m u h) v r λ u is rest.
    (no_delivery m w u step target j is place gone, run_no_delivery m target j h u v rest place (step_stays m w u step j is gone))

-- a history is run in two parts
pub record Parted (m : Machine) (w v : World) (xs ys : List Step) : Type 0 where
  pub between : World
  pub first : run m w xs ≡ Some between
  pub second : run m between ys ≡ Some v

pub parted : (m : Machine) (xs ys : List Step) (w v : World) → run m w (xs ++ ys) ≡ Some v → Parted m w v xs ys
parted m [] ys w v r = record { between = w; first = refl; second = r }
parted m (step ∷ xs) ys w v r =
    bind_then (next m w step) (λ u. run m u (xs ++ ys)) v r λ u is rest.
    let p = parted m xs ys u v rest in
    record { between = p.between; first = rw is p.first; second = p.second }

-- the deletion itself
deletes : (m : Machine) (w v : World) (caller target : GlobalId) (j : ℕ) → next m w (Obey caller) ≡ Some v →
    undone m w caller ≡ Some (record { target = target; what = Delete }) → place_of m target ≡ Some j → gone_at v j ≡ true
deletes m w v caller target j h asks place =
    let k = obey_taken m w v caller h in
    let order : PendingOrder = record { target = target; what = Delete } in
    let is : k.order ≡ order = some_is k.order order (sym k.ordered ∙ ask_of k.t k.found) in
    let at : k.target ≡ j = some_is k.target j (sym k.target_is ∙ ap (λ (x : PendingOrder). place_of m x.target) is ∙ place) in
    subst (λ u. gone_at u j ≡ true) k.leads_to
    (stays (change w k.target (asked k.order.what)) k.t.at obeyed j (λ x at. obeyed_stays x) (now_gone k.target k.order.what at (ap (λ (x : PendingOrder). x.what) is)))
  where
    ask_of : (t : Found) → found m w caller ≡ Some t → t.now.order ≡ Some (record { target = target; what = Delete })
    ask_of t is = rw is at asks

    now_gone : (i : ℕ) (what : OrderKind) → i ≡ j → what ≡ Delete → gone_at (change w i (asked what)) j ≡ true
    now_gone i what same delete =
        rw (same, delete) (ap is_gone_thread (get-changed_same (asked Delete) w.threads j) ∙ of (slice_get w.threads j))
      where
        of : (o : Option Thread) → is_gone_thread (option_map (asked Delete) o) ≡ true
        of None = refl
        of (Some x) = refl

pub none_after_delete : (m : Machine) (before after : List Step) (caller target : GlobalId) (w v : World) → run m w (before ++ Obey caller ∷ after) ≡ Some v →
    (u : World) → run m w before ≡ Some u → undone m u caller ≡ Some (record { target = target; what = Delete }) →
    AllByRecursion (λ step. is_delivered_to target step ≡ false) after
none_after_delete m before after caller target w v r u first asks =
    let p = parted m before (Obey caller ∷ after) w v r in
    let same : p.between ≡ u = some_is p.between u (sym p.first ∙ first) in
    bind_then (next m p.between (Obey caller)) (λ x. run m x after) v p.second λ x is rest.
    let k = obey_taken m p.between x caller is in
    let asks' : undone m p.between caller ≡ Some (record { target = target; what = Delete }) = ap (λ y. undone m y caller) same ∙ asks in
    let ordered : k.t.now.order ≡ Some (record { target = target; what = Delete }) = rw k.found at asks' in
    let order_is : k.order ≡ record { target = target; what = Delete } = some_is _ _ (sym k.ordered ∙ ordered) in
    let place : place_of m target ≡ Some k.target = ap (λ (y : PendingOrder). place_of m y.target) (sym order_is) ∙ k.target_is in
    run_no_delivery m target k.target after x v rest place (deletes m p.between x caller target k.target is asks' place)
