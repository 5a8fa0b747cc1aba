-- A step by which a thread changes itself alone and begins no phase, and a step of another that does not delete it, happen in
-- either order.
use Rattle.std.proofs.Common.{subst, ◌≡◌, ℕ, zero, suc, Bool, true, false, cond, Option, Some, None, List, [], ◌∷◌, refl, ap, sym, ◌∙◌, inl, inr, ⊎_elim}
use Rattle.std.proofs.lemmas.Bool.{both_ways, eqb-true, eqb-false, eq-eqb}
use Rattle.std.specs.Prelude.{is_some, is_none, slice_get, ◌==◌, ◌&&◌, not, find, ◌⊎◌}
use Rattle.std.specs.Option.{option_map}
use Rattle.l4_model.specs.Words.{GlobalId, Id, NilThread, AnyThread, AnyLocalThread, LocalThread, GlobalThread, same_id}
use Rattle.l4_model.specs.Machine.{Machine, OrderKind, place_of}
use Rattle.l4_model.specs.World.{World, Thread, Phase, Ready, Sending, Receiving, Ordering, Ended, Deleted, Name, Send, Receive, PendingOrder, Owed, change, changed, queued, unqueued, others_owed, must_wait, is_alive, is_deleted, is_sending, receive_now, list_at}
use Rattle.l4_model.specs.Rules.{Failure, TimeOver, NobodyThere, CancelAsked, receive_code, send_code, owed_by}
use Rattle.l4_model.specs.Effects.{runs, begins, waits, fails, decided, refused, receives, delivered, asked, orders, obeyed, turns_in, turns, has_receive_phase}
use Rattle.l4_model.specs.Conditions.{Found, found, found_by, Pending, undecided, receiver_of, instruction, shows_accepted, first_accepted, is_gone, is_nobody, is_no_destination, is_refusable, may_still_accept, is_waiting}
use Rattle.l4_model.specs.Steps.{Step, Queue, Deliver, Order, Tick, owing, without_send, OfThread, OfSend, Runs, Waits, Fails, Obeys, Begun, Queued, Failed, Dropped, Retargeted}
use Rattle.l4_model.proofs.Chains.{some_is, get-changed_same, get-changed_other}
use Rattle.l4_model.proofs.Inversions.{local_taken, begin_taken, queue_taken, deliver_taken, wait_taken, drop_taken, order_taken, obey_taken, retarget_taken}
use Rattle.l4_model.proofs.Places.{known, known_send, sender_found, one_place}
use Rattle.l4_first.specs.First.{is_next_of, is_delete, order_deletes, deletes_now, AreExchanged}
use Rattle.l4_worlds.specs.Late.{may_refuse_late, may_fail_late, next_late}
use Rattle.l4_worlds.proofs.Taken.{late_refused, late_failed}
use Rattle.l4_first.proofs.Alone.{known_found, same_found, changes_swap, change_leaves, LeavesAlone, elsewhere, asked_nothing}
use Rattle.l4_first.proofs.Own.{same_is}

-- A phase in which a thread neither sends nor receives, and is not deleted.
abbrev pub is_still_phase : Phase → Bool
is_still_phase Ready = true
is_still_phase Ended = true
is_still_phase Ordering = true
is_still_phase _ = false

-- A thread that is ready, with nothing undone, whose next step changes it alone and begins no phase.
pub record IsQuiet (m : Machine) (w : World) (id : GlobalId) (t : Found) (f : Thread → Thread) (own : Step) : Type 0 where
  pub found : found m w id ≡ Some t
  pub ready : t.now.phase ≡ Ready
  pub no_send : t.now.send ≡ None
  pub no_order : t.now.order ≡ None
  pub phase : is_still_phase (f t.now).phase ≡ true
  pub send : (x : Thread) → (f x).send ≡ x.send
  pub possible : (b : World) → slice_get b.threads t.at ≡ Some t.now → next_late m b own ≡ Some (change b t.at f)

still_not_deleted : (p : Phase) → is_still_phase p ≡ true → is_deleted p ≡ false
still_not_deleted Ready h = refl
still_not_deleted Sending h = cc
still_not_deleted (Receiving receive since) h = cc
still_not_deleted Ordering h = refl
still_not_deleted Ended h = refl
still_not_deleted Deleted h = cc

still_refuses : (m : Machine) (r : Found) (shown : GlobalId) (p : Phase) → is_still_phase p ≡ true → (is_alive p && not (may_still_accept m r shown p)) ≡ true
still_refuses m r shown Ready h = refl
still_refuses m r shown Sending h = cc
still_refuses m r shown (Receiving receive since) h = cc
still_refuses m r shown Ordering h = refl
still_refuses m r shown Ended h = refl
still_refuses m r shown Deleted h = cc

still_sends_nothing : (p : Phase) → is_still_phase p ≡ true → is_sending p ≡ false
still_sends_nothing Ready h = refl
still_sends_nothing Sending h = cc
still_sends_nothing (Receiving receive since) h = cc
still_sends_nothing Ordering h = refl
still_sends_nothing Ended h = refl
still_sends_nothing Deleted h = cc

still_has_none : (p : Phase) (send : Option Send) → is_still_phase p ≡ true → has_receive_phase p send ≡ false
still_has_none Ready send h = refl
still_has_none Sending send h = cc
still_has_none (Receiving receive since) send h = cc
still_has_none Ordering send h = refl
still_has_none Ended send h = refl
still_has_none Deleted send h = cc

still_turns : (o : Owed) (x : Thread) → is_still_phase x.phase ≡ true → turns o x ≡ x
still_turns o x h = by x.phase h
  where
    by : (p : Phase) → is_still_phase p ≡ true → turns_in p o x ≡ x
    by Ready h = refl
    by Sending h = cc
    by (Receiving receive since) h = cc
    by Ordering h = refl
    by Ended h = refl
    by Deleted h = cc

still_asked : (what : OrderKind) (x : Thread) → is_delete what ≡ false → is_still_phase x.phase ≡ true → asked what x ≡ x
still_asked what x spares still = asked_nothing what x spares (still_sends_nothing x.phase still) (still_has_none x.phase x.send still)

shows_same : (m : Machine) (from : Id) (receiver : GlobalId) (f : Thread → Thread) → ((x : Thread) → (f x).send ≡ x.send) → (xs : List Thread) (j i : ℕ) →
    shows_accepted m from receiver (slice_get (changed f xs j) i) ≡ shows_accepted m from receiver (slice_get xs i)
shows_same m from receiver f e [] j i = refl
shows_same m from receiver f e (x ∷ xs) zero zero = rw (e x) refl
shows_same m from receiver f e (x ∷ xs) zero (suc i) = refl
shows_same m from receiver f e (x ∷ xs) (suc j) zero = refl
shows_same m from receiver f e (x ∷ xs) (suc j) (suc i) = shows_same m from receiver f e xs j i

find_same : (p q : ℕ → Bool) → ((i : ℕ) → p i ≡ q i) → (xs : List ℕ) → find p xs ≡ find q xs
find_same p q e [] = refl
find_same p q e (x ∷ xs) = rw (e x) (ap (λ rest. cond (q x) (Some x) rest) (find_same p q e xs))

module _ (m : Machine) (w : World) (id : GlobalId) (t : Found) (f : Thread → Thread) (own : Step) (is_quiet : IsQuiet m w id t f own) where
  there : slice_get w.threads t.at ≡ Some t.now
  there = (known m w id t is_quiet.found).now

  ready_still : is_still_phase t.now.phase ≡ true
  ready_still = ap is_still_phase is_quiet.ready

  -- Another than it is found as before.
  found_same : (x : GlobalId) (u : Found) → found m w x ≡ Some u → (t.at ≡ u.at → ⊥) → found m (change w t.at f) x ≡ Some u
  found_same x u is other =
      let k = known m w x u is in
      known_found m (change w t.at f) x u (record { place = k.place; declared = k.declared; now = get-changed_other f w.threads t.at u.at other ∙ k.now; clock = k.clock })

  found_self : found m (change w t.at f) id ≡ Some (record t { now = f t.now })
  found_self =
      let k = known m w id t is_quiet.found in
      known_found m (change w t.at f) id (record t { now = f t.now })
      (record { place = k.place; declared = k.declared; now = get-changed_same f w.threads t.at ∙ ap (option_map f) k.now; clock = k.clock })

  at_self : (x : GlobalId) (u : Found) → found m w x ≡ Some u → t.at ≡ u.at → (x ≡ id) × (u ≡ t)
  at_self x u is same = same_found m w id x t u is_quiet.found is (sym same)

  apart : (x : GlobalId) (u : Found) → found m w x ≡ Some u → same_id x id ≡ false → t.at ≡ u.at → ⊥
  apart x u is differs same = both_ways (same_id x id) differs (same_is x id (at_self x u is same).0)

  seen : (to : Id) → (found_by m (change w t.at f) to ≡ found_by m w to) ⊎ ((found_by m w to ≡ Some t) × (found_by m (change w t.at f) to ≡ Some (record t { now = f t.now })))
  seen NilThread = inl refl
  seen AnyThread = inl refl
  seen AnyLocalThread = inl refl
  seen (LocalThread word) = inl refl
  seen (GlobalThread x) = by (place_of m x) refl
    where
      at : (i : ℕ) (b : Bool) → place_of m x ≡ Some i → (t.at == i) ≡ b → (found m (change w t.at f) x ≡ found m w x) ⊎ ((found m w x ≡ Some t) × (found m (change w t.at f) x ≡ Some (record t { now = f t.now })))
      at i true named same =
          let one : x ≡ id = one_place m x id t.at (named ∙ ap (λ j. Some j) (sym (eqb-true t.at i same))) (known m w id t is_quiet.found).place in
          inr (ap (found m w) one ∙ is_quiet.found, ap (found m (change w t.at f)) one ∙ found_self)
      at i false named other = inl (rw (named, get-changed_other f w.threads t.at i (eqb-false t.at i other)) refl)

      by : (place : Option ℕ) → place_of m x ≡ place → (found m (change w t.at f) x ≡ found m w x) ⊎ ((found m w x ≡ Some t) × (found m (change w t.at f) x ≡ Some (record t { now = f t.now })))
      by None named = inl (rw named refl)
      by (Some i) named = at i (t.at == i) named refl

  gone_same : (to : Id) → is_gone (found_by m (change w t.at f) to) ≡ is_gone (found_by m w to)
  gone_same to =
      ⊎_elim
      (λ same. ap is_gone same)
      (λ both. ap is_gone both.1 ∙ still_not_deleted (f t.now).phase is_quiet.phase ∙ sym (ap is_gone both.0 ∙ ap is_deleted is_quiet.ready))
      (seen to)

  nobody_same : (to : Id) → is_nobody to (found_by m (change w t.at f) to) ≡ is_nobody to (found_by m w to)
  nobody_same NilThread = refl
  nobody_same AnyThread = refl
  nobody_same AnyLocalThread = refl
  nobody_same (LocalThread word) = refl
  nobody_same (GlobalThread x) = gone_same (GlobalThread x)

  no_destination_same : (to : Id) → is_no_destination to (found_by m (change w t.at f) to) ≡ is_no_destination to (found_by m w to)
  no_destination_same NilThread = refl
  no_destination_same AnyThread = refl
  no_destination_same AnyLocalThread = refl
  no_destination_same (LocalThread word) = refl
  no_destination_same (GlobalThread x) = gone_same (GlobalThread x)

  first_same : (r : Found) (from : Id) → first_accepted m (change w t.at f) r from ≡ first_accepted m w r from
  first_same r from =
      find_same (λ i. shows_accepted m from r.declared.id (slice_get (changed f w.threads t.at) i)) (λ i. shows_accepted m from r.declared.id (slice_get w.threads i))
      (λ i. shows_same m from r.declared.id f is_quiet.send w.threads t.at i) (list_at w.waiting r.at)

  refusable_same : (send : Send) → is_refusable m send (found_by m (change w t.at f) send.to) ≡ is_refusable m send (found_by m w send.to)
  refusable_same send =
      ⊎_elim
      (λ same. ap (is_refusable m send) same)
      (λ both.
      ap (is_refusable m send) both.1
      ∙ still_refuses m (record t { now = f t.now }) send.message.shown (f t.now).phase is_quiet.phase
      ∙ sym (ap (is_refusable m send) both.0 ∙ still_refuses m t send.message.shown t.now.phase ready_still))
      (seen send.to)

  sender_other : (s : Name) (p : Pending) → undecided m w s ≡ Some p → t.at ≡ p.sender.at → ⊥
  sender_other s p is same =
      let one : p.sender ≡ t = (at_self s.thread p.sender (sender_found m w s p is) same).1 in
      let none : p.sender.now.send ≡ None = ap (λ (x : Found). x.now.send) one ∙ is_quiet.no_send in
      no_send p.sender.now.send p.send none (known_send m w s p is).send
    where
      no_send : (o : Option Send) (send : Send) → o ≡ None → o ≡ Some send → ⊥
      no_send o send e f = cc

  undecided_same : (s : Name) (p : Pending) → undecided m w s ≡ Some p → undecided m (change w t.at f) s ≡ Some p
  undecided_same s p is =
      let k = known_send m w s p is in
      let sender : found m (change w t.at f) s.thread ≡ Some p.sender = found_same s.thread p.sender (sender_found m w s p is) (sender_other s p is) in
      let last : (p.sender.now.context.begun == s.k) ≡ true = eq-eqb p.sender.now.context.begun s.k k.last in
      rw (sender, last, k.send) refl

  receiver_other : (x : GlobalId) (u : Found) (receive : Receive) → found m w x ≡ Some u → receive_now u.now.phase ≡ Some receive → t.at ≡ u.at → ⊥
  receiver_other x u receive is receiving same =
      let one : u ≡ t = (at_self x u is same).1 in
      no_receive u.now.phase receive (ap (λ (y : Found). y.now.phase) one ∙ is_quiet.ready) receiving
    where
      no_receive : (p : Phase) (receive : Receive) → p ≡ Ready → receive_now p ≡ Some receive → ⊥
      no_receive p receive e f = let none : receive_now p ≡ None = ap receive_now e in cc

  -- What may fail may fail as before.

  may_fail_same : (u : Found) (receive : Receive) (why : Failure) →
      may_fail_late m (change w t.at f) u receive why ≡ may_fail_late m w u receive why
  may_fail_same u receive TimeOver = ap (λ o. is_some receive.period && is_none o) (first_same u receive.from)
  may_fail_same u receive NobodyThere =
      let from = receive.from in
      ap (λ b. b && is_none (first_accepted m (change w t.at f) u from)) (nobody_same from)
      ∙ ap (λ o. is_nobody from (found_by m w from) && is_none o) (first_same u from)
  may_fail_same u receive CancelAsked = refl

  may_refuse_same : (s : Name) (p : Pending) (why : Failure) →
      may_refuse_late m (change w t.at f) s p why ≡ may_refuse_late m w s p why
  may_refuse_same s p TimeOver = rw (refusable_same p.send) refl
  may_refuse_same s p NobodyThere =
      ap (λ b. b && not (must_wait w.owed s.thread p.send.to)) (no_destination_same p.send.to)
  may_refuse_same s p CancelAsked = refl

  -- Steps that change one other thread, or two

  meets : (b : World) (s : Step) → slice_get b.threads t.at ≡ Some t.now → next_late m (change w t.at f) s ≡ Some (change b t.at f) → AreExchanged m (change w t.at f) b own s
  meets b s at is = record { meet = change b t.at f; step_second = is; own_second = is_quiet.possible b at }

  one_leaves : (u : World) (s : Step) (j : ℕ) (g : Thread → Thread) → slice_get u.threads t.at ≡ Some t.now → LeavesAlone f g t.at j t.now →
      next_late m (change w t.at f) s ≡ Some (change (change u t.at f) j g) → AreExchanged m (change w t.at f) (change u j g) own s
  one_leaves u s j g at leaves is =
      meets (change u j g) s (change_leaves f g u.threads t.at j t.now at leaves)
      (is ∙ ap (λ ts. Some (record u { threads = ts })) (changes_swap f g u.threads t.at j t.now at leaves))

  one_meets : (u : World) (s : Step) (j : ℕ) (g : Thread → Thread) → slice_get u.threads t.at ≡ Some t.now → (t.at ≡ j → ⊥) →
      next_late m (change w t.at f) s ≡ Some (change (change u t.at f) j g) → AreExchanged m (change w t.at f) (change u j g) own s
  one_meets u s j g at other is = one_leaves u s j g at (elsewhere f g t.at j t.now other) is

  two_meet : (u : World) (s : Step) (j k : ℕ) (g h : Thread → Thread) → slice_get u.threads t.at ≡ Some t.now → LeavesAlone f g t.at j t.now → (t.at ≡ k → ⊥) →
      next_late m (change w t.at f) s ≡ Some (change (change (change u t.at f) j g) k h) → AreExchanged m (change w t.at f) (change (change u j g) k h) own s
  two_meet u s j k g h at leaves two is =
      one_meets (change u j g) s k h (change_leaves f g u.threads t.at j t.now at leaves) two
      (is ∙ ap (λ ts. Some (change (record u { threads = ts }) k h)) (changes_swap f g u.threads t.at j t.now at leaves))

  send_meets : (s : Name) (p : Pending) (step : Step) (g : Thread → Thread) → undecided m w s ≡ Some p → next_late m (change w t.at f) step ≡ Some (without_send (change w t.at f) p g) →
      AreExchanged m (change w t.at f) (without_send w p g) own step
  send_meets s p step g is h = one_meets (unqueued w p.sender.at) step p.sender.at g there (sender_other s p is) h

  queued_same : (p : Pending) (r : Found) → receiver_of m w p ≡ Some r → is_alive r.now.phase ≡ true → (s : Name) → undecided m w s ≡ Some p →
      (not (is_waiting w p)) ≡ true → (not (must_wait w.owed s.thread p.send.to)) ≡ true → next_late m (change w t.at f) (Queue s) ≡ Some (change (queued w r.at p.sender.at) t.at f)
  queued_same p r to alive s is in_no_list free =
      ⊎_elim
      (λ same.
      let there_too : found_by m (change w t.at f) p.send.to ≡ Some r = same ∙ to in
      rw (undecided_same s p is, there_too, alive, in_no_list, free) refl)
      (λ both.
      let one : t ≡ r = some_is t r (sym both.0 ∙ to) in
      let still : is_alive (f t.now).phase ≡ true = ap not (still_not_deleted (f t.now).phase is_quiet.phase) in
      rw (undecided_same s p is, both.1, still, in_no_list, free) (ap (λ (x : Found). Some (change (queued w x.at p.sender.at) t.at f)) one))
      (seen p.send.to)

  to_other : (to : Id) (r : Found) (receive : Receive) → found_by m w to ≡ Some r → receive_now r.now.phase ≡ Some receive → (t.at ≡ r.at → ⊥) × (found_by m (change w t.at f) to ≡ Some r)
  to_other NilThread r receive is receiving = cc
  to_other AnyThread r receive is receiving = cc
  to_other AnyLocalThread r receive is receiving = cc
  to_other (LocalThread word) r receive is receiving = cc
  to_other (GlobalThread x) r receive is receiving =
      let other : t.at ≡ r.at → ⊥ = receiver_other x r receive is receiving in
      (other, found_same x r is other)

  caller_other : (x : GlobalId) (u : Found) (order : PendingOrder) → found m w x ≡ Some u → u.now.order ≡ Some order → t.at ≡ u.at → ⊥
  caller_other x u order is has same =
      let one : u ≡ t = (at_self x u is same).1 in
      no_order u.now.order order (ap (λ (y : Found). y.now.order) one ∙ is_quiet.no_order) has
    where
      no_order : (o : Option PendingOrder) (order : PendingOrder) → o ≡ None → o ≡ Some order → ⊥
      no_order o order e f = cc

  -- All of them

  pub exchanged : (b : World) (s : Step) → next_late m w s ≡ Some b → is_next_of id s ≡ false → deletes_now m w id s ≡ false → AreExchanged m (change w t.at f) b own s
  exchanged b (OfThread Runs x) h other calm =
      let k = local_taken m w b x h in
      let differs = apart x k.t k.found other in
      subst (λ b. AreExchanged m (change w t.at f) b own (OfThread Runs x)) k.leads_to
      (one_meets w (OfThread Runs x) k.t.at (runs (instruction k.t)) there differs (rw (found_same x k.t k.found differs, k.ready, k.alone) refl))
  exchanged b (OfSend Begun s) h other calm =
      let k = begin_taken m w b s h in
      let differs = apart s.thread k.t k.found other in
      subst (λ b. AreExchanged m (change w t.at f) b own (OfSend Begun s)) k.leads_to
      (one_meets w (OfSend Begun s) k.t.at (begins k.send) there differs (rw (found_same s.thread k.t k.found differs, k.ready, k.next_k, k.sends) refl))
  exchanged b (OfSend Queued s) h other calm =
      let k = queue_taken m w b s h in
      subst (λ b. AreExchanged m (change w t.at f) b own (OfSend Queued s)) k.leads_to
      (meets (queued w k.r.at k.p.sender.at) (OfSend Queued s) there (queued_same k.p k.r k.to k.alive s k.is_undecided k.in_no_list k.free))
  exchanged b (Deliver s receiver shown actual tag words) h other calm =
      let k = deliver_taken m w b s receiver shown actual tag words h in
      let to = to_other k.p.send.to k.r k.receive k.to k.receiving in
      let u : World = owing (owed_by m s k.p.send.message receiver) (unqueued w k.p.sender.at) in
      subst (λ b. AreExchanged m (change w t.at f) b own (Deliver s receiver shown actual tag words)) k.leads_to
      (two_meet u (Deliver s receiver shown actual tag words) k.r.at k.p.sender.at (receives k.p.send.message tag) (delivered k.p.send k.p.sender.clock) there
      (elsewhere f (receives k.p.send.message tag) t.at k.r.at t.now to.0) (sender_other s k.p k.is_undecided)
      (rw (undecided_same s k.p k.is_undecided, to.1, k.receiving, first_same k.r k.receive.from, k.first_is, k.is_first, k.same_receiver, k.same_shown, k.same_actual, k.same_tag, k.same_words) refl))
  exchanged b (OfThread Waits x) h other calm =
      let k = wait_taken m w b x h in
      let differs = apart x k.t k.found other in
      subst (λ b. AreExchanged m (change w t.at f) b own (OfThread Waits x)) k.leads_to
      (one_meets w (OfThread Waits x) k.t.at (waits k.receive k.t.clock) there differs (rw (found_same x k.t k.found differs, k.ready, k.receiving) refl))
  exchanged b (OfSend (Failed why) s) h other calm =
      let k = late_refused m w b s why h in
      let step : Step = OfSend (Failed why) s in
      subst (λ b. AreExchanged m (change w t.at f) b own step) k.leads_to
      (send_meets s k.p step (refused (send_code why)) k.is_undecided
      (rw (undecided_same s k.p k.is_undecided, may_refuse_same s k.p why, k.may) refl))
  exchanged b (OfThread (Fails why) x) h other calm =
      let k = late_failed m w b x why h in
      let step : Step = OfThread (Fails why) x in
      let differs = receiver_other x k.t k.receive k.found k.receiving in
      subst (λ b. AreExchanged m (change w t.at f) b own step) k.leads_to
      (one_meets w step k.t.at (fails (receive_code why)) there differs
      (rw (found_same x k.t k.found differs, k.receiving, may_fail_same k.t k.receive why, k.may) refl))
  exchanged b (OfSend Dropped s) h other calm =
      let k = drop_taken m w b s h in
      subst (λ b. AreExchanged m (change w t.at f) b own (OfSend Dropped s)) k.leads_to
      (send_meets s k.p (OfSend Dropped s) decided k.is_undecided (rw (undecided_same s k.p k.is_undecided, k.in_list, k.gone) refl))
  exchanged b (Order caller target what) h other calm =
      let k = order_taken m w b caller target what h in
      let differs = apart caller k.t k.found other in
      subst (λ b. AreExchanged m (change w t.at f) b own (Order caller target what)) k.leads_to
      (one_meets w (Order caller target what) k.t.at (orders k.order) there differs (rw (found_same caller k.t k.found differs, k.ready, k.ordered, k.same_order) refl))
  exchanged b (OfThread Obeys caller) h other calm =
      let k = obey_taken m w b caller h in
      let differs = caller_other caller k.t k.order k.found k.ordered in
      let not_deleted : order_deletes id (Some k.order) ≡ false = rw (k.found, k.ordered) at calm in
      let asked_leaves : LeavesAlone f (asked k.order.what) t.at k.target t.now =
      λ same.
      let one : k.order.target ≡ id = one_place m k.order.target id t.at (k.target_is ∙ ap (λ i. Some i) (sym same)) (known m w id t is_quiet.found).place in
      let spares = no_delete k.order.target id k.order.what one not_deleted in
      (still_asked k.order.what t.now spares ready_still, still_asked k.order.what (f t.now) spares is_quiet.phase) in
      subst (λ b. AreExchanged m (change w t.at f) b own (OfThread Obeys caller)) k.leads_to
      (two_meet w (OfThread Obeys caller) k.target k.t.at (asked k.order.what) obeyed there asked_leaves differs (rw (found_same caller k.t k.found differs, k.ordered, k.target_is) refl))
    where
      no_delete : (x y : GlobalId) (what : OrderKind) → x ≡ y → (same_id x y && is_delete what) ≡ false → is_delete what ≡ false
      no_delete x y what e h = sym (ap (λ b. b && is_delete what) (same_is x y e)) ∙ h
  exchanged b (Tick cpu now) h other calm = cc
  exchanged b (OfSend Retargeted s) h other calm =
      let k = retarget_taken m w b s h in
      let u : World = record w { owed = others_owed w.owed s } in
      let leaves : LeavesAlone f (turns k.o) t.at k.t.at t.now = λ same. (still_turns k.o t.now ready_still, still_turns k.o (f t.now) is_quiet.phase) in
      subst (λ b. AreExchanged m (change w t.at f) b own (OfSend Retargeted s)) k.leads_to
      (one_leaves u (OfSend Retargeted s) k.t.at (turns k.o) there leaves
      (⊎_elim
      (λ same.
      let there_too : found m (change w t.at f) k.o.originator ≡ Some k.t = same ∙ k.found in
      rw (k.is_owed, there_too) refl)
      (λ both.
      let one : t ≡ k.t = some_is t k.t (sym both.0 ∙ k.found) in
      rw (k.is_owed, both.1) (ap (λ (x : Found). Some (change (change u t.at f) x.at (turns k.o))) one))
      (seen (GlobalThread k.o.originator))))
