-- A step by which a thread begins a send or a receive phase, and a step of another that does not disturb it, happen in either
-- order.
use Rattle.std.proofs.Common.{subst, ◌≡◌, ℕ, Bool, true, false, cond, Option, Some, None, List, [], ◌∷◌, refl, ap, sym, ◌∙◌, inl, inr, ⊎_elim}
use Rattle.std.proofs.lemmas.Bool.{both_ways, eqb-true, eqb-false, eq-eqb}
use Rattle.std.specs.Prelude.{is_none, is_some, slice_get, slice_index, ◌==◌, ◌&&◌, ◌||◌, not, find, ◌⊎◌}
use Rattle.std.specs.Option.{option_map}
use Rattle.l4_model.specs.Words.{GlobalId, Id, NilThread, AnyThread, AnyLocalThread, LocalThread, GlobalThread, same_id, is_id_of}
use Rattle.l4_model.specs.Machine.{Machine, place_of}
use Rattle.l4_model.specs.World.{World, Thread, Phase, Ready, Name, Send, Receive, PendingOrder, change, changed, queued, unqueued, others_owed, must_wait, is_alive, is_deleted, receive_now, is_in, list_at}
use Rattle.l4_model.specs.Rules.{Failure, TimeOver, NobodyThere, CancelAsked, receive_code, send_code, owed_by}
use Rattle.l4_model.specs.Effects.{runs, begins, waits, fails, decided, refused, receives, delivered, asked, orders, obeyed, turns}
use Rattle.l4_model.specs.Conditions.{Found, found, found_by, Pending, undecided, receiver_of, instruction, shows_accepted, first_accepted, is_gone, is_nobody, is_no_destination, is_refusable, is_waiting, is_zero}
use Rattle.l4_model.specs.Steps.{Step, Queue, Deliver, Order, Tick, owing, without_send, OfThread, OfSend, Runs, Waits, Fails, Obeys, Begun, Queued, Failed, Dropped, Retargeted}
use Rattle.l4_model.proofs.Chains.{some_is, get-changed_same, get-changed_other}
use Rattle.l4_model.proofs.Inversions.{local_taken, begin_taken, queue_taken, deliver_taken, wait_taken, drop_taken, order_taken, obey_taken, retarget_taken}
use Rattle.l4_model.proofs.Places.{known, known_send, sender_found, one_place, eqb_same}
use Rattle.l4_first.specs.First.{is_next_of, is_zero_send_to, disturbs, AreExchanged}
use Rattle.l4_worlds.specs.Late.{may_refuse_late, may_fail_late, next_late, may_time_out}
use Rattle.l4_worlds.proofs.Taken.{late_refused, late_failed}
use Rattle.l4_first.proofs.Alone.{known_found, same_found, changes_swap, change_leaves, elsewhere}

-- A thread that is ready, with nothing undone, in no list, and whose next step changes it alone.
pub record IsOwn (m : Machine) (w : World) (id : GlobalId) (t : Found) (f : Thread → Thread) (own : Step) : Type 0 where
  pub found : found m w id ≡ Some t
  pub ready : t.now.phase ≡ Ready
  pub no_send : t.now.send ≡ None
  pub no_order : t.now.order ≡ None
  pub unlisted : (j : ℕ) → is_in t.at (list_at w.waiting j) ≡ false
  pub alive : is_deleted (f t.now).phase ≡ false
  pub possible : (b : World) → slice_get b.threads t.at ≡ Some t.now → slice_index b.clocks t.declared.cpu ≡ t.clock → next_late m b own ≡ Some (change b t.at f)

pub same_is : (x y : GlobalId) → x ≡ y → same_id x y ≡ true
same_is x y e = rw e (rw (eqb_same y.number, eqb_same y.version) refl)

-- Whom a receive phase takes first hangs on the sends of those who wait.
shows_other : (m : Machine) (from : Id) (receiver : GlobalId) (f : Thread → Thread) (xs : List Thread) (j i : ℕ) → (j ≡ i → ⊥) →
    shows_accepted m from receiver (slice_get (changed f xs j) i) ≡ shows_accepted m from receiver (slice_get xs i)
shows_other m from receiver f xs j i other = ap (shows_accepted m from receiver) (get-changed_other f xs j i other)

find_within : (p q : ℕ → Bool) (n : ℕ) → ((i : ℕ) → (n ≡ i → ⊥) → p i ≡ q i) → (xs : List ℕ) → is_in n xs ≡ false → find p xs ≡ find q xs
find_within p q n e [] out = refl
find_within p q n e (x ∷ xs) out =
    let parts = or_none (n == x) (is_in n xs) out in
    rw (e x (eqb-false n x parts.0)) (ap (λ rest. cond (q x) (Some x) rest) (find_within p q n e xs parts.1))
  where
    or_none : (a b : Bool) → (a || b) ≡ false → (a ≡ false) × (b ≡ false)
    or_none true b h = cc
    or_none false b h = (refl, h)

module _ (m : Machine) (w : World) (id : GlobalId) (t : Found) (f : Thread → Thread) (own : Step) (is_own : IsOwn m w id t f own) where
  there : slice_get w.threads t.at ≡ Some t.now
  there = (known m w id t is_own.found).now

  clock : slice_index w.clocks t.declared.cpu ≡ t.clock
  clock = sym (known m w id t is_own.found).clock

  -- Another than it is found as before.
  found_same : (x : GlobalId) (u : Found) → found m w x ≡ Some u → (t.at ≡ u.at → ⊥) → found m (change w t.at f) x ≡ Some u
  found_same x u is other =
      let k = known m w x u is in
      known_found m (change w t.at f) x u (record { place = k.place; declared = k.declared; now = get-changed_other f w.threads t.at u.at other ∙ k.now; clock = k.clock })

  found_self : found m (change w t.at f) id ≡ Some (record t { now = f t.now })
  found_self =
      let k = known m w id t is_own.found in
      known_found m (change w t.at f) id (record t { now = f t.now })
      (record { place = k.place; declared = k.declared; now = get-changed_same f w.threads t.at ∙ ap (option_map f) k.now; clock = k.clock })

  at_self : (x : GlobalId) (u : Found) → found m w x ≡ Some u → t.at ≡ u.at → (x ≡ id) × (u ≡ t)
  at_self x u is same = same_found m w id x t u is_own.found is (sym same)

  apart : (x : GlobalId) (u : Found) → found m w x ≡ Some u → same_id x id ≡ false → t.at ≡ u.at → ⊥
  apart x u is differs same = both_ways (same_id x id) differs (same_is x id (at_self x u is same).0)

  seen : (to : Id) → (found_by m (change w t.at f) to ≡ found_by m w to) ⊎ ((found_by m w to ≡ Some t) × (found_by m (change w t.at f) to ≡ Some (record t { now = f t.now })))
  seen NilThread = inl refl
  seen AnyThread = inl refl
  seen AnyLocalThread = inl refl
  seen (LocalThread word) = inl refl
  seen (GlobalThread x) = by (place_of m x) refl
    where
      at : (i : ℕ) (b : Bool) → place_of m x ≡ Some i → (t.at == i) ≡ b → (found m (change w t.at f) x ≡ found m w x) ⊎ ((found m w x ≡ Some t) × (found m (change w t.at f) x ≡ Some (record t { now = f t.now })))
      at i true named same =
          let one : x ≡ id = one_place m x id t.at (named ∙ ap (λ j. Some j) (sym (eqb-true t.at i same))) (known m w id t is_own.found).place in
          inr (ap (found m w) one ∙ is_own.found, ap (found m (change w t.at f)) one ∙ found_self)
      at i false named other = inl (rw (named, get-changed_other f w.threads t.at i (eqb-false t.at i other)) refl)

      by : (place : Option ℕ) → place_of m x ≡ place → (found m (change w t.at f) x ≡ found m w x) ⊎ ((found m w x ≡ Some t) × (found m (change w t.at f) x ≡ Some (record t { now = f t.now })))
      by None named = inl (rw named refl)
      by (Some i) named = at i (t.at == i) named refl

  -- Somebody else, where the id is not its own.
  seen_other : (to : Id) → is_id_of to id ≡ false → found_by m (change w t.at f) to ≡ found_by m w to
  seen_other NilThread h = refl
  seen_other AnyThread h = refl
  seen_other AnyLocalThread h = refl
  seen_other (LocalThread word) h = refl
  seen_other (GlobalThread x) h = ⊎_elim (λ same. same) (λ both. absurd (is_other both.0)) (seen (GlobalThread x))
    where
      is_other : found m w x ≡ Some t → ⊥
      is_other is = apart x t is h refl

  gone_same : (to : Id) → is_gone (found_by m (change w t.at f) to) ≡ is_gone (found_by m w to)
  gone_same to =
      ⊎_elim
      (λ same. ap is_gone same)
      (λ both. ap is_gone both.1 ∙ is_own.alive ∙ sym (ap is_gone both.0 ∙ ap is_deleted is_own.ready))
      (seen to)

  nobody_same : (to : Id) → is_nobody to (found_by m (change w t.at f) to) ≡ is_nobody to (found_by m w to)
  nobody_same NilThread = refl
  nobody_same AnyThread = refl
  nobody_same AnyLocalThread = refl
  nobody_same (LocalThread word) = refl
  nobody_same (GlobalThread x) = gone_same (GlobalThread x)

  no_destination_same : (to : Id) → is_no_destination to (found_by m (change w t.at f) to) ≡ is_no_destination to (found_by m w to)
  no_destination_same NilThread = refl
  no_destination_same AnyThread = refl
  no_destination_same AnyLocalThread = refl
  no_destination_same (LocalThread word) = refl
  no_destination_same (GlobalThread x) = gone_same (GlobalThread x)

  first_same : (r : Found) (from : Id) → first_accepted m (change w t.at f) r from ≡ first_accepted m w r from
  first_same r from =
      find_within (λ i. shows_accepted m from r.declared.id (slice_get (changed f w.threads t.at) i)) (λ i. shows_accepted m from r.declared.id (slice_get w.threads i)) t.at
      (λ i other. shows_other m from r.declared.id f w.threads t.at i other) (list_at w.waiting r.at) (is_own.unlisted r.at)

  sender_other : (s : Name) (p : Pending) → undecided m w s ≡ Some p → t.at ≡ p.sender.at → ⊥
  sender_other s p is same =
      let one : p.sender ≡ t = (at_self s.thread p.sender (sender_found m w s p is) same).1 in
      let none : p.sender.now.send ≡ None = ap (λ (x : Found). x.now.send) one ∙ is_own.no_send in
      no_send p.sender.now.send p.send none (known_send m w s p is).send
    where
      no_send : (o : Option Send) (send : Send) → o ≡ None → o ≡ Some send → ⊥
      no_send o send e f = cc

  undecided_same : (s : Name) (p : Pending) → undecided m w s ≡ Some p → undecided m (change w t.at f) s ≡ Some p
  undecided_same s p is =
      let k = known_send m w s p is in
      let sender : found m (change w t.at f) s.thread ≡ Some p.sender = found_same s.thread p.sender (sender_found m w s p is) (sender_other s p is) in
      let last : (p.sender.now.context.begun == s.k) ≡ true = eq-eqb p.sender.now.context.begun s.k k.last in
      rw (sender, last, k.send) refl

  receiver_other : (x : GlobalId) (u : Found) (receive : Receive) → found m w x ≡ Some u → receive_now u.now.phase ≡ Some receive → t.at ≡ u.at → ⊥
  receiver_other x u receive is receiving same =
      let one : u ≡ t = (at_self x u is same).1 in
      no_receive u.now.phase receive (ap (λ (y : Found). y.now.phase) one ∙ is_own.ready) receiving
    where
      no_receive : (p : Phase) (receive : Receive) → p ≡ Ready → receive_now p ≡ Some receive → ⊥
      no_receive p receive e f = let none : receive_now p ≡ None = ap receive_now e in cc

  -- What may fail may fail as before.

  may_fail_same : (u : Found) (receive : Receive) (why : Failure) →
      may_fail_late m (change w t.at f) u receive why ≡ may_fail_late m w u receive why
  may_fail_same u receive TimeOver = ap (λ o. is_some receive.period && is_none o) (first_same u receive.from)
  may_fail_same u receive NobodyThere =
      let from = receive.from in
      ap (λ b. b && is_none (first_accepted m (change w t.at f) u from)) (nobody_same from)
      ∙ ap (λ o. is_nobody from (found_by m w from) && is_none o) (first_same u from)
  may_fail_same u receive CancelAsked = refl

  -- Steps that change one other thread, or two

  meets : (b : World) (s : Step) → slice_get b.threads t.at ≡ Some t.now → slice_index b.clocks t.declared.cpu ≡ t.clock →
      next_late m (change w t.at f) s ≡ Some (change b t.at f) → AreExchanged m (change w t.at f) b own s
  meets b s at now is = record { meet = change b t.at f; step_second = is; own_second = is_own.possible b at now }

  one_meets : (u : World) (s : Step) (j : ℕ) (g : Thread → Thread) → slice_get u.threads t.at ≡ Some t.now → slice_index u.clocks t.declared.cpu ≡ t.clock → (t.at ≡ j → ⊥) →
      next_late m (change w t.at f) s ≡ Some (change (change u t.at f) j g) → AreExchanged m (change w t.at f) (change u j g) own s
  one_meets u s j g at now other is =
      let leaves = elsewhere f g t.at j t.now other in
      meets (change u j g) s (change_leaves f g u.threads t.at j t.now at leaves) now
      (is ∙ ap (λ ts. Some (record u { threads = ts })) (changes_swap f g u.threads t.at j t.now at leaves))

  two_meet : (u : World) (s : Step) (j k : ℕ) (g h : Thread → Thread) → slice_get u.threads t.at ≡ Some t.now → slice_index u.clocks t.declared.cpu ≡ t.clock → (t.at ≡ j → ⊥) → (t.at ≡ k → ⊥) →
      next_late m (change w t.at f) s ≡ Some (change (change (change u t.at f) j g) k h) → AreExchanged m (change w t.at f) (change (change u j g) k h) own s
  two_meet u s j k g h at now one two is =
      let leaves = elsewhere f g t.at j t.now one in
      one_meets (change u j g) s k h (change_leaves f g u.threads t.at j t.now at leaves) now two
      (is ∙ ap (λ ts. Some (change (record u { threads = ts }) k h)) (changes_swap f g u.threads t.at j t.now at leaves))

  send_meets : (s : Name) (p : Pending) (step : Step) (g : Thread → Thread) → undecided m w s ≡ Some p → next_late m (change w t.at f) step ≡ Some (without_send (change w t.at f) p g) →
      AreExchanged m (change w t.at f) (without_send w p g) own step
  send_meets s p step g is h = one_meets (unqueued w p.sender.at) step p.sender.at g there clock (sender_other s p is) h

  queued_same : (p : Pending) (r : Found) → receiver_of m w p ≡ Some r → is_alive r.now.phase ≡ true → (s : Name) → undecided m w s ≡ Some p →
      (not (is_waiting w p)) ≡ true → (not (must_wait w.owed s.thread p.send.to)) ≡ true → next_late m (change w t.at f) (Queue s) ≡ Some (change (queued w r.at p.sender.at) t.at f)
  queued_same p r to alive s is in_no_list free =
      ⊎_elim
      (λ same.
      let there_too : found_by m (change w t.at f) p.send.to ≡ Some r = same ∙ to in
      rw (undecided_same s p is, there_too, alive, in_no_list, free) refl)
      (λ both.
      let one : t ≡ r = some_is t r (sym both.0 ∙ to) in
      let still : is_alive (f t.now).phase ≡ true = ap not is_own.alive in
      rw (undecided_same s p is, both.1, still, in_no_list, free) (ap (λ (x : Found). Some (change (queued w x.at p.sender.at) t.at f)) one))
      (seen p.send.to)

  to_other : (to : Id) (r : Found) (receive : Receive) → found_by m w to ≡ Some r → receive_now r.now.phase ≡ Some receive → (t.at ≡ r.at → ⊥) × (found_by m (change w t.at f) to ≡ Some r)
  to_other NilThread r receive is receiving = cc
  to_other AnyThread r receive is receiving = cc
  to_other AnyLocalThread r receive is receiving = cc
  to_other (LocalThread word) r receive is receiving = cc
  to_other (GlobalThread x) r receive is receiving =
      let other : t.at ≡ r.at → ⊥ = receiver_other x r receive is receiving in
      (other, found_same x r is other)

  -- A timeout that does not hang on it.
  may_same : (p : Pending) → is_zero_send_to id (Some p) ≡ false → may_time_out m (change w t.at f) p ≡ may_time_out m w p
  may_same p h = ap (λ b. is_some p.send.period && b) (by (is_zero p.send.period) h)
    where
      by : (z : Bool) → (z && is_id_of p.send.to id) ≡ false →
          cond z (is_refusable m p.send (found_by m (change w t.at f) p.send.to)) (is_waiting w p) ≡ cond z (is_refusable m p.send (found_by m w p.send.to)) (is_waiting w p)
      by true h = ap (is_refusable m p.send) (seen_other p.send.to h)
      by false h = refl

  may_refuse_same : (s : Name) (p : Pending) (why : Failure) → undecided m w s ≡ Some p →
      disturbs m w id (OfSend (Failed why) s) ≡ false →
      may_refuse_late m (change w t.at f) s p why ≡ may_refuse_late m w s p why
  may_refuse_same s p TimeOver is calm =
      ap (λ b. b && not (must_wait w.owed s.thread p.send.to)) (may_same p (ap (is_zero_send_to id) (sym is) ∙ calm))
  may_refuse_same s p NobodyThere is calm =
      ap (λ b. b && not (must_wait w.owed s.thread p.send.to)) (no_destination_same p.send.to)
  may_refuse_same s p CancelAsked is calm = refl

  caller_other : (x : GlobalId) (u : Found) (order : PendingOrder) → found m w x ≡ Some u → u.now.order ≡ Some order → t.at ≡ u.at → ⊥
  caller_other x u order is has same =
      let one : u ≡ t = (at_self x u is same).1 in
      no_order u.now.order order (ap (λ (y : Found). y.now.order) one ∙ is_own.no_order) has
    where
      no_order : (o : Option PendingOrder) (order : PendingOrder) → o ≡ None → o ≡ Some order → ⊥
      no_order o order e f = cc

  -- All of them

  pub exchanged : (b : World) (s : Step) → next_late m w s ≡ Some b → is_next_of id s ≡ false → disturbs m w id s ≡ false → AreExchanged m (change w t.at f) b own s
  exchanged b (OfThread Runs x) h other calm =
      let k = local_taken m w b x h in
      let differs = apart x k.t k.found other in
      subst (λ b. AreExchanged m (change w t.at f) b own (OfThread Runs x)) k.leads_to
      (one_meets w (OfThread Runs x) k.t.at (runs (instruction k.t)) there clock differs (rw (found_same x k.t k.found differs, k.ready, k.alone) refl))
  exchanged b (OfSend Begun s) h other calm =
      let k = begin_taken m w b s h in
      let differs = apart s.thread k.t k.found other in
      subst (λ b. AreExchanged m (change w t.at f) b own (OfSend Begun s)) k.leads_to
      (one_meets w (OfSend Begun s) k.t.at (begins k.send) there clock differs (rw (found_same s.thread k.t k.found differs, k.ready, k.next_k, k.sends) refl))
  exchanged b (OfSend Queued s) h other calm =
      let k = queue_taken m w b s h in
      subst (λ b. AreExchanged m (change w t.at f) b own (OfSend Queued s)) k.leads_to
      (meets (queued w k.r.at k.p.sender.at) (OfSend Queued s) there clock (queued_same k.p k.r k.to k.alive s k.is_undecided k.in_no_list k.free))
  exchanged b (Deliver s receiver shown actual tag words) h other calm =
      let k = deliver_taken m w b s receiver shown actual tag words h in
      let to = to_other k.p.send.to k.r k.receive k.to k.receiving in
      let u : World = owing (owed_by m s k.p.send.message receiver) (unqueued w k.p.sender.at) in
      subst (λ b. AreExchanged m (change w t.at f) b own (Deliver s receiver shown actual tag words)) k.leads_to
      (two_meet u (Deliver s receiver shown actual tag words) k.r.at k.p.sender.at (receives k.p.send.message tag) (delivered k.p.send k.p.sender.clock) there clock to.0 (sender_other s k.p k.is_undecided)
      (rw (undecided_same s k.p k.is_undecided, to.1, k.receiving, first_same k.r k.receive.from, k.first_is, k.is_first, k.same_receiver, k.same_shown, k.same_actual, k.same_tag, k.same_words) refl))
  exchanged b (OfThread Waits x) h other calm =
      let k = wait_taken m w b x h in
      let differs = apart x k.t k.found other in
      subst (λ b. AreExchanged m (change w t.at f) b own (OfThread Waits x)) k.leads_to
      (one_meets w (OfThread Waits x) k.t.at (waits k.receive k.t.clock) there clock differs (rw (found_same x k.t k.found differs, k.ready, k.receiving) refl))
  exchanged b (OfSend (Failed why) s) h other calm =
      let k = late_refused m w b s why h in
      let step : Step = OfSend (Failed why) s in
      subst (λ b. AreExchanged m (change w t.at f) b own step) k.leads_to
      (send_meets s k.p step (refused (send_code why)) k.is_undecided
      (rw (undecided_same s k.p k.is_undecided, may_refuse_same s k.p why k.is_undecided calm, k.may) refl))
  exchanged b (OfThread (Fails why) x) h other calm =
      let k = late_failed m w b x why h in
      let step : Step = OfThread (Fails why) x in
      let differs = receiver_other x k.t k.receive k.found k.receiving in
      subst (λ b. AreExchanged m (change w t.at f) b own step) k.leads_to
      (one_meets w step k.t.at (fails (receive_code why)) there clock differs
      (rw (found_same x k.t k.found differs, k.receiving, may_fail_same k.t k.receive why, k.may) refl))
  exchanged b (OfSend Dropped s) h other calm =
      let k = drop_taken m w b s h in
      subst (λ b. AreExchanged m (change w t.at f) b own (OfSend Dropped s)) k.leads_to
      (send_meets s k.p (OfSend Dropped s) decided k.is_undecided (rw (undecided_same s k.p k.is_undecided, k.in_list, k.gone) refl))
  exchanged b (Order caller target what) h other calm =
      let k = order_taken m w b caller target what h in
      let differs = apart caller k.t k.found other in
      subst (λ b. AreExchanged m (change w t.at f) b own (Order caller target what)) k.leads_to
      (one_meets w (Order caller target what) k.t.at (orders k.order) there clock differs (rw (found_same caller k.t k.found differs, k.ready, k.ordered, k.same_order) refl))
  exchanged b (OfThread Obeys caller) h other calm =
      let k = obey_taken m w b caller h in
      let differs = caller_other caller k.t k.order k.found k.ordered in
      let not_it : same_id k.order.target id ≡ false = rw (k.found, k.ordered) at calm in
      let elsewhere_asked : t.at ≡ k.target → ⊥ =
      λ same. both_ways (same_id k.order.target id) not_it (same_is k.order.target id (one_place m k.order.target id t.at (k.target_is ∙ ap (λ i. Some i) (sym same)) (known m w id t is_own.found).place)) in
      subst (λ b. AreExchanged m (change w t.at f) b own (OfThread Obeys caller)) k.leads_to
      (two_meet w (OfThread Obeys caller) k.target k.t.at (asked k.order.what) obeyed there clock elsewhere_asked differs (rw (found_same caller k.t k.found differs, k.ordered, k.target_is) refl))
  exchanged b (Tick cpu now) h other calm = cc
  exchanged b (OfSend Retargeted s) h other calm =
      let k = retarget_taken m w b s h in
      let u : World = record w { owed = others_owed w.owed s } in
      let not_it : same_id k.o.originator id ≡ false = rw k.is_owed at calm in
      let differs = apart k.o.originator k.t k.found not_it in
      subst (λ b. AreExchanged m (change w t.at f) b own (OfSend Retargeted s)) k.leads_to
      (one_meets u (OfSend Retargeted s) k.t.at (turns k.o) there clock differs (rw (k.is_owed, found_same k.o.originator k.t k.found differs) refl))
