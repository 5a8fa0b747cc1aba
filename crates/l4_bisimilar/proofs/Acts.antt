-- Acts of two events that are alike in some way keep them alike.
use Rattle.std.proofs.Common.{◌≡◌, ℕ, Bool, true, false, cond, ◌&&◌, Option, Some, None, refl, subst, sym, ap, ◌∙◌}
use Rattle.std.specs.Prelude.{not}
use Rattle.std.specs.Option.{option_map}
use Rattle.l4_model.specs.Options.{if_some}
use Rattle.l4_model.specs.Words.{GlobalId, Id}
use Rattle.l4_model.specs.Machine.{Declaration, Machine, OrderKind, CancelSend, CancelReceive, CancelBoth, Delete, place_of, is_place}
use Rattle.l4_model.specs.World.{Message, Name, Send, Receive, PendingOrder, Owed, Phase, Ready, Sending, Receiving, Ordering, Ended, Deleted, Thread, is_alive, is_deleted}
use Rattle.l4_model.specs.Rules.{Act, RunsAlone, Sends, Receives, Orders, owed_by, received_tag, is_cross}
use Rattle.l4_model.specs.Steps.{Step, Local as RanLocal, Begin, Queue, Order, Obey, Wait, Retarget}
use Rattle.l4_model.specs.Conditions.{Found, instruction, is_zero, may_still_accept, call_accepts}
use Rattle.l4_model.specs.Effects.{runs, begins, waits, fails, decided, receives, asked, orders, obeyed, turns}
use Rattle.l4_core_model.specs.Plain as plain
use Rattle.l4_core_model.specs.Letters.{Result, Refusal, Refused, Nobody, TimedOut, Delivered, Cause, OrderLetter, RetargetLetter, SendLetter, cause_of}
use Rattle.l4_core_model.specs.Local.{Local, declared, is_own, thread, held, destination_place, comes_to, relists, last_name, after_decision}
use Rattle.l4_core_model.specs.Acts.{Work, ◌▷◌, tells, does, tells_send, entry, decides_send, refuses, owes, owes_for, retargets, delivers_message, delivers_send, delivers, first_acceptable, delivers_if_first, queues_send, arrives, zero_refusable, send_goes_to, begins_send, withdraws, fails_receive, asks, withdraws_for, obeys, order_goes_to, gives_order, runs_alone_at, waits_at, acts, split_place}
use Rattle.l4_bisimilar.proofs.Ways.{Way, bare_thread, counted_name, counted_owed, timed_phase, timed_send}
use Rattle.l4_bisimilar.proofs.Threads.{asked_same, begins_both, both, decision_both, fails_same, obeyed_same, runs_same, timeless, turns_both, waits_both}
use Rattle.l4_bisimilar.proofs.Works.{AreLike, IsFree, IsLike, cond_like, deleted_like, does_changes, does_comes, does_keeps, first_like, keeps_like, last_like, posts_like, split_like, tells_like, thread_like}

-- Whether a send of timeout zero may be refused does not depend on counts and times.
module _ (w : Way) (m : Machine) (at clock : ℕ) (declared_as : Declaration) (t : Thread) where
  abbrev found_as : ℕ → Thread → Found
  found_as now u = record { at = at; declared = declared_as; now = u; clock = now }

  call_timeless : (shown : GlobalId) (call : Option Send) →
      call_accepts m (found_as 0 (bare_thread w t)) (option_map (timed_send w.time) call) shown
      ≡ call_accepts m (found_as clock t) call shown
  call_timeless shown None = refl
  call_timeless shown (Some call) = refl

  may_timeless : (shown : GlobalId) (p : Phase) →
      may_still_accept m (found_as 0 (bare_thread w t)) shown (timed_phase w.time p)
      ≡ may_still_accept m (found_as clock t) shown p
  may_timeless shown Ready = refl
  may_timeless shown Sending = call_timeless shown t.send
  may_timeless shown (Receiving receive since) = refl
  may_timeless shown Ordering = refl
  may_timeless shown Ended = refl
  may_timeless shown Deleted = refl

  zero_timeless : (send : Option Send) →
      zero_refusable m (found_as 0 (bare_thread w t)) (option_map (timed_send w.time) send)
      ≡ zero_refusable m (found_as clock t) send
  zero_timeless None = refl
  zero_timeless (Some send) = λ j.
      is_zero send.period
      && (timeless is_alive (λ r a b. refl) w.time t.phase j && not (may_timeless send.message.shown t.phase j))

-- What an instruction asks for, without when it does so
abbrev pub bare_act : Way → Act → Act
bare_act w RunsAlone = RunsAlone
bare_act w (Sends send) = Sends (timed_send w.time send)
bare_act w (Receives receive) = Receives receive
bare_act w (Orders order) = Orders order

module _ (w : Way) (m : Machine) (cpu : ℕ) where
  abbrev Free : (Work → Work) → Type 0
  Free f = IsFree w f f

  abbrev Sent : Option Send → Option Send → Type 0
  Sent o p = option_map (timed_send w.time) o ≡ option_map (timed_send w.time) p

  pub sent_like : (l k : Local) (i : ℕ) → IsLike w l k → Sent (thread l i).send (thread k i).send
  sent_like l k i h = ap (λ (t : Thread). t.send) (thread_like w l k i h)

  pub zero_like : (l k : Local) (r : ℕ) (o p : Option Send) → IsLike w l k → Sent o p →
      zero_refusable m (held m l r) o ≡ zero_refusable m (held m k r) p
  zero_like l k r o p h e =
      sym (zero_timeless w m r l.clock (declared m r) (thread l r) o)
      ∙ (λ j. zero_refusable m
      (record { at = r; declared = declared m r; now = thread_like w l k r h j; clock = 0 }) (e j))
      ∙ zero_timeless w m r k.clock (declared m r) (thread k r) p

  -- Sends

  decides_like : (result : Result) (i : ℕ) → Free (decides_send m cpu result i)
  decides_like result i x y h =
      let out = keeps_like w (relists (plain.unqueued i)) (λ l. refl) x y h in
      cond_like w (is_own m cpu i) (is_own m cpu i) _ _ _ _ refl
      (does_comes w i (after_decision result x.local.clock) (after_decision result y.local.clock)
      (decision_both w result x.local.clock y.local.clock h.local.clock) _ _ out)
      (posts_like w (declared m i).cpu _ _
      (w.ends result _ _ (last_like w m x.local y.local i h.local)) _ _
      (does_changes w i decided decided (both w decided (λ t. refl)) _ _ out))

  pub refuses_like : (refusal : Refusal) (i : ℕ) → Free (refuses m cpu refusal i)
  refuses_like refusal i x y h =
      decides_like (Refused refusal) i _ _
      (tells_like w _ _ (w.refuses refusal _ _ (last_like w m x.local y.local i h.local)) x y h)

  owes_like : (r : ℕ) (o p : Owed) → counted_owed w.count o ≡ counted_owed w.count p →
      (originator : Option ℕ) → IsFree w (owes m cpu r o originator) (owes m cpu r p originator)
  owes_like r o p e None x y h = h
  owes_like r o p e (Some j) x y h =
      cond_like w (is_own m cpu j) (is_own m cpu j) _ _ _ _ refl
      (does_keeps w r (Some o) (Some p) (ap (λ (q : Owed). Some q) e) x y h)
      (posts_like w (declared m j).cpu (RetargetLetter o) (RetargetLetter p) (w.owes o p e) x y h)

  owes_for_like : (r : ℕ) (message : Message) (to : GlobalId) (s t : Name) →
      counted_name w.count s ≡ counted_name w.count t →
      IsFree w (owes_for m cpu r (owed_by m s message to)) (owes_for m cpu r (owed_by m t message to))
  owes_for_like r message to s t e x y h = by (m.retargeting && message.propagated)
    where
      owed : Name → Owed
      owed s = record { send = s; originator = message.shown; old_partner = message.actual; new_partner = to }

      by : (b : Bool) →
          AreLike w (owes_for m cpu r (cond b (Some (owed s)) None) x)
          (owes_for m cpu r (cond b (Some (owed t)) None) y)
      by true = owes_like r (owed s) (owed t) (λ j. record (owed s) { send = e j }) (place_of m message.shown) x y h
      by false = h

  delivers_message_like : (r i : ℕ) (message : Message) (tag : ℕ) → Free (delivers_message m cpu r i message tag)
  delivers_message_like r i message tag x y h =
      let last = last_like w m x.local y.local i h.local in
      owes_for_like r message (declared m r).id _ _ last _ _
      (decides_like Delivered i _ _
      (does_comes w r (receives message tag) (receives message tag) (both w (receives message tag) (λ t. refl)) _ _
      (tells_like w _ _
      (w.delivers (declared m r).id message.shown message.actual tag message.words _ _ last) x y h)))

  delivers_send_like : (r i : ℕ) (o p : Option Send) → Sent o p →
      IsFree w (delivers_send m cpu r i o) (delivers_send m cpu r i p)
  delivers_send_like r i None None e x y h = h
  delivers_send_like r i (Some s) (Some t) e x y h =
      let same : timed_send w.time s ≡ timed_send w.time t = cc in
      subst (λ (message : Message).
      AreLike w (delivers_send m cpu r i (Some s) x)
      (delivers_message m cpu r i message (received_tag (is_cross m (declared m r).id message) message) y))
      (ap (λ (u : Send). u.message) same)
      (delivers_message_like r i s.message (received_tag (is_cross m (declared m r).id s.message) s.message) x y h)
  delivers_send_like r i None (Some t) e x y h = cc
  delivers_send_like r i (Some s) None e x y h = cc

  pub delivers_like : (r i : ℕ) → Free (delivers m cpu r i)
  delivers_like r i x y h = delivers_send_like r i _ _ (sent_like x.local y.local i h.local) x y h

  delivers_if_first_like : (r i : ℕ) → Free (delivers_if_first m cpu r i)
  delivers_if_first_like r i x y h =
      cond_like w (is_place (first_acceptable x.local r) i) (is_place (first_acceptable y.local r) i) _ _ _ _
      (ap (λ o. is_place o i) (first_like w x.local y.local r h.local)) (delivers_like r i x y h) h

  queues_send_like : (r i : ℕ) (o p : Option Send) → Sent o p →
      IsFree w (queues_send m cpu r i o) (queues_send m cpu r i p)
  queues_send_like r i None None e x y h = h
  queues_send_like r i (Some s) (Some t) e x y h =
      let same : timed_send w.time s ≡ timed_send w.time t = cc in
      let one : entry m r i s ≡ entry m r i t = ap (λ (u : Send). entry m r i u) same in
      delivers_if_first_like r i _ _
      (subst (λ (e : plain.Waiting).
      AreLike w (x ▷ tells_send m Queue i ▷ does (relists (plain.queued r (entry m r i s))))
      (y ▷ tells_send m Queue i ▷ does (relists (plain.queued r e)))) one
      (keeps_like w (relists (plain.queued r (entry m r i s))) (λ l. refl) _ _
      (tells_like w _ _ (w.queues _ _ (last_like w m x.local y.local i h.local)) x y h)))
  queues_send_like r i None (Some t) e x y h = cc
  queues_send_like r i (Some s) None e x y h = cc

  pub arrives_like : (r i : ℕ) → Free (arrives m cpu r i)
  arrives_like r i x y h =
      let sent = sent_like x.local y.local i h.local in
      cond_like w (is_deleted (thread x.local r).phase) (is_deleted (thread y.local r).phase) _ _ _ _
      (deleted_like w x.local y.local r h.local) (refuses_like Nobody i x y h)
      (cond_like w (zero_refusable m (held m x.local r) (thread x.local i).send)
      (zero_refusable m (held m y.local r) (thread y.local i).send) _ _ _ _
      (zero_like x.local y.local r _ _ h.local sent) (refuses_like TimedOut i x y h)
      (queues_send_like r i _ _ sent x y h))

  goes_to_like : (i : ℕ) (s t : Send) → timed_send w.time s ≡ timed_send w.time t → (to : Option ℕ) →
      IsFree w (send_goes_to m cpu i s to) (send_goes_to m cpu i t to)
  goes_to_like i s t e None x y h = refuses_like Nobody i x y h
  goes_to_like i s t e (Some r) x y h =
      cond_like w (is_own m cpu r) (is_own m cpu r) _ _ _ _ refl (arrives_like r i x y h)
      (posts_like w (declared m r).cpu _ _
      (w.sends (declared m r).id s.message (is_zero s.period) _ _ (last_like w m x.local y.local i h.local)
      ∙ (λ j. w.content (SendLetter (last_name m y.local i) (declared m r).id (e j).message (is_zero (e j).period))))
      x y h)

  begins_send_like : (i : ℕ) (s t : Send) → timed_send w.time s ≡ timed_send w.time t →
      IsFree w (begins_send m cpu i s) (begins_send m cpu i t)
  begins_send_like i s t e x y h =
      let begun = does_comes w i (begins s) (begins t) (begins_both w s t e) x y h in
      subst (λ (id : Id).
      AreLike w (begins_send m cpu i s x)
      (y ▷ does (comes_to i (begins t)) ▷ tells_send m Begin i ▷ send_goes_to m cpu i t (destination_place m id)))
      (ap (λ (u : Send). u.to) e)
      (goes_to_like i s t e (destination_place m s.to) _ _
      (tells_like w _ _ (w.begins _ _ (last_like w m _ _ i begun.local)) _ _ begun))

  pub withdraws_like : (cause : Cause) (i : ℕ) (to : Option ℕ) → Free (withdraws m cause i to)
  withdraws_like cause i None x y h = h
  withdraws_like cause i (Some r) x y h =
      posts_like w (declared m r).cpu _ _
      (w.withdraws (declared m r).id cause _ _ (last_like w m x.local y.local i h.local)) x y h

  pub fails_receive_like : (step : GlobalId → Step) (code i : ℕ) → Free (fails_receive m step code i)
  fails_receive_like step code i x y h =
      let told = step (declared m i).id in
      does_comes w i (fails code) (fails code) (both w (fails code) (fails_same w code)) _ _
      (tells_like w told told refl x y h)

  pub retargets_like : (o p : Owed) → counted_owed w.count o ≡ counted_owed w.count p → (originator : Option ℕ) →
      IsFree w (if_some (retargets o) originator) (if_some (retargets p) originator)
  retargets_like o p e None x y h = h
  retargets_like o p e (Some j) x y h =
      does_changes w j (turns o) (turns p) (turns_both w o p e) _ _
      (tells_like w (Retarget o.send) (Retarget p.send) (w.retargets _ _ (ap (λ (q : Owed). q.send) e)) x y h)

  -- Orders

  asks_like : (what : OrderKind) (i : ℕ) → Free (does (asks what i))
  asks_like CancelSend i = does_changes w i _ _ (both w (asked CancelSend) (asked_same w CancelSend))
  asks_like CancelReceive i = does_changes w i _ _ (both w (asked CancelReceive) (asked_same w CancelReceive))
  asks_like CancelBoth i = does_changes w i _ _ (both w (asked CancelBoth) (asked_same w CancelBoth))
  asks_like Delete i = λ x y h.
      does_comes w i _ _ (both w (asked Delete) (asked_same w Delete)) _ _
      (keeps_like w (relists (plain.dropped i)) (λ l. refl) x y h)

  pub split_withdraws_like : (cause : Cause) (i : ℕ) → Free (λ x. withdraws m cause i (split_place m cpu x.local i) x)
  split_withdraws_like cause i x y h =
      subst (λ (o : Option ℕ).
      AreLike w (withdraws m cause i (split_place m cpu x.local i) x) (withdraws m cause i o y))
      (split_like w m cpu x.local y.local i h.local)
      (withdraws_like cause i (split_place m cpu x.local i) x y h)

  withdraws_for_like : (j : ℕ) (cause : Option Cause) → Free (withdraws_for m cpu j cause)
  withdraws_for_like j None x y h = h
  withdraws_for_like j (Some cause) x y h = split_withdraws_like cause j x y h

  pub obeys_like : (caller : GlobalId) (what : OrderKind) (j : ℕ) → Free (obeys m cpu caller what j)
  obeys_like caller what j x y h =
      let done = asks_like what j _ _ (tells_like w (Obey caller) (Obey caller) refl x y h) in
      cond_like w (is_deleted (thread x.local j).phase) (is_deleted (thread y.local j).phase) _ _ _ _
      (deleted_like w x.local y.local j h.local) done (withdraws_for_like j (cause_of what) _ _ done)

  order_goes_to_like : (i : ℕ) (order : PendingOrder) (to : Option ℕ) → Free (order_goes_to m cpu i order to)
  order_goes_to_like i order None x y h = h
  order_goes_to_like i order (Some j) x y h =
      let id = (declared m i).id in
      let letter = OrderLetter id order.target order.what in
      cond_like w (is_own m cpu j) (is_own m cpu j) _ _ _ _ refl
      (does_comes w i obeyed obeyed (both w obeyed (obeyed_same w)) _ _ (obeys_like id order.what j x y h))
      (posts_like w (declared m j).cpu letter letter refl x y h)

  gives_order_like : (i : ℕ) (order : PendingOrder) → Free (gives_order m cpu i order)
  gives_order_like i order x y h =
      let told = Order (declared m i).id order.target order.what in
      order_goes_to_like i order (place_of m order.target) _ _
      (tells_like w told told refl _ _
      (does_comes w i (orders order) (orders order) (both w (orders order) (λ t. refl)) x y h))

  -- Instructions

  runs_alone_like : (i : ℕ) → Free (runs_alone_at m i)
  runs_alone_like i x y h =
      let told = RanLocal (declared m i).id in
      let instr = instruction (held m x.local i) in
      subst (λ other. AreLike w (runs_alone_at m i x) (y ▷ tells told ▷ does (comes_to i (runs other))))
      (ap (λ (t : Thread).
      instruction (record { at = i; declared = declared m i; now = t; clock = 0 }))
      (thread_like w x.local y.local i h.local))
      (does_comes w i (runs instr) (runs instr) (both w (runs instr) (runs_same w instr)) _ _
      (tells_like w told told refl x y h))

  waits_at_like : (i : ℕ) (receive : Receive) → Free (waits_at m i receive)
  waits_at_like i receive x y h =
      let told = Wait (declared m i).id in
      does_comes w i (waits receive x.local.clock) (waits receive y.local.clock)
      (waits_both w receive x.local.clock y.local.clock h.local.clock) _ _ (tells_like w told told refl x y h)

  pub acts_like : (i : ℕ) (a b : Act) → bare_act w a ≡ bare_act w b → IsFree w (acts m cpu i a) (acts m cpu i b)
  acts_like i RunsAlone RunsAlone e x y h = runs_alone_like i x y h
  acts_like i (Sends s) (Sends t) e x y h =
      let same : timed_send w.time s ≡ timed_send w.time t = cc in begins_send_like i s t same x y h
  acts_like i (Receives r) (Receives q) e x y h =
      let same : r ≡ q = cc in
      subst (λ (p : Receive). AreLike w (waits_at m i r x) (waits_at m i p y)) same (waits_at_like i r x y h)
  acts_like i (Orders o) (Orders p) e x y h =
      let same : o ≡ p = cc in
      subst (λ (q : PendingOrder). AreLike w (gives_order m cpu i o x) (gives_order m cpu i q y)) same
      (gives_order_like i o x y h)
  acts_like i a b e x y h = cc
