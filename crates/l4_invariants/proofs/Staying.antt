-- Where a local step goes on beside others, its thread stays as it is.
use Rattle.std.proofs.Common.{◌≡◌, ℕ, zero, suc, Bool, true, false, Option, Some, None, List, [], ◌∷◌, ◌++◌, refl, ap, sym, subst, ◌∙◌, inl, inr, ◌⊎◌}
use Rattle.std.proofs.lemmas.Bool.{not-true}
use Rattle.std.specs.Prelude.{◌&&◌, slice_get, slice_index, map}
use Rattle.l4_model.specs.Words.{GlobalId, Id, NilThread, AnyThread, AnyLocalThread, LocalThread, GlobalThread, same_id}
use Rattle.l4_model.specs.Machine.{Machine, OrderKind}
use Rattle.l4_model.specs.World.{World, Thread, Name, PendingOrder, Phase, Ready, Receive, Send, changed, is_ready, receive_now, is_sending, opening}
use Rattle.l4_model.specs.Rules.{receive_code, send_code}
use Rattle.l4_model.specs.Effects.{runs, begins, waits, fails, decided, refused, receives, delivered, asked, orders, obeyed, turns_in, turns, has_receive_phase}
use Rattle.l4_model.specs.Conditions.{◌>>=◌, Found, found, found_by, Pending, undecided, instruction}
use Rattle.l4_model.specs.Steps.{Step, Local, Deliver, Order, Tick, OfThread, OfSend, Runs, Waits, Fails, Obeys, Begun, Queued, Failed, Dropped, Retargeted}
use Rattle.l4_model.proofs.Chains.{bind_then, some_is, get-changed_other}
use Rattle.l4_model.proofs.Inversions.{local_taken, begin_taken, queue_taken, deliver_taken, wait_taken, drop_taken, order_taken, obey_taken, retarget_taken}
use Rattle.l4_model.proofs.Places.{known, known_send, sender_found, one_place}
use Rattle.l4_worlds.specs.Timeless.{timeless_thread}
use Rattle.l4_worlds.specs.Late.{next_late, run_late}
use Rattle.l4_worlds.specs.Histories.{IsTimed}
use Rattle.l4_worlds.proofs.LateWorlds.{IsKept, late_run, opening_late}
use Rattle.l4_worlds.proofs.Taken.{late_refused, late_failed}
use Rattle.l4_first.specs.First.{is_deletable, is_delete, instruction_deletes, order_deletes, deletes_now, is_next_of, stands_alone, GoesFirst, GoesBeside, GoesAnyway}
use Rattle.l4_first.proofs.Alone.{known_found, same_found, change_leaves, asked_nothing, is_ready_is}
use Rattle.l4_first.proofs.First.{alone_anyway}
use Rattle.l4_first.proofs.Given.{same_quiet, ready_undone, spares}
use Rattle.l4_first.proofs.Own.{same_is}
use Rattle.l4_first.proofs.Spared.{IsSpared, order_at, deletes_test, step_spared, opening_spared}
use Rattle.l4_futures.proofs.Ways.{run_late-append}

not_both : (b : Bool) → b ≡ false → b ≡ true → ⊥
not_both true e f = cc
not_both false e f = cc

-- A step of others leaves a ready thread with nothing undone as it is, unless it deletes it.

module _ (m : Machine) (w : World) (id : GlobalId) (t : Found) (is_found : found m w id ≡ Some t)
    (ready : t.now.phase ≡ Ready) (no_send : t.now.send ≡ None) (no_order : t.now.order ≡ None) where
  there : slice_get w.threads t.at ≡ Some t.now
  there = (known m w id t is_found).now

  at_self : (x : GlobalId) (u : Found) → found m w x ≡ Some u → t.at ≡ u.at → (x ≡ id) × (u ≡ t)
  at_self x u is same = same_found m w id x t u is_found is (sym same)

  apart : (x : GlobalId) (u : Found) → found m w x ≡ Some u → same_id x id ≡ false → t.at ≡ u.at → ⊥
  apart x u is other same = not_both (same_id x id) other (same_is x id (at_self x u is same).0)

  sender_other : (s : Name) (p : Pending) → undecided m w s ≡ Some p → t.at ≡ p.sender.at → ⊥
  sender_other s p is same =
      let one : p.sender ≡ t = (at_self s.thread p.sender (sender_found m w s p is) same).1 in
      none_some p.sender.now.send p.send (ap (λ (x : Found). x.now.send) one ∙ no_send) (known_send m w s p is).send
    where
      none_some : (o : Option Send) (send : Send) → o ≡ None → o ≡ Some send → ⊥
      none_some o send e f = cc

  receiver_other : (x : GlobalId) (u : Found) (receive : Receive) → found m w x ≡ Some u →
      receive_now u.now.phase ≡ Some receive → t.at ≡ u.at → ⊥
  receiver_other x u receive is receiving same =
      let one : u ≡ t = (at_self x u is same).1 in
      none_now u.now.phase receive (ap (λ (y : Found). y.now.phase) one ∙ ready) receiving
    where
      none_now : (p : Phase) (receive : Receive) → p ≡ Ready → receive_now p ≡ Some receive → ⊥
      none_now p receive e f = let none : receive_now p ≡ None = ap receive_now e in cc

  by_other : (to : Id) (u : Found) (receive : Receive) → found_by m w to ≡ Some u →
      receive_now u.now.phase ≡ Some receive → t.at ≡ u.at → ⊥
  by_other NilThread u receive is receiving = cc
  by_other AnyThread u receive is receiving = cc
  by_other AnyLocalThread u receive is receiving = cc
  by_other (LocalThread word) u receive is receiving = cc
  by_other (GlobalThread x) u receive is receiving = receiver_other x u receive is receiving

  caller_other : (x : GlobalId) (u : Found) (order : PendingOrder) → found m w x ≡ Some u →
      u.now.order ≡ Some order → t.at ≡ u.at → ⊥
  caller_other x u order is has same =
      let one : u ≡ t = (at_self x u is same).1 in
      none_some u.now.order order (ap (λ (y : Found). y.now.order) one ∙ no_order) has
    where
      none_some : (o : Option PendingOrder) (order : PendingOrder) → o ≡ None → o ≡ Some order → ⊥
      none_some o order e f = cc

  elsewhere : (ts : List Thread) (j : ℕ) (g : Thread → Thread) → slice_get ts t.at ≡ Some t.now → (t.at ≡ j → ⊥) →
      slice_get (changed g ts j) t.at ≡ Some t.now
  elsewhere ts j g at other = get-changed_other g ts j t.at (λ e. other (sym e)) ∙ at

  spared : (ts : List Thread) (j : ℕ) (g : Thread → Thread) → slice_get ts t.at ≡ Some t.now →
      (t.at ≡ j → g t.now ≡ t.now) → slice_get (changed g ts j) t.at ≡ Some t.now
  spared ts j g at same = change_leaves (λ x. x) g ts t.at j t.now at (λ e. (same e, same e))

  abbrev Stays : World → Type 0
  Stays b = slice_get b.threads t.at ≡ Some t.now

  pub stays : (b : World) (s : Step) → next_late m w s ≡ Some b → is_next_of id s ≡ false →
      deletes_now m w id s ≡ false → Stays b
  stays b (OfThread Runs x) h other calm =
      let k = local_taken m w b x h in
      subst Stays k.leads_to (elsewhere w.threads k.t.at (runs (instruction k.t)) there (apart x k.t k.found other))
  stays b (OfSend Begun s) h other calm =
      let k = begin_taken m w b s h in
      subst Stays k.leads_to (elsewhere w.threads k.t.at (begins k.send) there (apart s.thread k.t k.found other))
  stays b (OfSend Queued s) h other calm =
      let k = queue_taken m w b s h in
      subst Stays k.leads_to there
  stays b (Deliver s receiver shown actual tag words) h other calm =
      let k = deliver_taken m w b s receiver shown actual tag words h in
      subst Stays k.leads_to
      (elsewhere (changed (receives k.p.send.message tag) w.threads k.r.at) k.p.sender.at
      (delivered k.p.send k.p.sender.clock)
      (elsewhere w.threads k.r.at (receives k.p.send.message tag) there
      (by_other k.p.send.to k.r k.receive k.to k.receiving))
      (sender_other s k.p k.is_undecided))
  stays b (OfThread Waits x) h other calm =
      let k = wait_taken m w b x h in
      subst Stays k.leads_to (elsewhere w.threads k.t.at (waits k.receive k.t.clock) there (apart x k.t k.found other))
  stays b (OfSend (Failed why) s) h other calm =
      let k = late_refused m w b s why h in
      subst Stays k.leads_to
      (elsewhere w.threads k.p.sender.at (refused (send_code why)) there (sender_other s k.p k.is_undecided))
  stays b (OfThread (Fails why) x) h other calm =
      let k = late_failed m w b x why h in
      subst Stays k.leads_to
      (elsewhere w.threads k.t.at (fails (receive_code why)) there (receiver_other x k.t k.receive k.found k.receiving))
  stays b (OfSend Dropped s) h other calm =
      let k = drop_taken m w b s h in
      subst Stays k.leads_to (elsewhere w.threads k.p.sender.at decided there (sender_other s k.p k.is_undecided))
  stays b (Order caller target what) h other calm =
      let k = order_taken m w b caller target what h in
      subst Stays k.leads_to (elsewhere w.threads k.t.at (orders k.order) there (apart caller k.t k.found other))
  stays b (OfThread Obeys caller) h other calm =
      let k = obey_taken m w b caller h in
      let not_deleted : order_deletes id (Some k.order) ≡ false = rw (k.found, k.ordered) at calm in
      subst Stays k.leads_to
      (elsewhere (changed (asked k.order.what) w.threads k.target) k.t.at obeyed
      (spared w.threads k.target (asked k.order.what) there
      (λ same.
      let one =
      one_place m k.order.target id t.at (k.target_is ∙ ap (λ i. Some i) (sym same)) (known m w id t is_found).place
      in
      asked_nothing k.order.what t.now (no_delete k.order.target id k.order.what one not_deleted)
      (ap is_sending ready) (ap (λ p. has_receive_phase p t.now.send) ready)))
      (caller_other caller k.t k.order k.found k.ordered))
    where
      no_delete : (x y : GlobalId) (what : OrderKind) → x ≡ y → (same_id x y && is_delete what) ≡ false →
          is_delete what ≡ false
      no_delete x y what e h = sym (ap (λ b. b && is_delete what) (same_is x y e)) ∙ h
  stays b (Tick cpu now) h other calm = cc
  stays b (OfSend Retargeted s) h other calm =
      let k = retarget_taken m w b s h in
      subst Stays k.leads_to
      (spared w.threads k.t.at (turns k.o) there (λ same. ap (λ p. turns_in p k.o t.now) ready))

-- Its local step, told beside others

order_timeless : (ts : List Thread) (i : ℕ) → order_at (map timeless_thread ts) i ≡ order_at ts i
order_timeless [] i = refl
order_timeless (t ∷ ts) zero = refl
order_timeless (t ∷ ts) (suc i) = order_timeless ts i

undeleted_kept : (m : Machine) (id : GlobalId) → is_deletable m id ≡ false →
    IsKept m (λ w. IsSpared m w.threads id (order_deletes id))
undeleted_kept m id safe = record {
  by_step =
      λ w v step goes s spared.
      step_spared m w v id (order_deletes id) (instruction_deletes id) step (deletes_test id) safe goes spared;
  without_time = λ w spared i d at apart. ap (order_deletes id) (order_timeless w.threads i) ∙ spared i d at apart;
}

-- It goes on beside them, and its thread is as it was.
pub record StaysBeside (m : Machine) (a z : World) (own : Step) (steps : List Step) (place : ℕ) (t : Thread) : Type 0
  where
    pub beside : GoesBeside m a z own steps
    pub stays : slice_get z.threads place ≡ Some t

only_one : (s own : Step) (before after : List Step) → s ∷ [] ≡ before ++ own ∷ after → s ≡ own
only_one s own [] after e = cc
only_one s own (x ∷ []) after e = cc
only_one s own (x ∷ y ∷ before) after e = cc

module _ (m : Machine) (timed : IsTimed m) (id : GlobalId) (alone : stands_alone m (Local id) ≡ true) where
  abbrev Rest : World → List Step → World → Type 0
  Rest z steps v =
      (b : World) (u : Found) → found m v id ≡ Some u → next_late m v (Local id) ≡ Some b → GoesFirst m b z
      (Local id) steps ⊎ StaysBeside m b z (Local id) steps u.at u.now

  pub local_beside : (steps h : List Step) (w a z : World) (t : Found) → run_late m (opening m) h ≡ Some w →
      found m w id ≡ Some t → next_late m w (Local id) ≡ Some a → run_late m w steps ≡ Some z →
      GoesFirst m a z (Local id) steps ⊎ StaysBeside m a z (Local id) steps t.at t.now
  local_beside [] h w a z t was is may leads =
      let same = some_is w z leads in
      inr (record {
        beside = record { last = a; possible = ap (λ x. next_late m x (Local id)) (sym same) ∙ may; leads = refl };
        stays = ap (λ (x : World). slice_get x.threads t.at) (sym same) ∙ (known m w id t is).now;
      })
  local_beside (s ∷ steps) h w a z t was is may leads =
      bind_then (next_late m w s) (λ u. run_late m u steps) z leads λ v goes rest.
      by v goes rest (is_next_of id s) refl
      (λ b u there again.
      local_beside steps (h ++ s ∷ []) v b z u
      (run_late-append m h (s ∷ []) (opening m) w v was (one_step w v s goes)) there again rest)
    where
      one_step : (x y : World) (step : Step) → next_late m x step ≡ Some y → run_late m x (step ∷ []) ≡ Some y
      one_step x y step one = ap (λ o. o >>= λ u. Some u) one

      step_one : (x y : World) (step : Step) → run_late m x (step ∷ []) ≡ Some y → next_late m x step ≡ Some y
      step_one x y step one = bind_then (next_late m x step) (λ u. Some u) y one λ u first second. first ∙ second

      behind : (b : World) (u : Found) → next_late m a s ≡ Some b → u.at ≡ t.at → u.now ≡ t.now →
          GoesFirst m b z (Local id) steps ⊎ StaysBeside m b z (Local id) steps u.at u.now →
          GoesFirst m a z (Local id) (s ∷ steps) ⊎ StaysBeside m a z (Local id) (s ∷ steps) t.at t.now
      behind b u second place now (inl more) =
          inl (record {
            before = s ∷ more.before;
            after = more.after;
            is = ap (λ xs. s ∷ xs) more.is;
            leads = ap (λ o. o >>= λ u. run_late m u (more.before ++ more.after)) second ∙ more.leads;
          })
      behind b u second place now (inr more) =
          inr (record {
            beside = record {
              last = more.beside.last;
              possible = more.beside.possible;
              leads = ap (λ o. o >>= λ u. run_late m u steps) second ∙ more.beside.leads;
            };
            stays = ap (slice_get z.threads) (sym place) ∙ more.stays ∙ ap (λ x. Some x) now;
          })

      later : (v : World) → next_late m w s ≡ Some v → is_next_of id s ≡ false → Rest z steps v →
          GoesBeside m a v (Local id) (s ∷ []) →
          GoesFirst m a z (Local id) (s ∷ steps) ⊎ StaysBeside m a z (Local id) (s ∷ steps) t.at t.now
      later v goes other rest beside =
          let k = local_taken m w a id may in
          let self : k.t ≡ t = some_is k.t t (sym k.found ∙ is) in
          let ready : t.now.phase ≡ Ready =
          is_ready_is t.now.phase (ap (λ (x : Found). is_ready x.now.phase) (sym self) ∙ k.ready) in
          let spared_now =
          late_run m (λ x. IsSpared m x.threads id (order_deletes id))
          (undeleted_kept m id (not-true (is_deletable m id) alone)) timed h (opening m) w was (opening_late m)
          (opening_spared m id (order_deletes id) refl) in
          let undone = ready_undone m w id t is (ap is_ready ready) spared_now.0.standing.sound in
          let none = undone t is in
          let kept = stays m w id t is ready none.0 none.1 v s goes other (spares m w id t s is none.1 spared_now.1) in
          let here = known m w id t is in
          let there : found m v id ≡ Some (record t { clock = slice_index v.clocks t.declared.cpu }) =
          known_found m v id (record t { clock = slice_index v.clocks t.declared.cpu })
          (record { place = here.place; declared = here.declared; now = kept; clock = refl }) in
          behind beside.last (record t { clock = slice_index v.clocks t.declared.cpu })
          (step_one a beside.last s beside.leads) refl refl
          (rest beside.last (record t { clock = slice_index v.clocks t.declared.cpu }) there beside.possible)

      by : (v : World) → next_late m w s ≡ Some v → run_late m v steps ≡ Some z → (b : Bool) → is_next_of id s ≡ b →
          Rest z steps v →
          GoesFirst m a z (Local id) (s ∷ steps) ⊎ StaysBeside m a z (Local id) (s ∷ steps) t.at t.now
      by v goes rest true its more =
          let same : s ≡ Local id = same_quiet m w a v id (Local id) s (same_is id id refl) may its goes in
          let there : v ≡ a = some_is v a (sym goes ∙ ap (next_late m w) same ∙ may) in
          inl
          (record {
            before = [];
            after = steps;
            is = ap (λ y. y ∷ steps) same;
            leads = ap (λ y. run_late m y steps) (sym there) ∙ rest;
          })
      by v goes rest false other more =
          either (alone_anyway m h w a v (Local id) (s ∷ []) timed was alone may (one_step w v s goes))
        where
          either : GoesAnyway m a v (Local id) (s ∷ []) →
              GoesFirst m a z (Local id) (s ∷ steps) ⊎ StaysBeside m a z (Local id) (s ∷ steps) t.at t.now
          either (inl first) =
              absurd
              (not_both (is_next_of id s) other
              (ap (is_next_of id) (only_one s (Local id) first.before first.after first.is) ∙ same_is id id refl))
          either (inr beside) = later v goes other more beside
