-- An order is given and done.
use Rattle.std.proofs.Common.{◌≡◌, ℕ, zero, suc, ◌<◌, not, Bool, true, false, cond, is_some, Option, Some, None, List, [], ◌∷◌, refl, ap, sym, ◌∙◌, subst, arith}
use Rattle.std.specs.Prelude.{slice_index_or, ◌==◌}
use Rattle.l4_model.specs.Words.{GlobalId}
use Rattle.l4_model.specs.Machine.{Machine, OrderKind, CancelSend, CancelReceive, CancelBoth, Delete, place_of}
use Rattle.l4_model.specs.World.{PendingOrder, Context, Thread, changed, opening_thread, is_deleted}
use Rattle.l4_model.specs.Effects.{asked, orders, obeyed}
use Rattle.l4_model.specs.Steps as steps
use Rattle.l4_core_model.specs.Plain as plain
use Rattle.l4_core_model.specs.Letters.{Cause, Letter, OrderLetter, cause_of}
use Rattle.l4_core_model.specs.Local.{Local, declared, is_own, thread, comes_to}
use Rattle.l4_core_model.specs.Acts.{Work, ◌▷◌, tells, does, posts, asks, obeys, gives_order, order_goes_to, split_place, withdraws, withdraws_for}
use Rattle.l4_thread.specs.declared.changes.Change.TheVariants.{Obey}
use Rattle.tcb_arena.specs.Inner.Blocks.{is_ready as is_ready_in}
use Rattle.l4_core.specs.Inner.Changing.{IsFitting}
use Rattle.l4_core.specs.Inner.Parts.{AreCore}
use Rattle.l4_core.specs.Processor.{Processor, with_local}
use Rattle.l4_core.specs.EventBuffers.{EventBuffer, with_letter, with_step}
use Rattle.l4_core.specs.Inner.Turning.{work, Does, IsAtHand, IsFree}
use Rattle.l4_core.proofs.Covering.{any-filtered}
use Rattle.l4_core.proofs.Fitting.{ready_not_sends, unqueued}

-- What is asked of a thread, and then known.

withdraws_local : (m : Machine) (cause : Cause) (i : ℕ) (o : Option ℕ) (x : Work) → (withdraws m cause i o x).local ≡ x.local
withdraws_local m cause i None x = refl
withdraws_local m cause i (Some r) x = refl

withdrawn_local : (p : Processor) (j : ℕ) (o : Option Cause) (x : Work) → (withdraws_for p.machine p.cpu j o x).local ≡ x.local
withdrawn_local p j None x = refl
withdrawn_local p j (Some cause) x = withdraws_local p.machine cause j (split_place p.machine p.cpu x.local j) x

obeys_local : (p : Processor) (caller : GlobalId) (what : OrderKind) (j : ℕ) (x : Work) → (obeys p.machine p.cpu caller what j x).local ≡ asks what j x.local
obeys_local p caller what j x = by (is_deleted (thread x.local j).phase)
  where
    done : Work
    done = x ▷ tells (steps.Obey caller) ▷ does (asks what j)

    by : (b : Bool) → (cond b done (withdraws_for p.machine p.cpu j (cause_of what) done)).local ≡ asks what j x.local
    by true = refl
    by false = withdrawn_local p j (cause_of what) done

-- What an order leaves of a processor.
pub obeyed_is : (p q v : Processor) (i j : ℕ) (order : PendingOrder) (caller : GlobalId) (middle after : EventBuffer) → q ≡ with_local p (comes_to i (orders order) p.local) → Does (obeys q.machine q.cpu caller order.what j) q v middle after →
    v ≡ with_local p (asks order.what j (comes_to i (orders order) p.local))
obeyed_is p q v i j order caller middle after is doing =
    let machine = doing.machine ∙ ap (λ (x : Processor). x.machine) is in
    let cpu = doing.cpu ∙ ap (λ (x : Processor). x.cpu) is in
    let local = ap (λ (x : Work). x.local) doing.work ∙ obeys_local q caller order.what j (work q.local middle) ∙ ap (λ (x : Processor). asks order.what j x.local) is in
    rebuilt v p _ machine cpu local
  where
    rebuilt : (v p : Processor) (l : Local) → v.machine ≡ p.machine → v.cpu ≡ p.cpu → v.local ≡ l → v ≡ with_local p l
    rebuilt v p l m c e =
        ap (λ n. with_local (record v { machine = n }) v.local) m ∙ ap (λ n. with_local (record p { cpu = n }) v.local) c ∙ ap (with_local p) e

-- The caller stays as it is while another thread, or itself, is asked.

asks_unready : (what : OrderKind) (j i : ℕ) (l : Local) → is_ready_in l.lists i ≡ false → is_ready_in (asks what j l).lists i ≡ false
asks_unready CancelSend j i l e = e
asks_unready CancelReceive j i l e = e
asks_unready CancelBoth j i l e = e
asks_unready Delete j i l e = any-filtered (λ b. i == b) (λ b. not (j == b)) l.lists.ready e

asks_unqueued : (what : OrderKind) (j i : ℕ) (l : Local) → plain.is_queued (asks what j l).lists i ≡ plain.is_queued l.lists i
asks_unqueued CancelSend j i l = refl
asks_unqueued CancelReceive j i l = refl
asks_unqueued CancelBoth j i l = refl
asks_unqueued Delete j i l = refl

-- A part of a thread that a change keeps.
kept_in : {A : Type 0} (part : Thread → A) (ts : List Thread) (f : Thread → Thread) (j i : ℕ) → ((t : Thread) → part (f t) ≡ part t) → part (slice_index_or (changed f ts j) i opening_thread) ≡ part (slice_index_or ts i opening_thread)
kept_in part [] f j i same = refl
kept_in part (t ∷ ts) f zero zero same = same t
kept_in part (t ∷ ts) f zero (suc i) same = refl
kept_in part (t ∷ ts) f (suc j) zero same = refl
kept_in part (t ∷ ts) f (suc j) (suc i) same = kept_in part ts f j i same

asks_context : (what : OrderKind) (j i : ℕ) (l : Local) → (thread (asks what j l) i).context ≡ (thread l i).context
asks_context CancelSend j i l = kept_in (λ t. t.context) l.threads (asked CancelSend) j i (λ t. refl)
asks_context CancelReceive j i l = kept_in (λ t. t.context) l.threads (asked CancelReceive) j i (λ t. refl)
asks_context CancelBoth j i l = kept_in (λ t. t.context) l.threads (asked CancelBoth) j i (λ t. refl)
asks_context Delete j i l = kept_in (λ t. t.context) l.threads (asked Delete) j i (λ t. refl)

asks_send : (what : OrderKind) (j i : ℕ) (l : Local) → (thread (asks what j l) i).send ≡ (thread l i).send
asks_send CancelSend j i l = kept_in (λ t. t.send) l.threads (asked CancelSend) j i (λ t. refl)
asks_send CancelReceive j i l = kept_in (λ t. t.send) l.threads (asked CancelReceive) j i (λ t. refl)
asks_send CancelBoth j i l = kept_in (λ t. t.send) l.threads (asked CancelBoth) j i (λ t. refl)
asks_send Delete j i l = kept_in (λ t. t.send) l.threads (asked Delete) j i (λ t. refl)

pub still_free : (p v : Processor) (i j : ℕ) (order : PendingOrder) → AreCore p → IsAtHand p i → v ≡ with_local p (asks order.what j (comes_to i (orders order) p.local)) → IsFree v i
still_free p v i j order core hand is = subst (λ (x : Processor). IsFree x i) (sym is) (record {
  own = hand.own;
  unready = asks_unready order.what j i (comes_to i (orders order) p.local) hand.unready;
  unqueued = asks_unqueued order.what j i (comes_to i (orders order) p.local) ∙ unqueued p.machine p.cpu p.local i core.settled hand.own.own (ready_not_sends _ hand.ready);
})

pub still_fitting : (p v : Processor) (i j : ℕ) (order : PendingOrder) → AreCore p → IsAtHand p i → (thread p.local i).context.place < 1024 → v ≡ with_local p (asks order.what j (comes_to i (orders order) p.local)) → IsFitting Obey (thread v.local i)
still_fitting p v i j order core hand lt is = record {
  living = λ e. cc;
  idle = λ e sends. absurd (ready_not_sends _ hand.ready (core.settled.sending i hand.own.own (ap is_some (sym send) ∙ sends)));
  room = λ e. omega (arith, place, lt);
  next = λ e. cc;
}
  where
    ordered : Local
    ordered = comes_to i (orders order) p.local

    send : (thread v.local i).send ≡ (thread p.local i).send
    send = ap (λ (x : Processor). (thread x.local i).send) is ∙ asks_send order.what j i ordered ∙ kept_in (λ t. t.send) p.local.threads (orders order) i i (λ t. refl)

    place : (thread v.local i).context.place ≡ (thread p.local i).context.place
    place = ap (λ (x : Processor). (thread x.local i).context.place) is ∙ ap (λ (c : Context). c.place) (asks_context order.what j i ordered ∙ kept_in (λ t. t.context) p.local.threads (orders order) i i (λ t. refl))

-- An order is given.

abbrev given : Processor → (i : ℕ) → PendingOrder → EventBuffer → Work
given p i order before = work p.local before ▷ does (comes_to i (orders order)) ▷ tells (steps.Order (declared p.machine i).id order.target order.what)

given_is : (p q : Processor) (i : ℕ) (order : PendingOrder) (caller : GlobalId) (before middle : EventBuffer) → caller ≡ (declared p.machine i).id → q ≡ with_local p (comes_to i (orders order) p.local) → middle ≡ with_step (steps.Order caller order.target order.what) before →
    work q.local middle ≡ given p i order before
given_is p q i order caller before middle named is adds =
    ap (λ (x : Processor). work x.local middle) is ∙ ap (work (comes_to i (orders order) p.local)) adds
    ∙ ap (λ (id : GlobalId). work (comes_to i (orders order) p.local) (with_step (steps.Order id order.target order.what) before)) named

pub gives_here : (p q v u : Processor) (i j : ℕ) (order : PendingOrder) (caller : GlobalId) (before middle after : EventBuffer) → caller ≡ (declared p.machine i).id → q ≡ with_local p (comes_to i (orders order) p.local) → middle ≡ with_step (steps.Order caller order.target order.what) before →
    place_of p.machine order.target ≡ Some j → is_own p.machine p.cpu j ≡ true → Does (obeys q.machine q.cpu caller order.what j) q v middle after → u ≡ with_local v (comes_to i obeyed v.local) → Does (gives_order p.machine p.cpu i order) p u before after
gives_here p q v u i j order caller before middle after named is adds at own doing last =
    let x = given p i order before in
    let goes : order_goes_to p.machine p.cpu i order (place_of p.machine order.target) x ≡ does (comes_to i obeyed) (obeys p.machine p.cpu (declared p.machine i).id order.what j x) =
    ap (λ o. order_goes_to p.machine p.cpu i order o x) at ∙ ap (λ b. cond b (does (comes_to i obeyed) (obeys p.machine p.cpu (declared p.machine i).id order.what j x)) (posts (declared p.machine j).cpu (OrderLetter (declared p.machine i).id order.target order.what) x)) own in
    let done : work v.local after ≡ obeys p.machine p.cpu (declared p.machine i).id order.what j x =
    doing.work ∙ ap (λ (y : Processor). obeys y.machine y.cpu caller order.what j (work q.local middle)) is ∙ ap (obeys p.machine p.cpu caller order.what j) (given_is p q i order caller before middle named is adds)
    ∙ ap (λ (id : GlobalId). obeys p.machine p.cpu id order.what j x) named in
    record {
      machine = ap (λ (y : Processor). y.machine) last ∙ doing.machine ∙ ap (λ (y : Processor). y.machine) is;
      cpu = ap (λ (y : Processor). y.cpu) last ∙ doing.cpu ∙ ap (λ (y : Processor). y.cpu) is;
      stamp = ap (λ (y : Processor). y.local.stamp) last ∙ doing.stamp ∙ ap (λ (y : Processor). y.local.stamp) is;
      kept = doing.kept ∙ ap (λ (t : EventBuffer). t.before) adds;
      work = ap (λ (y : Processor). work y.local after) last ∙ ap (does (comes_to i obeyed)) done ∙ sym goes;
    }

pub gives_away : (p q : Processor) (i j : ℕ) (order : PendingOrder) (caller : GlobalId) (before middle after : EventBuffer) (cpu : ℕ) (letter : Letter) → caller ≡ (declared p.machine i).id → q ≡ with_local p (comes_to i (orders order) p.local) →
    middle ≡ with_step (steps.Order caller order.target order.what) before → place_of p.machine order.target ≡ Some j → is_own p.machine p.cpu j ≡ false → cpu ≡ (declared p.machine j).cpu →
    letter ≡ record { stamp = q.local.stamp; content = OrderLetter caller order.target order.what } → after ≡ with_letter cpu letter middle → Does (gives_order p.machine p.cpu i order) p q before after
gives_away p q i j order caller before middle after cpu letter named is adds at away there written posted =
    let x = given p i order before in
    let goes : order_goes_to p.machine p.cpu i order (place_of p.machine order.target) x ≡ posts (declared p.machine j).cpu (OrderLetter (declared p.machine i).id order.target order.what) x =
    ap (λ o. order_goes_to p.machine p.cpu i order o x) at ∙ ap (λ b. cond b (does (comes_to i obeyed) (obeys p.machine p.cpu (declared p.machine i).id order.what j x)) (posts (declared p.machine j).cpu (OrderLetter (declared p.machine i).id order.target order.what) x)) away in
    let sent : work q.local after ≡ posts cpu (OrderLetter caller order.target order.what) (work q.local middle) =
    ap (work q.local) posted ∙ ap (λ (n : Letter). work q.local (with_letter cpu n middle)) written in
    record {
      machine = ap (λ (y : Processor). y.machine) is;
      cpu = ap (λ (y : Processor). y.cpu) is;
      stamp = ap (λ (y : Processor). y.local.stamp) is;
      kept = ap (λ (t : EventBuffer). t.before) posted ∙ ap (λ (t : EventBuffer). t.before) adds;
      work = sent ∙ ap (λ n. posts n (OrderLetter caller order.target order.what) (work q.local middle)) there
          ∙ ap (λ (id : GlobalId). posts (declared p.machine j).cpu (OrderLetter id order.target order.what) (work q.local middle)) named
          ∙ ap (posts (declared p.machine j).cpu (OrderLetter (declared p.machine i).id order.target order.what)) (given_is p q i order caller before middle named is adds) ∙ sym goes;
    }

pub gives_nobody : (p q : Processor) (i : ℕ) (order : PendingOrder) (caller : GlobalId) (before middle : EventBuffer) → caller ≡ (declared p.machine i).id → q ≡ with_local p (comes_to i (orders order) p.local) → middle ≡ with_step (steps.Order caller order.target order.what) before →
    place_of p.machine order.target ≡ None → Does (gives_order p.machine p.cpu i order) p q before middle
gives_nobody p q i order caller before middle named is adds at = record {
  machine = ap (λ (y : Processor). y.machine) is;
  cpu = ap (λ (y : Processor). y.cpu) is;
  stamp = ap (λ (y : Processor). y.local.stamp) is;
  kept = ap (λ (t : EventBuffer). t.before) adds;
  work = given_is p q i order caller before middle named is adds ∙ sym (ap (λ o. order_goes_to p.machine p.cpu i order o (given p i order before)) at);
}
