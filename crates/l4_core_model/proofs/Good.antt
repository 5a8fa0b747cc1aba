-- What becomes of one thread goes on to be good.
use Rattle.std.proofs.Common.{◌≡◌, ℕ, ◌≤◌, true, false, Option, Some, None, refl, sym, subst, arith}
use Rattle.l4_model.specs.Machine.{Instr, End, Delete}
use Rattle.l4_model.specs.World.{Thread, Send, Receive, PendingOrder, Message, Phase, Ready, Sending, Receiving, Ordering, Ended, Deleted, is_ready, is_alive}
use Rattle.l4_model.specs.Effects.{phase_after, runs, waits, begins, fails, decided, refused, receives, goes_on, delivered, asked, orders, obeyed}
use Rattle.l4_model.proofs.Chains.{cond_both, cond_keeps}
use Rattle.l4_model.specs.Reached.{Suits}
use Rattle.l4_core_model.specs.Letters.{Refusal, TimedOut, Nobody, Cancelled, Dropped, Refused, Delivered}
use Rattle.l4_core_model.specs.Local.{after_decision, was_delivered, was_dropped}
use Rattle.l4_core_model.proofs.Fit.{IsGood, SendIsSince, PhaseIsSince}

-- which phases have neither a send nor an order
pub ready_has_none : (p : Phase) (send : Option Send) (order : Option PendingOrder) → is_ready p ≡ true → Suits p send order → (send ≡ None) × (order ≡ None)
ready_has_none Ready send order h s = s
ready_has_none Sending send order h s = cc
ready_has_none (Receiving receive since) send order h s = cc
ready_has_none Ordering send order h s = cc
ready_has_none Ended send order h s = cc
ready_has_none Deleted send order h s = cc

pub receiving_has_none : (p : Phase) (receive : Receive) (since : ℕ) (send : Option Send) (order : Option PendingOrder) → p ≡ Receiving receive since → Suits p send order → (send ≡ None) × (order ≡ None)
receiving_has_none p receive since send order e s = rw e at s

sender_has_no_order : (p : Phase) (send : Send) (order : Option PendingOrder) → is_alive p ≡ true → Suits p (Some send) order → order ≡ None
sender_has_no_order Ready send order h s = cc
sender_has_no_order Sending send order h s = s.1
sender_has_no_order (Receiving receive since) send order h s = cc
sender_has_no_order Ordering send order h s = cc
sender_has_no_order Ended send order h s = cc
sender_has_no_order Deleted send order h s = cc

pub deleted_is : (p : Phase) → is_alive p ≡ false → p ≡ Deleted
deleted_is Ready h = cc
deleted_is Sending h = cc
deleted_is (Receiving receive since) h = cc
deleted_is Ordering h = cc
deleted_is Ended h = cc
deleted_is Deleted h = refl

none_since : (clock : ℕ) (o : Option Send) → o ≡ None → SendIsSince clock o
none_since clock o e = rw e tt

-- a good thread that has neither send nor order, in a phase where it may have neither
quiet_good : (clock : ℕ) (t : Thread) → Suits t.phase None None → t.send ≡ None → t.order ≡ None → PhaseIsSince clock t.phase → IsGood clock t
quiet_good clock t suits send order receives = record { suits = rw (send, order) suits; sends = none_since clock t.send send; receives = receives }

pub runs_good : (clock : ℕ) (i : Instr) (t : Thread) → is_ready t.phase ≡ true → IsGood clock t → IsGood clock (runs i t)
runs_good clock i t ready g =
    let none = ready_has_none t.phase t.send t.order ready g.suits in
    quiet_good clock (runs i t) (suits i) none.0 none.1 (since i)
  where
    suits : (i : Instr) → Suits (phase_after i) None None
    suits End = (refl, refl)
    suits _ = (refl, refl)

    since : (i : Instr) → PhaseIsSince clock (phase_after i)
    since End = tt
    since _ = tt

le_same : (n : ℕ) → n ≤ n
le_same n = omega arith

pub waits_good : (clock : ℕ) (receive : Receive) (t : Thread) → is_ready t.phase ≡ true → IsGood clock t → IsGood clock (waits receive clock t)
waits_good clock receive t ready g =
    let none = ready_has_none t.phase t.send t.order ready g.suits in
    quiet_good clock (waits receive clock t) (refl, refl) none.0 none.1 (le_same clock)

pub begins_good : (clock : ℕ) (send : Send) (t : Thread) → is_ready t.phase ≡ true → send.since ≤ clock → IsGood clock t → IsGood clock (begins send t)
begins_good clock send t ready since g =
    let none = ready_has_none t.phase t.send t.order ready g.suits in
    record { suits = (refl, none.1); sends = since; receives = tt }

pub orders_good : (clock : ℕ) (order : PendingOrder) (t : Thread) → is_ready t.phase ≡ true → IsGood clock t → IsGood clock (orders order t)
orders_good clock order t ready g =
    let none = ready_has_none t.phase t.send t.order ready g.suits in
    record { suits = (none.0, refl); sends = none_since clock t.send none.0; receives = tt }

-- a failure of a thread that has neither
pub fails_good : (clock code : ℕ) (t : Thread) → (is_alive t.phase ≡ true → (t.send ≡ None) × (t.order ≡ None)) → IsGood clock t → IsGood clock (fails code t)
fails_good clock code t none g =
    cond_keeps (IsGood clock) (is_alive t.phase) _ t
    (λ alive. record { suits = none alive; sends = none_since clock t.send (none alive).0; receives = tt })
    (λ gone. g)

pub fails_receiving : (clock code : ℕ) (t : Thread) (receive : Receive) (since : ℕ) → t.phase ≡ Receiving receive since → IsGood clock t → IsGood clock (fails code t)
fails_receiving clock code t receive since is g = fails_good clock code t (λ alive. receiving_has_none t.phase receive since t.send t.order is g.suits) g

-- a thread whose send was decided
sender_none : (clock : ℕ) (t : Thread) (send : Send) → t.send ≡ Some send → is_alive t.phase ≡ true → IsGood clock t → t.order ≡ None
sender_none clock t send has alive g = sender_has_no_order t.phase send t.order alive (rw has at g.suits)

deleted_good : (clock : ℕ) (t : Thread) → t.phase ≡ Deleted → t.send ≡ None → IsGood clock t
deleted_good clock t gone none = record { suits = rw gone tt; sends = none_since clock t.send none; receives = rw gone tt }

refused_good : (clock code : ℕ) (t : Thread) (send : Send) → t.send ≡ Some send → IsGood clock t → IsGood clock (refused code t)
refused_good clock code t send has g =
    cond_keeps (IsGood clock) (is_alive t.phase) _ (decided t)
    (λ alive. record { suits = (refl, sender_none clock t send has alive g); sends = tt; receives = tt })
    (λ gone. deleted_good clock (decided t) (deleted_is t.phase gone) refl)

dropped_good : (clock : ℕ) (t : Thread) (send : Send) → t.send ≡ Some send → IsGood clock t → IsGood clock (was_dropped t)
dropped_good clock t send has g =
    cond_keeps (IsGood clock) (is_alive t.phase) _ (decided t)
    (λ alive. record { suits = (refl, sender_none clock t send has alive g); sends = tt; receives = tt })
    (λ gone. deleted_good clock (decided t) (deleted_is t.phase gone) refl)

goes_on_good : (clock : ℕ) (receive : Option Receive) (t : Thread) → t.order ≡ None → IsGood clock (goes_on receive clock t)
goes_on_good clock None t none = record { suits = (refl, none); sends = tt; receives = tt }
goes_on_good clock (Some receive) t none = record { suits = (refl, none); sends = tt; receives = le_same clock }

delivered_good : (clock : ℕ) (t : Thread) (send : Send) → t.send ≡ Some send → IsGood clock t → IsGood clock (delivered send clock t)
delivered_good clock t send has g =
    cond_keeps (IsGood clock) (is_alive t.phase) _ (decided t)
    (λ alive. goes_on_good clock send.receive t (sender_none clock t send has alive g))
    (λ gone. deleted_good clock (decided t) (deleted_is t.phase gone) refl)

pub ended_refused_good : (clock : ℕ) (refusal : Refusal) (t : Thread) (send : Send) → t.send ≡ Some send → IsGood clock t → IsGood clock (after_decision (Refused refusal) clock t)
ended_refused_good clock TimedOut t send has g = refused_good clock 2 t send has g
ended_refused_good clock Nobody t send has g = refused_good clock 4 t send has g
ended_refused_good clock Cancelled t send has g = refused_good clock 6 t send has g
ended_refused_good clock Dropped t send has g = dropped_good clock t send has g

pub ended_delivered_good : (clock : ℕ) (t : Thread) (send : Send) → t.send ≡ Some send → IsGood clock t → IsGood clock (after_decision Delivered clock t)
ended_delivered_good clock t send has g = subst (λ o. IsGood clock (was_delivered o clock t)) (sym has) (delivered_good clock t send has g)

pub receives_good : (clock : ℕ) (message : Message) (tag : ℕ) (t : Thread) (receive : Receive) (since : ℕ) → t.phase ≡ Receiving receive since → IsGood clock t → IsGood clock (receives message tag t)
receives_good clock message tag t receive since is g =
    let none = receiving_has_none t.phase receive since t.send t.order is g.suits in
    record { suits = none; sends = none_since clock t.send none.0; receives = tt }

pub deletes_good : (clock : ℕ) (t : Thread) → IsGood clock t → IsGood clock (asked Delete t)
deletes_good clock t g = record { suits = tt; sends = g.sends; receives = tt }

caller_has_no_send : (p : Phase) (send : Option Send) (order : PendingOrder) → is_alive p ≡ true → Suits p send (Some order) → send ≡ None
caller_has_no_send Ready send order h s = cc
caller_has_no_send Sending send order h s = cc
caller_has_no_send (Receiving receive since) send order h s = cc
caller_has_no_send Ordering send order h s = s.0
caller_has_no_send Ended send order h s = cc
caller_has_no_send Deleted send order h s = cc

pub obeyed_good : (clock : ℕ) (t : Thread) (order : PendingOrder) → t.order ≡ Some order → IsGood clock t → IsGood clock (obeyed t)
obeyed_good clock t order has g =
    cond_keeps (IsGood clock) (is_alive t.phase) _ _
    (λ alive. let none = caller_has_no_send t.phase t.send order alive (rw has at g.suits) in
    record { suits = (none, refl); sends = none_since clock t.send none; receives = tt })
    (λ gone. let is = deleted_is t.phase gone in record { suits = rw is tt; sends = g.sends; receives = rw is tt })

-- Of a thread whose send was decided, neither send nor order is left.

refused_none : (code : ℕ) (t : Thread) → t.order ≡ None → ((refused code t).send ≡ None) × ((refused code t).order ≡ None)
refused_none code t done = (cond_both (λ (x : Thread). x.send) None (is_alive t.phase) _ (decided t) refl refl, cond_both (λ (x : Thread). x.order) None (is_alive t.phase) _ (decided t) done done)

pub ended_refused_none : (clock : ℕ) (refusal : Refusal) (t : Thread) → t.order ≡ None → ((after_decision (Refused refusal) clock t).send ≡ None) × ((after_decision (Refused refusal) clock t).order ≡ None)
ended_refused_none clock TimedOut t done = refused_none 2 t done
ended_refused_none clock Nobody t done = refused_none 4 t done
ended_refused_none clock Cancelled t done = refused_none 6 t done
ended_refused_none clock Dropped t done = (cond_both (λ (x : Thread). x.send) None (is_alive t.phase) _ (decided t) refl refl, cond_both (λ (x : Thread). x.order) None (is_alive t.phase) _ (decided t) done done)

goes_on_none : (clock : ℕ) (receive : Option Receive) (t : Thread) → t.order ≡ None → ((goes_on receive clock t).send ≡ None) × ((goes_on receive clock t).order ≡ None)
goes_on_none clock None t done = (refl, done)
goes_on_none clock (Some receive) t done = (refl, done)

delivered_none : (clock : ℕ) (t : Thread) (send : Send) → t.order ≡ None → ((delivered send clock t).send ≡ None) × ((delivered send clock t).order ≡ None)
delivered_none clock t send done =
    let on = goes_on_none clock send.receive t done in
    (cond_both (λ (x : Thread). x.send) None (is_alive t.phase) _ (decided t) on.0 refl, cond_both (λ (x : Thread). x.order) None (is_alive t.phase) _ (decided t) on.1 done)

pub ended_delivered_none : (clock : ℕ) (t : Thread) (send : Send) → t.send ≡ Some send → t.order ≡ None → ((after_decision Delivered clock t).send ≡ None) × ((after_decision Delivered clock t).order ≡ None)
ended_delivered_none clock t send has done = subst (λ o. ((was_delivered o clock t).send ≡ None) × ((was_delivered o clock t).order ≡ None)) (sym has) (delivered_none clock t send done)
