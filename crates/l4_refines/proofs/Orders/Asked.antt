-- What is asked of a thread is done in the world and at home, and they agree as before.
use Rattle.std.proofs.Common.{◌≡◌, ℕ, false, Option, Some, None, refl, ap, sym, ◌∙◌, subst}
use Rattle.l4_model.specs.Machine.{Machine, OrderKind, CancelSend, CancelReceive, CancelBoth, Delete}
use Rattle.l4_model.specs.World.{Thread, Send, Receive, PendingOrder, Phase, Ready, Sending, Receiving, Ordering, Ended, Deleted, is_alive}
use Rattle.l4_model.specs.Effects.{asked, decided, goes_on, obeyed}
use Rattle.l4_model.proofs.Chains.{cond_both}
use Rattle.l4_model.specs.Reached.{Suits}
use Rattle.l4_core_model.specs.Letters.{Result, Delivered, Refused, TimedOut, Nobody, Cancelled, Dropped}
use Rattle.l4_core_model.specs.Local.{after_decision, was_delivered}
use Rattle.l4_refines.proofs.Relation.Rows.{AreTogether, IsLeft, AgreesIn, AgreesByPhase, Agrees}
use Rattle.l4_refines.proofs.Relation.Agreement.{same_by_phase, split_agrees, ended_deleted}
use Rattle.l4_refines.proofs.Sends.Deciding.{ended_none, ended_begun}
use Rattle.l4_refines.proofs.Sends.Waiting.{agrees_send, agrees_begun}
use Rattle.l4_refines.proofs.Turns.Ending.{agrees_wish}

pub agrees_order : {m : Machine} (world t : Thread) → Agrees m world t → world.order ≡ t.order
agrees_order world t a = by t.phase a.by_phase
  where
    by : (p : Phase) → AgreesIn p world t → world.order ≡ t.order
    by Ready a = ap (λ (t : Thread). t.order) a
    by Sending a = ap (λ (t : Thread). t.order) a
    by (Receiving receive since) a = ap (λ (t : Thread). t.order) a.same
    by Ordering a = ap (λ (t : Thread). t.order) a
    by Ended a = ap (λ (t : Thread). t.order) a
    by Deleted a = a.order

-- Where the world has it as home does

asked_receiving : (what : OrderKind) (receive : Receive) (since began : ℕ) (t : Thread) → (what ≡ Delete → ⊥) → t.phase ≡ Receiving receive since →
    asked what (record t { phase = Receiving receive began }) ≡ record (asked what t) { phase = Receiving receive began }
asked_receiving CancelSend receive since began t ne is = rw is refl
asked_receiving CancelReceive receive since began t ne is = rw is refl
asked_receiving CancelBoth receive since began t ne is = rw is refl
asked_receiving Delete receive since began t ne is = absurd (ne refl)

asked_phase : (what : OrderKind) (t : Thread) → (what ≡ Delete → ⊥) → (asked what t).phase ≡ t.phase
asked_phase CancelSend t ne = refl
asked_phase CancelReceive t ne = refl
asked_phase CancelBoth t ne = refl
asked_phase Delete t ne = absurd (ne refl)

asked_left : (what : OrderKind) (world t : Thread) → (what ≡ Delete → ⊥) → t.phase ≡ Deleted → IsLeft world t → IsLeft (asked what world) (asked what t)
asked_left CancelSend world t ne is a = let gone = a.deleted in let wish = a.cancel_send in record {
  deleted = gone;
  begun = a.begun;
  send = a.send;
  order = a.order;
  cancel_send = rw (is, gone, wish) refl;
}
asked_left CancelReceive world t ne is a = record { deleted = a.deleted; begun = a.begun; send = a.send; order = a.order; cancel_send = a.cancel_send }
asked_left CancelBoth world t ne is a = let gone = a.deleted in let wish = a.cancel_send in record {
  deleted = gone;
  begun = a.begun;
  send = a.send;
  order = a.order;
  cancel_send = rw (is, gone, wish) refl;
}
asked_left Delete world t ne is a = absurd (ne refl)

cancelled_by_phase : (what : OrderKind) (world t : Thread) → (what ≡ Delete → ⊥) → AgreesByPhase world t → AgreesByPhase (asked what world) (asked what t)
cancelled_by_phase what world t ne a = by t.phase refl a
  where
    at : (p : Phase) → t.phase ≡ p → AgreesIn p (asked what world) (asked what t) → AgreesByPhase (asked what world) (asked what t)
    at p is h = subst (λ q. AgreesIn q (asked what world) (asked what t)) (sym (asked_phase what t ne ∙ is)) h

    by : (p : Phase) → t.phase ≡ p → AgreesIn p world t → AgreesByPhase (asked what world) (asked what t)
    by Ready is a = same_by_phase (asked what world) (asked what t) (ap (asked what) a)
    by Sending is a = same_by_phase (asked what world) (asked what t) (ap (asked what) a)
    by (Receiving receive since) is a = at (Receiving receive since) is (record {
      began = a.began;
      no_later = a.no_later;
      same = ap (asked what) a.same ∙ asked_receiving what receive since a.began t ne is;
    })
    by Ordering is a = same_by_phase (asked what world) (asked what t) (ap (asked what) a)
    by Ended is a = same_by_phase (asked what world) (asked what t) (ap (asked what) a)
    by Deleted is a = at Deleted is (asked_left what world t ne is a)

deleted_by_phase : {m : Machine} (world t : Thread) → Agrees m world t → AgreesByPhase (asked Delete world) (asked Delete t)
deleted_by_phase world t a = record {
  deleted = refl;
  begun = agrees_begun world t a;
  send = agrees_send world t a;
  order = agrees_order world t a;
  cancel_send = agrees_wish world t a;
}

asked_by_phase : {m : Machine} (what : OrderKind) (world t : Thread) → Agrees m world t → AgreesByPhase (asked what world) (asked what t)
asked_by_phase Delete world t a = deleted_by_phase world t a
asked_by_phase CancelSend world t a = cancelled_by_phase CancelSend world t (λ e. cc) a.by_phase
asked_by_phase CancelReceive world t a = cancelled_by_phase CancelReceive world t (λ e. cc) a.by_phase
asked_by_phase CancelBoth world t a = cancelled_by_phase CancelBoth world t (λ e. cc) a.by_phase

pub asked_agrees : {m : Machine} (what : OrderKind) (world t : Thread) → Agrees m world t → Agrees m (asked what world) (asked what t)
asked_agrees what world t a = record { by_phase = asked_by_phase what world t a; together = λ one. ap (asked what) (a.together one) }

-- While the decision of its send is under way: to be asked and to hear of it can be done in any order.

asked_ended : (what : OrderKind) (result : Result) (clock : ℕ) (t : Thread) (send : Send) → (what ≡ Delete → ⊥) → t.phase ≡ Sending → t.send ≡ Some send →
    asked what (after_decision result clock t) ≡ after_decision result clock (asked what t)
asked_ended Delete result clock t send ne is has = absurd (ne refl)
asked_ended CancelSend (Refused TimedOut) clock t send ne is has = rw is refl
asked_ended CancelSend (Refused Nobody) clock t send ne is has = rw is refl
asked_ended CancelSend (Refused Cancelled) clock t send ne is has = rw is refl
asked_ended CancelSend (Refused Dropped) clock t send ne is has = rw is refl
asked_ended CancelReceive (Refused TimedOut) clock t send ne is has = rw is refl
asked_ended CancelReceive (Refused Nobody) clock t send ne is has = rw is refl
asked_ended CancelReceive (Refused Cancelled) clock t send ne is has = rw is refl
asked_ended CancelReceive (Refused Dropped) clock t send ne is has = rw is refl
asked_ended CancelBoth (Refused TimedOut) clock t send ne is has = rw is refl
asked_ended CancelBoth (Refused Nobody) clock t send ne is has = rw is refl
asked_ended CancelBoth (Refused Cancelled) clock t send ne is has = rw is refl
asked_ended CancelBoth (Refused Dropped) clock t send ne is has = rw is refl
asked_ended CancelSend Delivered clock t send ne is has = by send.receive refl
  where
    by : (o : Option Receive) → send.receive ≡ o → asked CancelSend (after_decision Delivered clock t) ≡ after_decision Delivered clock (asked CancelSend t)
    by None e = rw (has, is, e) refl
    by (Some receive) e = rw (has, is, e) refl
asked_ended CancelReceive Delivered clock t send ne is has = by send.receive refl
  where
    by : (o : Option Receive) → send.receive ≡ o → asked CancelReceive (after_decision Delivered clock t) ≡ after_decision Delivered clock (asked CancelReceive t)
    by None e = rw (has, is, e) refl
    by (Some receive) e = rw (has, is, e) refl
asked_ended CancelBoth Delivered clock t send ne is has = by send.receive refl
  where
    by : (o : Option Receive) → send.receive ≡ o → asked CancelBoth (after_decision Delivered clock t) ≡ after_decision Delivered clock (asked CancelBoth t)
    by None e = rw (has, is, e) refl
    by (Some receive) e = rw (has, is, e) refl

-- of a deleted thread
asked_decided : (what : OrderKind) (t : Thread) → (what ≡ Delete → ⊥) → t.phase ≡ Deleted → asked what (decided t) ≡ decided (asked what t)
asked_decided CancelSend t ne is = rw is refl
asked_decided CancelReceive t ne is = rw is refl
asked_decided CancelBoth t ne is = rw is refl
asked_decided Delete t ne is = absurd (ne refl)

-- The wish is cleared with the send.
goes_on_wish : (receive : Option Receive) (clock : ℕ) (t : Thread) → (goes_on receive clock t).cancel_send ≡ false
goes_on_wish None clock t = refl
goes_on_wish (Some receive) clock t = refl

delivered_wish : (o : Option Send) (clock : ℕ) (t : Thread) (send : Send) → o ≡ Some send → (was_delivered o clock t).cancel_send ≡ false
delivered_wish None clock t send has = cc
delivered_wish (Some s) clock t send has =
    cond_both (λ (u : Thread). u.cancel_send) false (is_alive t.phase) (goes_on s.receive clock t) (decided t) (goes_on_wish s.receive clock t) refl

ended_wish : (result : Result) (clock : ℕ) (t : Thread) (send : Send) → t.send ≡ Some send → (after_decision result clock t).cancel_send ≡ false
ended_wish Delivered clock t send has = delivered_wish t.send clock t send has
ended_wish (Refused TimedOut) clock t send has = cond_both (λ (u : Thread). u.cancel_send) false (is_alive t.phase) _ (decided t) refl refl
ended_wish (Refused Nobody) clock t send has = cond_both (λ (u : Thread). u.cancel_send) false (is_alive t.phase) _ (decided t) refl refl
ended_wish (Refused Cancelled) clock t send has = cond_both (λ (u : Thread). u.cancel_send) false (is_alive t.phase) _ (decided t) refl refl
ended_wish (Refused Dropped) clock t send has = cond_both (λ (u : Thread). u.cancel_send) false (is_alive t.phase) _ (decided t) refl refl

pub send_asked : (what : OrderKind) (t : Thread) → (asked what t).send ≡ t.send
send_asked CancelSend t = refl
send_asked CancelReceive t = refl
send_asked CancelBoth t = refl
send_asked Delete t = refl

-- A thread is asked while the answer to its send is under way: they agree again once it hears.
pub asked_while_decided : {m : Machine} (what : OrderKind) (result : Result) (clock : ℕ) (world t : Thread) (send : Send) → t.send ≡ Some send →
    t.order ≡ None → Suits t.phase (Some send) t.order → (AreTogether m → ⊥) → Agrees m world (after_decision result clock t) →
    Agrees m (asked what world) (after_decision result clock (asked what t))
asked_while_decided {m = m} what result clock world t send has order suits split a = by what t.phase refl suits
  where
    cancelled : (what : OrderKind) → (what ≡ Delete → ⊥) → (p : Phase) → t.phase ≡ p → Suits p (Some send) t.order →
        Agrees m (asked what world) (after_decision result clock (asked what t))
    cancelled what ne Ready is s = cc
    cancelled what ne Sending is s =
        subst (Agrees m (asked what world)) (asked_ended what result clock t send ne is has) (asked_agrees what world (after_decision result clock t) a)
    cancelled what ne (Receiving receive since) is s = cc
    cancelled what ne Ordering is s = cc
    cancelled what ne Ended is s = cc
    cancelled what ne Deleted is s =
        let before : after_decision result clock t ≡ decided t = ended_deleted result clock t send is has in
        let after : after_decision result clock (asked what t) ≡ decided (asked what t) =
        ended_deleted result clock (asked what t) send (asked_phase what t ne ∙ is) (send_asked what t ∙ has) in
        subst (Agrees m (asked what world)) (ap (asked what) before ∙ asked_decided what t ne is ∙ sym after) (asked_agrees what world (after_decision result clock t) a)

    by : (what : OrderKind) (p : Phase) → t.phase ≡ p → Suits p (Some send) t.order → Agrees m (asked what world) (after_decision result clock (asked what t))
    by Delete p is s =
        let after : after_decision result clock (asked Delete t) ≡ decided (asked Delete t) = ended_deleted result clock (asked Delete t) send refl has in
        let none = ended_none result clock t send has order in
        let left : AgreesByPhase (asked Delete world) (decided (asked Delete t)) = record {
          deleted = refl;
          begun = agrees_begun world (after_decision result clock t) a ∙ ended_begun result clock t;
          send = agrees_send world (after_decision result clock t) a ∙ none.0;
          order = agrees_order world (after_decision result clock t) a ∙ none.1 ∙ sym order;
          cancel_send = agrees_wish world (after_decision result clock t) a ∙ ended_wish result clock t send has;
        } in
        subst (Agrees m (asked Delete world)) (sym after) (split_agrees (asked Delete world) (decided (asked Delete t)) split left)
    by CancelSend p is s = cancelled CancelSend (λ e. cc) p is s
    by CancelReceive p is s = cancelled CancelReceive (λ e. cc) p is s
    by CancelBoth p is s = cancelled CancelBoth (λ e. cc) p is s

-- So with the answer to its order.
pub asked_obeyed : (what : OrderKind) (t : Thread) → (what ≡ Delete → ⊥) → (p : Phase) → t.phase ≡ p → Suits p None t.order → (order : PendingOrder) →
    t.order ≡ Some order → asked what (obeyed t) ≡ obeyed (asked what t)
asked_obeyed Delete t ne p is s order has = absurd (ne refl)
asked_obeyed CancelSend t ne Ordering is s order has = rw is refl
asked_obeyed CancelReceive t ne Ordering is s order has = rw is refl
asked_obeyed CancelBoth t ne Ordering is s order has = rw is refl
asked_obeyed CancelSend t ne Deleted is s order has = rw is refl
asked_obeyed CancelReceive t ne Deleted is s order has = rw is refl
asked_obeyed CancelBoth t ne Deleted is s order has = rw is refl
asked_obeyed what t ne Ready is s order has = let none = s.1 in cc
asked_obeyed what t ne Sending is s order has = let none = s.0 in cc
asked_obeyed what t ne (Receiving receive since) is s order has = let none = s.1 in cc
asked_obeyed what t ne Ended is s order has = let none = s.1 in cc
