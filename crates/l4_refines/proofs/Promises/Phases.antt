-- The phases that a thread comes to: a send that it still has is not to end there.
use Rattle.std.proofs.Common.{◌≡◌, ℕ, true, false, Option, Some, None, refl, sym, ◌∙◌, subst, inl, inr}
use Rattle.l4_model.specs.World.{Receive, Message, Send, PendingOrder, Thread, Phase, Ready, Sending, Receiving, Ordering, Deleted, is_ready, is_alive}
use Rattle.l4_model.specs.Machine.{Instr, End}
use Rattle.l4_model.specs.Effects.{phase_after, runs, begins, waits, fails, decided, refused, receives, goes_on, delivered, orders, obeyed}
use Rattle.l4_model.proofs.Chains.{cond_both, cond_keeps}
use Rattle.l4_core_model.specs.Letters.{TimedOut, Nobody, Cancelled, Dropped, Result, Delivered, Refused}
use Rattle.l4_core_model.specs.Local.{was_delivered, was_dropped, after_decision}
use Rattle.l4_refines.proofs.Promises.Locals.{StartsAfresh}

-- From a phase that has no wish
pub record IsWishless (p : Phase) : Type 0 where
  pub unsent : p ≡ Sending → ⊥
  pub alive : p ≡ Deleted → ⊥

ready_wishless : (p : Phase) → is_ready p ≡ true → IsWishless p
ready_wishless p ready = record {
  unsent = λ e. let h : is_ready Sending ≡ true = subst (λ p. is_ready p ≡ true) e ready in cc;
  alive = λ e. let h : is_ready Deleted ≡ true = subst (λ p. is_ready p ≡ true) e ready in cc;
}

pub receiving_wishless : (p : Phase) (receive : Receive) (since : ℕ) → p ≡ Receiving receive since → IsWishless p
receiving_wishless p receive since is = record {
  unsent = λ e. let h : Receiving receive since ≡ Sending = sym is ∙ e in cc;
  alive = λ e. let h : Receiving receive since ≡ Deleted = sym is ∙ e in cc;
}

pub ordering_wishless : (p : Phase) → p ≡ Ordering → IsWishless p
ordering_wishless p is = record {
  unsent = λ e. let h : Ordering ≡ Sending = sym is ∙ e in cc;
  alive = λ e. let h : Ordering ≡ Deleted = sym is ∙ e in cc;
}

wishless_afresh : (t after : Thread) → IsWishless t.phase → after.cancel_send ≡ t.cancel_send → (after.phase ≡ Deleted → ⊥) → StartsAfresh t after
wishless_afresh t after free same alive = record {
  calm = λ h unsent living. same ∙ h free.unsent free.alive;
  send = λ h. inr (same ∙ h free.unsent free.alive, alive);
}

pub runs_afresh : (i : Instr) (t : Thread) → is_ready t.phase ≡ true → StartsAfresh t (runs i t)
runs_afresh i t ready = wishless_afresh t (runs i t) (ready_wishless t.phase ready) refl (λ e. by i e)
  where
    by : (i : Instr) → phase_after i ≡ Deleted → ⊥
    by End e = cc
    by _ e = cc

pub waits_afresh : (receive : Receive) (now : ℕ) (t : Thread) → is_ready t.phase ≡ true → StartsAfresh t (waits receive now t)
waits_afresh receive now t ready = wishless_afresh t (waits receive now t) (ready_wishless t.phase ready) refl (λ e. cc)

pub begins_afresh : (send : Send) (t : Thread) → is_ready t.phase ≡ true → StartsAfresh t (begins send t)
begins_afresh send t ready = let free = ready_wishless t.phase ready in record {
  calm = λ h unsent living. absurd (unsent refl);
  send = λ h. inr (h free.unsent free.alive, λ e. cc);
}

pub orders_afresh : (order : PendingOrder) (t : Thread) → is_ready t.phase ≡ true → StartsAfresh t (orders order t)
orders_afresh order t ready = wishless_afresh t (orders order t) (ready_wishless t.phase ready) refl (λ e. cc)

pub receives_afresh : (message : Message) (tag : ℕ) (t : Thread) → IsWishless t.phase → StartsAfresh t (receives message tag t)
receives_afresh message tag t free = wishless_afresh t (receives message tag t) free refl (λ e. cc)

ready_alive : Ready ≡ Deleted → ⊥
ready_alive e = cc

pub fails_afresh : (code : ℕ) (t : Thread) → IsWishless t.phase → StartsAfresh t (fails code t)
fails_afresh code t free = wishless_afresh t (fails code t) free (cond_both (λ (x : Thread). x.cancel_send) t.cancel_send (is_alive t.phase) _ t refl refl)
    (cond_keeps (λ (a : Thread). a.phase ≡ Deleted → ⊥) (is_alive t.phase) _ t (λ living e. ready_alive e) (λ dead e. free.alive e))

pub obeyed_afresh : (t : Thread) → IsWishless t.phase → StartsAfresh t (obeyed t)
obeyed_afresh t free = wishless_afresh t (obeyed t) free (cond_both (λ (x : Thread). x.cancel_send) t.cancel_send (is_alive t.phase) _ _ refl refl)
    (cond_keeps (λ (a : Thread). a.phase ≡ Deleted → ⊥) (is_alive t.phase) _ _ (λ living e. ready_alive e) (λ dead e. free.alive e))

-- A send that was decided leaves neither send nor wish.
abbrev IsUndone : Thread → Type 0
IsUndone t = (t.send ≡ None) × (t.cancel_send ≡ false)

undone_afresh : (t after : Thread) → IsUndone after → StartsAfresh t after
undone_afresh t after undone = record { calm = λ h unsent living. undone.1; send = λ h. inl undone.0 }

refused_undone : (code : ℕ) (t : Thread) → IsUndone (refused code t)
refused_undone code t = cond_keeps IsUndone (is_alive (decided t).phase) _ (decided t) (λ living. (refl, refl)) (λ dead. (refl, refl))

goes_on_undone : (receive : Option Receive) (now : ℕ) (t : Thread) → IsUndone (goes_on receive now t)
goes_on_undone None now t = (refl, refl)
goes_on_undone (Some receive) now t = (refl, refl)

pub ended_afresh : (result : Result) (now : ℕ) (t : Thread) → StartsAfresh t (after_decision result now t)
ended_afresh Delivered now t = by t.send refl
  where
    by : (o : Option Send) → t.send ≡ o → StartsAfresh t (was_delivered o now t)
    by None is = record { calm = λ h. h; send = λ h. inl is }
    by (Some send) is = undone_afresh t (delivered send now t)
        (cond_keeps IsUndone (is_alive t.phase) _ (decided t) (λ living. goes_on_undone send.receive now t) (λ dead. (refl, refl)))
ended_afresh (Refused TimedOut) now t = undone_afresh t (refused 2 t) (refused_undone 2 t)
ended_afresh (Refused Nobody) now t = undone_afresh t (refused 4 t) (refused_undone 4 t)
ended_afresh (Refused Cancelled) now t = undone_afresh t (refused 6 t) (refused_undone 6 t)
ended_afresh (Refused Dropped) now t =
    undone_afresh t (was_dropped t) (cond_keeps IsUndone (is_alive t.phase) _ (decided t) (λ living. (refl, refl)) (λ dead. (refl, refl)))

pub ended_none : (result : Result) (now : ℕ) (t : Thread) → (after_decision result now t).send ≡ None
ended_none Delivered now t = by t.send refl
  where
    by : (o : Option Send) → t.send ≡ o → (was_delivered o now t).send ≡ None
    by None is = is
    by (Some send) is = (cond_keeps IsUndone (is_alive t.phase) _ (decided t) (λ living. goes_on_undone send.receive now t) (λ dead. (refl, refl))).0
ended_none (Refused TimedOut) now t = (refused_undone 2 t).0
ended_none (Refused Nobody) now t = (refused_undone 4 t).0
ended_none (Refused Cancelled) now t = (refused_undone 6 t).0
ended_none (Refused Dropped) now t = (cond_keeps IsUndone (is_alive t.phase) _ (decided t) (λ living. (refl, refl)) (λ dead. (refl, refl))).0
