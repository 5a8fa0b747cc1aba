-- The two sets of a processor leave no place out, after each effect.
use Rattle.std.proofs.Common.{◌≡◌, ℕ, ◌<◌, ◌+◌, Bool, true, false, Option, None, List, [], ◌||◌, length, refl, ap, sym, ◌∙◌, subst, inl, inr, ◌⊎◌, arith}
use Rattle.std.specs.Prelude.{◌==◌}
use Rattle.std.proofs.lemmas.Bool.{cases_eq, eq-eqb}
use Rattle.l4_model.specs.Machine.{Machine, OrderKind, CancelSend, CancelReceive, CancelBoth, Delete}
use Rattle.l4_model.specs.World.{Thread, Owed, is_deleted, opening_thread}
use Rattle.l4_core_model.specs.Plain as plain
use Rattle.l4_core_model.specs.Local.{is_own, thread, changes, comes_to, keeps_beside, relists}
use Rattle.l4_model.specs.Rules.{Act, RunsAlone, Sends, Receives, Orders}
use Rattle.l4_model.specs.Effects.{asked, begins, turns, waits}
use Rattle.l4_core_model.specs.Local.{opening_local}
use Rattle.l4_core_model.specs.Acts.{asks}
use Rattle.l4_core_model.specs.Turns.{has_told}
use Rattle.l4_core.specs.Inner.Parts.{AreCore}
use Rattle.l4_core.specs.Inner.Turning.{IsAtHand, begun_by}
use Rattle.l4_core.proofs.Fitting.{unqueued, ready_not_sends}
use Rattle.l4_core.proofs.Opening.{get-map, none_queued}
use Rattle.l4_core.specs.Inner.Places.{has}
use Rattle.l4_core.specs.Processor.{Processor, with_local}
use Rattle.l4_core.specs.Inner.Covered.{CoversBut, CoversZeros, IsCovered, IsCoveredBut, duty_at, first_zero, is_zero_send}
use Rattle.l4_core.specs.Inner.Settled.{IsOwn}
use Rattle.l4_core.proofs.Covering.{others-comes, covers-filled, covers-put, covers-relisted, covers-changed, covers-kept, but-queued, covers-stamped, covers-told, covers-turned, covers-unqueued}
use Rattle.l4_core.proofs.Zeros.{zeros-relisted, zeros-changed, zeros-comes, zeros-kept, zeros-queued, zeros-stamped, zeros-told, zeros-turned, zeros-unqueued}

or_true : (b : Bool) → (b || true) ≡ true
or_true true = refl
or_true false = refl

-- A place that was put in is in.
pub put_there : (d e : List ℕ) (i : ℕ) → ((o : ℕ) → has e o ≡ (has d o || o == i)) → has e i ≡ true
put_there d e i puts = puts i ∙ ap (λ b. has d i || b) (eq-eqb i i refl) ∙ or_true (has d i)

-- What was in stays in.
pub still_there : (d e : List ℕ) (i o : ℕ) → ((o : ℕ) → has e o ≡ (has d o || o == i)) → has d o ≡ true → has e o ≡ true
still_there d e i o puts h = puts o ∙ ap (λ b. b || o == i) h

pub covered-put : (d e z : List ℕ) (p : Processor) (i : ℕ) → IsCovered d z p → IsOwn p.machine p.cpu i → ((o : ℕ) → has e o ≡ (has d o || o == i)) → IsCovered e z p
covered-put d e z p i c own puts = record { covers = covers-put d e p.machine p.cpu p.local i c.covers own puts; waiting = c.waiting }

pub covered-relisted : (d z : List ℕ) (p q : Processor) (k : plain.Plain) → IsCovered d z p → k.waiting ≡ p.local.lists.waiting → q ≡ with_local p (record p.local { lists = k }) → IsCovered d z q
covered-relisted d z p q k c e is = subst (IsCovered d z) (sym is) (record { covers = covers-relisted d p.machine p.cpu p.local k e c.covers; waiting = zeros-relisted z p.local k e c.waiting })

pub covered-changed : (d z : List ℕ) (p q : Processor) (i : ℕ) (f : Thread → Thread) → IsCovered d z p → i < length p.local.threads → (is_own p.machine p.cpu i ≡ true → has d i ≡ true) → is_deleted (f (thread p.local i)).phase ≡ is_deleted (thread p.local i).phase →
    (plain.is_queued p.local.lists i ≡ false) ⊎ ((f (thread p.local i)).send ≡ (thread p.local i).send) → q ≡ with_local p (changes i f p.local) → IsCovered d z q
covered-changed d z p q i f c lt there dead kept is = subst (IsCovered d z) (sym is) (record {
  covers = covers-changed d p.machine p.cpu p.local i f c.covers lt there dead kept;
  waiting = zeros-changed z p.local i f c.waiting lt kept;
})

pub covered-unqueued : (d z : List ℕ) (p q : Processor) (i : ℕ) → IsCovered d z p → q ≡ with_local p (relists (plain.unqueued i) p.local) → IsCovered d z q
covered-unqueued d z p q i c is = subst (IsCovered d z) (sym is) (record { covers = covers-unqueued d p.machine p.cpu p.local i c.covers; waiting = zeros-unqueued z p.local i c.waiting })

-- A send is queued, and its receiver is noted where it may not wait at all.
pub but_queued : (d z : List ℕ) (p q : Processor) (r : ℕ) (w : plain.Waiting) → IsCovered d z p → q ≡ with_local p (relists (plain.queued r w) p.local) → CoversBut r w.block d q.machine q.cpu q.local
but_queued d z p q r w c is = subst (λ (x : Processor). CoversBut r w.block d x.machine x.cpu x.local) (sym is) (but-queued d p.machine p.cpu p.local r w c.covers)

pub zeros_queued : (z : List ℕ) (p q : Processor) (r : ℕ) (w : plain.Waiting) → CoversZeros z p.local → (is_zero_send (thread p.local w.block).send ≡ true → has z r ≡ true) → q ≡ with_local p (relists (plain.queued r w) p.local) → CoversZeros z q.local
zeros_queued z p q r w c there is = subst (λ (x : Processor). CoversZeros z x.local) (sym is) (zeros-queued z p.local r w c there)

-- A thread that is at hand stands in no list of sends.
pub hand_free : (p : Processor) (i : ℕ) → AreCore p → IsAtHand p i → plain.is_queued p.local.lists i ≡ false
hand_free p i core hand = unqueued p.machine p.cpu p.local i core.settled hand.own.own (ready_not_sends _ hand.ready)

-- A thread of this processor comes to its next phase, and only it may have a duty that is not noted.
pub but-come : (d z : List ℕ) (p q : Processor) (i : ℕ) (f : Thread → Thread) → IsCovered d z p → AreCore p → IsOwn p.machine p.cpu i → is_deleted (f (thread p.local i)).phase ≡ is_deleted (thread p.local i).phase → plain.is_queued p.local.lists i ≡ false →
    q ≡ with_local p (comes_to i f p.local) → IsCoveredBut i d z q
but-come d z p q i f c core own dead free is =
    let lt : i < length p.local.threads = omega (arith, own.within, core.settled.threads) in
    subst (IsCoveredBut i d z) (sym is) (record {
      own = own;
      others = others-comes d p.machine p.cpu p.local i f c.covers lt dead (inl free);
      waiting = zeros-comes z p.local i f c.waiting lt (inl free);
    })

-- What an ipc begins is begun by a thread that was ready.
pub but-begun : (d z : List ℕ) (p q : Processor) (i : ℕ) (a : Act) → IsCovered d z p → AreCore p → IsAtHand p i → q ≡ with_local p (begun_by a i p.local) → IsCoveredBut i d z q
but-begun d z p q i a c core hand is = by a is
  where
    begins_here : (f : Thread → Thread) → is_deleted (f (thread p.local i)).phase ≡ false → q ≡ with_local p (comes_to i f p.local) → IsCoveredBut i d z q
    begins_here f alive e = but-come d z p q i f c core hand.own (alive ∙ sym (ap is_deleted hand.ready)) (hand_free p i core hand) e

    same : q ≡ p → IsCoveredBut i d z q
    same e = subst (IsCoveredBut i d z) (sym e) (record { own = hand.own; others = record { within = c.covers.within; others = λ o own ne h. c.covers.others o own h }; waiting = c.waiting })

    by : (a : Act) → q ≡ with_local p (begun_by a i p.local) → IsCoveredBut i d z q
    by (Sends send) e = begins_here (begins send) refl e
    by (Receives receive) e = begins_here (waits receive p.local.clock) refl e
    by RunsAlone e = same e
    by (Orders order) e = same e

-- Nothing has a duty at the beginning, and nothing waits.
pub covered-opening : (d z : List ℕ) (m : Machine) (cpu : ℕ) (p : Processor) → ((o : ℕ) → has d o ≡ false) → p ≡ record { machine = m; cpu = cpu; local = opening_local m cpu } → IsCovered d z p
covered-opening d z m cpu p none is = subst (IsCovered d z) (sym is) (record {
  covers = record {
    within = λ o h. let empty = none o in let wrong : true ≡ false = sym h ∙ empty in cc;
    others = λ o own h. no_duty o;
  };
  waiting = λ o h. ap (first_zero (opening_local m cpu)) (get-map {B = List plain.Waiting} [] m.threads o);
})
  where
    no_duty : (o : ℕ) → duty_at m cpu (opening_local m cpu) o ≡ None
    no_duty o =
        let t = get-map opening_thread m.threads o in
        let ws = get-map {B = List plain.Waiting} [] m.threads o in
        let q = none_queued m.threads o in
        let kept = get-map {B = Option Owed} None m.threads o in
        rw (t, ws, q, kept) refl

pub covered-stamped : (d z : List ℕ) (p q : Processor) (stamp : ℕ) → IsCovered d z p → q ≡ with_local p (record p.local { stamp = stamp }) → IsCovered d z q
covered-stamped d z p q stamp c is = subst (IsCovered d z) (sym is) (record { covers = covers-stamped d p.machine p.cpu p.local stamp c.covers; waiting = zeros-stamped z stamp p.local c.waiting })

pub covered-told : (d z : List ℕ) (p q : Processor) (i to : ℕ) → IsCovered d z p → has d i ≡ true → q ≡ with_local p (has_told to i p.local) → IsCovered d z q
covered-told d z p q i to c there is = subst (IsCovered d z) (sym is) (record { covers = covers-told d p.machine p.cpu p.local to i there c.covers; waiting = zeros-told z to i p.local c.waiting })

pub covered-kept : (d z : List ℕ) (p q : Processor) (i : ℕ) (kept : Option Owed) → IsCovered d z p → has d i ≡ true → q ≡ with_local p (keeps_beside i kept p.local) → IsCovered d z q
covered-kept d z p q i kept c there is = subst (IsCovered d z) (sym is) (record { covers = covers-kept d p.machine p.cpu p.local i kept there c.covers; waiting = zeros-kept z i kept p.local c.waiting })

pub covered-turned : (d z : List ℕ) (p q : Processor) (i : ℕ) (owed : Owed) → IsCovered d z p → i < length p.local.threads → (is_own p.machine p.cpu i ≡ true → has d i ≡ true) → q ≡ with_local p (changes i (turns owed) p.local) → IsCovered d z q
covered-turned d z p q i owed c lt there is = subst (IsCovered d z) (sym is) (record { covers = covers-turned d p.machine p.cpu p.local i owed c.covers lt there; waiting = zeros-turned z p.local i owed c.waiting lt })

-- All places of this processor below one that is noted too are in.
pub noted_below : (d e : List ℕ) (m : Machine) (cpu n : ℕ) → ((o : ℕ) → has d o ≡ true → has e o ≡ true) → (is_own m cpu n ≡ true → has e n ≡ true) → ((o : ℕ) → o < n → IsOwn m cpu o → has d o ≡ true) →
    (o : ℕ) → o < n + 1 → IsOwn m cpu o → has e o ≡ true
noted_below d e m cpu n still there below o lt own = by (cases_eq o n)
  where
    by : (o ≡ n) ⊎ (o ≡ n → ⊥) → has e o ≡ true
    by (inl same) = subst (λ k. has e k ≡ true) (sym same) (there (subst (λ k. is_own m cpu k ≡ true) same own.own))
    by (inr ne) = still o (below o (omega (arith, lt, ne)) own)

-- All places of this processor are in, and a thread is deleted.
pub covered-deleted : (e z : List ℕ) (p q : Processor) (i : ℕ) → CoversZeros z p.local → i < length p.local.threads → ((o : ℕ) → IsOwn p.machine p.cpu o → has e o ≡ true) → ((o : ℕ) → has e o ≡ true → IsOwn p.machine p.cpu o) →
    q ≡ with_local p (asks Delete i p.local) → IsCovered e z q
covered-deleted e z p q i waiting lt all own is = subst (IsCovered e z) (sym is) (record {
  covers = covers-filled e p.machine p.cpu (asks Delete i p.local) all own;
  waiting = zeros-comes z (relists (plain.dropped i) p.local) i (asked Delete) waiting lt (inr refl);
})

-- A thread is asked for a cancellation.
pub covered-asked : (d z : List ℕ) (p q : Processor) (i : ℕ) (what : OrderKind) → (what ≡ Delete → ⊥) → IsCovered d z p → i < length p.local.threads → has d i ≡ true → q ≡ with_local p (asks what i p.local) → IsCovered d z q
covered-asked d z p q i CancelSend other c lt there is = covered-changed d z p q i (asked CancelSend) c lt (λ own. there) refl (inr refl) is
covered-asked d z p q i CancelReceive other c lt there is = covered-changed d z p q i (asked CancelReceive) c lt (λ own. there) refl (inr refl) is
covered-asked d z p q i CancelBoth other c lt there is = covered-changed d z p q i (asked CancelBoth) c lt (λ own. there) refl (inr refl) is
covered-asked d z p q i Delete other c lt there is = absurd (other refl)
