-- What is asked of a thread of this processor is done to it, in the world and here.
use Rattle.l4_model.proofs.Sends.{Status, status-asked}
use Rattle.l4_refines.proofs.Relation.Whereabouts.{where_then}
use Rattle.std.proofs.Common.{◌≡◌, ℕ, Option, Some, None, List, [], ◌∷◌, refl, ap, sym, ◌∙◌, subst, inr, arith, ◌<◌, filter, length}
use Rattle.std.specs.Prelude.{IfSome, ◌==◌, not, slice_index_or}
use Rattle.l4_model.specs.Machine.{Machine, OrderKind, CancelSend, CancelReceive, CancelBoth, Delete}
use Rattle.l4_model.specs.World.{Thread, Send, is_alive, World, change, opening_thread}
use Rattle.l4_model.specs.Effects.{asked, obeyed}
use Rattle.l4_model.proofs.Chains.{cond_both}
use Rattle.l4_model.specs.Reached.{Suits}
use Rattle.l4_core_model.specs.Letters.{Cause, ByTimeout, ByCancel, ByDeletion}
use Rattle.l4_core_model.specs.Local.{readied, Local, relists}
use Rattle.l4_core_model.specs.Runs.{Posted}
use Rattle.l4_core_model.proofs.Fit.{IsGood}
use Rattle.l4_core_model.proofs.Lists.{all-filter}
use Rattle.l4_core_model.proofs.Apart.{same_or_apart, of_other}
use Rattle.l4_core_model.proofs.Good.{deletes_good}
use Rattle.l4_refines.proofs.Relation.Views.{Kept, View, Scene, kept, view, home, amid, notices, is_of, locators}
use Rattle.l4_refines.proofs.Relation.Rows.{seats, AgreesByPhase, Agrees, learns, learned, IsOrdering, IsCause, IsKeptAtHome, Known, Row, Matches, Seats}
use Rattle.l4_refines.proofs.Relation.Agreement.{split_agrees}
use Rattle.l4_refines.proofs.Frames.Moves.{at_home, StaysTrue, same_alike, Moves, moves_kept}
use Rattle.l4_refines.proofs.Sends.Waiting.{agrees_send, agrees_begun}
use Rattle.l4_refines.proofs.Turns.Ending.{agrees_wish}
use Rattle.l4_refines.proofs.Frames.Owes.{deleted_owes}
use Rattle.l4_refines.proofs.Orders.Asked.{agrees_order, asked_agrees, asked_while_decided, asked_obeyed, send_asked}
use Rattle.l4_model.proofs.Keeping.{order-asked}
use Rattle.l4_core_model.specs.Plain as plain
use Rattle.l4_core_model.specs.Acts.{Work, ◌▷◌, does, asks}
use Rattle.l4_core_model.proofs.Changed.{get-changed}
use Rattle.l4_refines.proofs.Lists.{filter_kept, filter_out}
use Rattle.l4_refines.proofs.Frames.Locals.{changes_here, changes_other, comes_here, comes_other}
use Rattle.l4_refines.proofs.Relation.Relates.{IsSized, RelatesExcept}
use Rattle.l4_refines.proofs.Frames.Places.{first_about, takes_in, world_changes, local_changes, changes_spares, comes_spares}
use Rattle.l4_refines.proofs.Frames.Going.{IsHere, home_is, put_other, sized_here}

-- What is asked of a thread leaves its send and its order as they are.

begun_asked : (what : OrderKind) (t : Thread) → (asked what t).context.begun ≡ t.context.begun
begun_asked what t = ap (λ (s : Status). s.begun) (status-asked what t)

-- The world and home agree again, whatever letter is under way.

obeyed_deleted : {m : Machine} (world t : Thread) → Agrees m world (obeyed t) → AgreesByPhase (asked Delete world) (obeyed (asked Delete t))
obeyed_deleted world t a = record {
  deleted = refl;
  begun = agrees_begun world (obeyed t) a ∙ cond_both (λ (u : Thread). u.context.begun) t.context.begun (is_alive t.phase) _ _ refl refl;
  send = agrees_send world (obeyed t) a ∙ cond_both (λ (u : Thread). u.send) t.send (is_alive t.phase) _ _ refl refl;
  order = agrees_order world (obeyed t) a ∙ cond_both (λ (u : Thread). u.order) None (is_alive t.phase) _ _ refl refl;
  cancel_send = agrees_wish world (obeyed t) a ∙ cond_both (λ (u : Thread). u.cancel_send) t.cancel_send (is_alive t.phase) _ _ refl refl;
}

asked_learned : (m : Machine) (i : ℕ) (what : OrderKind) (v : View) → Known m i v →
    Agrees m (asked what v.world) (learned (locators v.mail) (at_home m i v).clock (asked what (at_home m i v).thread))
asked_learned m i what v known = where_then m i v known
    (λ quiet none row a. seen (learned_is [] quiet) (asked_agrees what v.world t a))
    (λ send quiet has row a. seen (learned_is [] quiet) (asked_agrees what v.world t a))
    (λ p is row a. seen (learned_is (p ∷ []) is ∙ ap (λ c. learns c clock (asked what t)) row.letter) (asked_agrees what v.world t a))
    (λ p name result is content row a. seen (learned_is (p ∷ []) is ∙ ap (λ c. learns c clock (asked what t)) content)
    (asked_while_decided what result clock v.world t row.goes.send row.goes.has row.goes.order
    (subst (λ o. Suits t.phase o t.order) row.goes.has known.kept.at_home.good.suits) (λ one. row.goes.split (one row.goes.r i)) a))
    (λ p is row a. seen (learned_is (p ∷ []) is ∙ ap (λ c. learns c clock (asked what t)) row.letter) (asked_agrees what v.world t a))
    (λ p caller is content row a. seen (learned_is (p ∷ []) is ∙ ap (λ c. learns c clock (asked what t)) content) (asked_while_obeyed what row.orders a))
  where
    t : Thread
    t = (at_home m i v).thread

    clock : ℕ
    clock = (at_home m i v).clock

    learned_is : (ps : List Posted) → locators v.mail ≡ ps → learned (locators v.mail) clock (asked what t) ≡ learned ps clock (asked what t)
    learned_is ps is = ap (λ ps. learned ps clock (asked what t)) is

    seen : {u : Thread} → learned (locators v.mail) clock (asked what t) ≡ u → Agrees m (asked what v.world) u →
        Agrees m (asked what v.world) (learned (locators v.mail) clock (asked what t))
    seen is a = subst (Agrees m (asked what v.world)) (sym is) a

    cancelled : (what : OrderKind) → (what ≡ Delete → ⊥) → IsOrdering m i (seats m i v) → Agrees m v.world (obeyed t) →
        Agrees m (asked what v.world) (obeyed (asked what t))
    cancelled what ne row a =
        subst (Agrees m (asked what v.world))
        (asked_obeyed what t ne t.phase refl (subst (λ o. Suits t.phase o t.order) row.no_send known.kept.at_home.good.suits) row.order row.has)
        (asked_agrees what v.world (obeyed t) a)

    asked_while_obeyed : (what : OrderKind) → IsOrdering m i (seats m i v) → Agrees m v.world (obeyed t) → Agrees m (asked what v.world) (obeyed (asked what t))
    asked_while_obeyed Delete row a =
        split_agrees (asked Delete v.world) (obeyed (asked Delete t)) (λ one. row.split (one row.target i)) (obeyed_deleted v.world t a)
    asked_while_obeyed CancelSend row a = cancelled CancelSend (λ e. cc) row a
    asked_while_obeyed CancelReceive row a = cancelled CancelReceive (λ e. cc) row a
    asked_while_obeyed CancelBoth row a = cancelled CancelBoth (λ e. cc) row a

-- All else that is kept of it

asked_cause : (cause : Cause) (what : OrderKind) (clock : ℕ) (t : Thread) (send : Send) → IsCause cause clock t send → IsCause cause clock (asked what t) send
asked_cause ByTimeout what clock t send h = h
asked_cause ByCancel CancelSend clock t send h = rw h refl
asked_cause ByCancel CancelReceive clock t send h = h
asked_cause ByCancel CancelBoth clock t send h = rw h refl
asked_cause ByCancel Delete clock t send h = h
asked_cause ByDeletion CancelSend clock t send h = h
asked_cause ByDeletion CancelReceive clock t send h = h
asked_cause ByDeletion CancelBoth clock t send h = h
asked_cause ByDeletion Delete clock t send h = refl

asked_causes : (cause : Cause) (what : OrderKind) (clock : ℕ) (t : Thread) (o : Option Send) → IfSome o (IsCause cause clock t) →
    IfSome o (IsCause cause clock (asked what t))
asked_causes cause what clock t None h = tt
asked_causes cause what clock t (Some send) h = asked_cause cause what clock t send h

asked_good : (what : OrderKind) (clock : ℕ) (t : Thread) → IsGood clock t → IsGood clock (asked what t)
asked_good CancelSend clock t g = record { suits = g.suits; sends = g.sends; receives = g.receives }
asked_good CancelReceive clock t g = record { suits = g.suits; sends = g.sends; receives = g.receives }
asked_good CancelBoth clock t g = record { suits = g.suits; sends = g.sends; receives = g.receives }
asked_good Delete clock t g = deletes_good clock t g

-- Its entry after it: a deleted thread is neither ready nor armed.
abbrev pub asked_kept : OrderKind → ℕ → Kept → Kept
asked_kept Delete j k = record k { thread = asked Delete k.thread; ready = []; armed = [] }
asked_kept what j k = record k { thread = asked what k.thread }

pub asked_at_home : (what : OrderKind) (j : ℕ) (k : Kept) → IsKeptAtHome j k → IsKeptAtHome j (asked_kept what j k)
asked_at_home CancelSend j k h = record { good = asked_good CancelSend k.clock k.thread h.good; armed = h.armed; owes = h.owes }
asked_at_home CancelReceive j k h = record { good = asked_good CancelReceive k.clock k.thread h.good; armed = h.armed; owes = h.owes }
asked_at_home CancelBoth j k h = record { good = asked_good CancelBoth k.clock k.thread h.good; armed = h.armed; owes = h.owes }
asked_at_home Delete j k h = record { good = asked_good Delete k.clock k.thread h.good; armed = inr refl; owes = deleted_owes k.owed }

asked_ready : (what : OrderKind) (j : ℕ) (k : Kept) → k.ready ≡ readied k.thread.phase j [] →
    (asked_kept what j k).ready ≡ readied (asked_kept what j k).thread.phase j []
asked_ready CancelSend j k h = h
asked_ready CancelReceive j k h = h
asked_ready CancelBoth j k h = h
asked_ready Delete j k h = refl

pub asked_thread : (what : OrderKind) (j : ℕ) (k : Kept) → (asked_kept what j k).thread ≡ asked what k.thread
asked_thread CancelSend j k = refl
asked_thread CancelReceive j k = refl
asked_thread CancelBoth j k = refl
asked_thread Delete j k = refl

pub asked_stays_true : (what : OrderKind) (j : ℕ) (k : Kept) → StaysTrue k (asked_kept what j k)
asked_stays_true CancelSend j k = record {
  deleted = λ gone. gone;
  begun = omega arith;
  causes = λ cause same old. asked_causes cause CancelSend k.clock k.thread k.thread.send old;
}
asked_stays_true CancelReceive j k = record {
  deleted = λ gone. gone;
  begun = omega arith;
  causes = λ cause same old. asked_causes cause CancelReceive k.clock k.thread k.thread.send old;
}
asked_stays_true CancelBoth j k = record {
  deleted = λ gone. gone;
  begun = omega arith;
  causes = λ cause same old. asked_causes cause CancelBoth k.clock k.thread k.thread.send old;
}
asked_stays_true Delete j k = record {
  deleted = λ gone. refl;
  begun = omega arith;
  causes = λ cause same old. asked_causes cause Delete k.clock k.thread k.thread.send old;
}

-- A thread of this processor is asked for something, and all stays related.

-- Its view after it

asked_matches : (m : Machine) (j : ℕ) (what : OrderKind) (v after : View) → after.world ≡ asked what v.world → after.mail ≡ v.mail →
    at_home m j after ≡ asked_kept what j (at_home m j v) → (at_home m j after).listed ≡ (at_home m j v).listed →
    (at_home m j after).clock ≡ (at_home m j v).clock →
    ((c : ℕ) → (c ≡ home m j → ⊥) → after.kept c ≡ v.kept c) → Matches m j v → Matches m j after
asked_matches m j what v after world mail here listed clock other h =
    let k : Kept = at_home m j v in
    let t : Thread = k.thread in
    let thread_is : (at_home m j after).thread ≡ asked what t = ap (λ (k : Kept). k.thread) here ∙ asked_thread what j k in
    let same_at : (P : ℕ → Type 0) → P (home m j) → ((c : ℕ) → (c ≡ home m j → ⊥) → P c) → (c : ℕ) → P c =
    λ P at_home away c. same_or_apart (P c) c (home m j) (λ e. subst P (sym e) at_home) (λ ne. away c ne) in
    let sent = same_at (λ c. (after.kept c).thread.send ≡ (v.kept c).thread.send) (ap (λ (t : Thread). t.send) thread_is ∙ send_asked what t)
    (λ c ne. ap (λ (k : Kept). k.thread.send) (other c ne)) in
    let begun = same_at (λ c. (after.kept c).thread.context.begun ≡ (v.kept c).thread.context.begun)
    (ap (λ (t : Thread). t.context.begun) thread_is ∙ begun_asked what t)
    (λ c ne. ap (λ (k : Kept). k.thread.context.begun) (other c ne)) in
    let lists = same_at (λ c. (after.kept c).listed ≡ (v.kept c).listed) listed (λ c ne. ap (λ (k : Kept). k.listed) (other c ne)) in
    let order = ap (λ (t : Thread). t.order) thread_is ∙ order-asked what t in
    let seats_same : seats m j after ≡ seats m j v = λ d. record { order = order d; sent = λ c. sent c d; begun = λ c. begun c d; listed = λ c. lists c d } in
    let moves : Moves m j v after = record {
      elsewhere = λ c ne. same_alike (v.kept c) (after.kept c) (other c ne);
      notices = ap notices mail;
      stays_true = subst (StaysTrue k) (sym here) (asked_stays_true what j k);
    } in
    record {
      known = record {
        agrees = subst (λ u. Agrees m u (learned (locators after.mail) (at_home m j after).clock (at_home m j after).thread)) (sym world)
            (subst (λ mail. Agrees m (asked what v.world) (learned (locators mail) (at_home m j after).clock (at_home m j after).thread)) (sym mail)
            (subst (λ c. Agrees m (asked what v.world) (learned (locators v.mail) c (at_home m j after).thread)) (sym clock)
            (subst (λ t. Agrees m (asked what v.world) (learned (locators v.mail) k.clock t)) (sym thread_is) (asked_learned m j what v h.known))));
        row = subst (λ mail. Row m j (seats m j after) (locators mail) (at_home m j after).thread.send) (sym mail)
            (subst (λ (s : Seats). Row m j s (locators v.mail) (s.sent (home m j))) (sym seats_same) h.known.row);
        kept = moves_kept m j v after h.known.kept moves (subst (IsKeptAtHome j) (sym here) (asked_at_home what j k h.known.kept.at_home));
      };
      ready = subst (λ (k : Kept). k.ready ≡ readied k.thread.phase j []) (sym here) (asked_ready what j k h.ready);
    }

-- What this processor keeps after it

dropped_here : (l : Local) (j : ℕ) → kept (relists (plain.dropped j) l) j ≡ record (kept l j) { ready = [] }
dropped_here l j = ap (λ is. record (kept l j) { ready = is }) (filter_out (λ i. j == i) (λ i. not (j == i)) (λ i is. rw is refl) l.lists.ready)

dropped_other : (l : Local) (j i : ℕ) → (j ≡ i → ⊥) → kept (relists (plain.dropped j) l) i ≡ kept l i
dropped_other l j i ne =
    ap (λ is. record (kept l i) { ready = is }) (filter_kept (λ k. i == k) (λ k. not (j == k)) (λ k is. of_other j i k ne is) l.lists.ready)

pub asks_here : (what : OrderKind) (l : Local) (j : ℕ) → j < length l.threads → kept (asks what j l) j ≡ asked_kept what j (kept l j)
asks_here CancelSend l j lt = changes_here l j (asked CancelSend) lt
asks_here CancelReceive l j lt = changes_here l j (asked CancelReceive) lt
asks_here CancelBoth l j lt = changes_here l j (asked CancelBoth) lt
asks_here Delete l j lt =
    comes_here (relists (plain.dropped j) l) j (asked Delete) lt ∙ ap (λ (k : Kept). record k { thread = asked Delete k.thread; armed = [] }) (dropped_here l j)

pub asks_other : (what : OrderKind) (l : Local) (j i : ℕ) → (j ≡ i → ⊥) → kept (asks what j l) i ≡ kept l i
asks_other CancelSend l j i ne = changes_other l j i (asked CancelSend) ne
asks_other CancelReceive l j i ne = changes_other l j i (asked CancelReceive) ne
asks_other CancelBoth l j i ne = changes_other l j i (asked CancelBoth) ne
asks_other Delete l j i ne = comes_other (relists (plain.dropped j) l) j i (asked Delete) ne ∙ dropped_other l j i ne

dropped_sized : (m : Machine) (j : ℕ) (l : Local) → IsSized m l → IsSized m (relists (plain.dropped j) l)
dropped_sized m j l z = record {
  threads = z.threads;
  lists = z.lists;
  told = z.told;
  ready = all-filter (λ i. i < length m.threads) (λ i. not (j == i)) l.lists.ready z.ready;
  armed = z.armed;
  listed = z.listed;
}

pub asks_sized : (m : Machine) (what : OrderKind) (j : ℕ) (except : List ℕ) (l : Local) → j < length m.threads → IsSized m l → IsSized m (asks what j l)
asks_sized m CancelSend j except l lt z = (changes_spares m j (j ∷ except) l (asked CancelSend) (first_about j except)).sized z
asks_sized m CancelReceive j except l lt z = (changes_spares m j (j ∷ except) l (asked CancelReceive) (first_about j except)).sized z
asks_sized m CancelBoth j except l lt z = (changes_spares m j (j ∷ except) l (asked CancelBoth) (first_about j except)).sized z
asks_sized m Delete j except l lt z =
    (comes_spares m j (j ∷ except) (relists (plain.dropped j) l) (asked Delete) lt (first_about j except)).sized (dropped_sized m j l z)

pub asks_clock : (what : OrderKind) (l : Local) (j : ℕ) → (asks what j l).clock ≡ l.clock
asks_clock CancelSend l j = refl
asks_clock CancelReceive l j = refl
asks_clock CancelBoth l j = refl
asks_clock Delete l j = refl

pub asks_owed : (what : OrderKind) (l : Local) (j : ℕ) → (asks what j l).owed ≡ l.owed
asks_owed CancelSend l j = refl
asks_owed CancelReceive l j = refl
asks_owed CancelBoth l j = refl
asks_owed Delete l j = refl

pub asks_lists : (what : OrderKind) (l : Local) (j : ℕ) → (asks what j l).lists.waiting ≡ l.lists.waiting
asks_lists CancelSend l j = refl
asks_lists CancelReceive l j = refl
asks_lists CancelBoth l j = refl
asks_lists Delete l j = refl

pub kept_lists : (a b : Local) (j : ℕ) → a.lists.waiting ≡ b.lists.waiting → (kept a j).listed ≡ (kept b j).listed
kept_lists a b j e = ap (λ ess. λ r. filter (is_of j) (slice_index_or ess r [])) e

-- All stays related where a thread of this processor is asked, in the world and here.
pub asks_relates : (m : Machine) (cpu j : ℕ) (what : OrderKind) (except : List ℕ) (s : Scene) (w : World) (x : Work) → IsHere m cpu j →
    Matches m j (view m (amid cpu s x) w j) → RelatesExcept m (Matches m) (j ∷ except) (amid cpu s x) w →
    RelatesExcept m (Matches m) except (amid cpu s (x ▷ does (asks what j))) (change w j (asked what))
asks_relates m cpu j what except s w x here matches rel =
    let y : Work = x ▷ does (asks what j) in
    let u : World = change w j (asked what) in
    let v : View = view m (amid cpu s x) w j in
    let after : View = view m (amid cpu s y) u j in
    let z = sized_here m cpu j (j ∷ except) s w x here rel in
    let size : j < length x.local.threads = omega (arith, z.threads, here.within) in
    let in_world : j < length w.threads = omega (arith, rel.sized_world.threads, here.within) in
    let was : at_home m j v ≡ kept x.local j = home_is m cpu j s x w here.home in
    let is : at_home m j after ≡ kept y.local j = home_is m cpu j s y u here.home in
    takes_in m j except (amid cpu s y) u
    (world_changes m j (j ∷ except) (amid cpu s y) w (asked what) (first_about j except)
    (local_changes m cpu (j ∷ except) s w x (asks what j)
    (record {
      sized = asks_sized m what j except x.local here.within;
      clock = asks_clock what x.local j;
      owed = asks_owed what x.local j;
      kept = λ i out. asks_other what x.local j i (λ e. out.0 (sym e));
    }) (asks_lists what x.local j) rel))
    (asked_matches m j what v after (get-changed (asked what) w.threads j opening_thread in_world) refl
    (is ∙ asks_here what x.local j size ∙ sym (ap (asked_kept what j) was))
    (ap (λ (k : Kept). k.listed) is ∙ kept_lists (asks what j x.local) x.local j (asks_lists what x.local j) ∙ sym (ap (λ (k : Kept). k.listed) was))
    (ap (λ (k : Kept). k.clock) is ∙ asks_clock what x.local j ∙ sym (ap (λ (k : Kept). k.clock) was))
    (λ c ne. put_other cpu c j x.local y.local s.locals (λ h. ne (sym h ∙ sym here.home))) matches)
