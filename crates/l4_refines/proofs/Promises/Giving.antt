-- What is promised is kept where an order is given.
use Rattle.l4_refines.proofs.Lists.{all_true}
use Rattle.std.proofs.Common.{◌≡◌, ℕ, ◌<◌, true, false, Option, Some, None, [], length, refl, ap, sym, ◌∙◌, subst, inl, inr, ◌⊎◌, arith}
use Rattle.std.proofs.lemmas.Bool.{eqb-true}
use Rattle.l4_model.specs.Words.{GlobalId}
use Rattle.l4_model.specs.Machine.{Machine, OrderKind, CancelSend, CancelReceive, CancelBoth, Delete, place_of}
use Rattle.l4_model.specs.World.{PendingOrder, Thread, Ordering, Deleted, is_ready, is_deleted, is_alive}
use Rattle.l4_model.specs.Steps.{Order, Obey}
use Rattle.l4_model.specs.Effects.{asked, orders, obeyed}
use Rattle.l4_model.proofs.Chains.{cond_both, cond_keeps}
use Rattle.l4_core_model.specs.Plain as plain
use Rattle.l4_core_model.specs.Letters.{Cause, OrderLetter, cause_of}
use Rattle.l4_core_model.specs.Local.{Local, declared, is_own, thread, relists, comes_to}
use Rattle.l4_core_model.specs.Acts.{Work, ◌▷◌, tells, does, asks, split_place, withdraws, withdraws_for, obeys, order_goes_to, gives_order}
use Rattle.l4_core_model.specs.Runs.{Posted}
use Rattle.l4_core_model.proofs.Apart.{same_or_apart}
use Rattle.l4_refines.proofs.Relation.Views.{Kept, Scene, home, amid}
use Rattle.l4_refines.proofs.Frames.Locals.{comes_here, comes_other, changes_here, changes_other}
use Rattle.l4_refines.proofs.Promises.Promised.{MayFollow}
use Rattle.l4_refines.proofs.Promises.Frames.{posts_keeps}
use Rattle.l4_refines.proofs.Promises.Locals.{size_now, comes_on}
use Rattle.l4_refines.proofs.Promises.Phases.{ordering_wishless, orders_afresh, obeyed_afresh}
use Rattle.l4_refines.proofs.Promises.Acts.{StaysPromised}
use Rattle.l4_refines.proofs.Promises.Orders.{comes_dead, obeys_keeps}

-- The caller hears that what it asked for is done.
abbrev pub HasAsked : Thread → Type 0
HasAsked t = (t.phase ≡ Ordering) ⊎ (t.phase ≡ Deleted)

-- A caller goes on.
pub obeyed_keeps : (m : Machine) (cpu i : ℕ) (s : Scene) (x : Work) → cpu < m.cpus → home m i ≡ cpu → HasAsked (thread x.local i) → StaysPromised m cpu s x →
    StaysPromised m cpu s (x ▷ does (comes_to i obeyed))
obeyed_keeps m cpu i s x processor here (inl waits) p =
    comes_on m cpu i s x obeyed processor here (obeyed_afresh (thread x.local i) (ordering_wishless (thread x.local i).phase waits)) p
obeyed_keeps m cpu i s x processor here (inr dead) p =
    let t : Thread = thread x.local i in
    let not_alive : is_alive t.phase ≡ false = ap is_alive dead in
    comes_dead m cpu i s x obeyed processor here dead (rw not_alive dead)
    (cond_both (λ (a : Thread). a.send) t.send (is_alive t.phase) _ _ refl refl)
    (sym (cond_both (λ (a : Thread). a.context.begun) t.context.begun (is_alive t.phase) _ _ refl refl)) p

-- What is asked of a thread leaves the caller waiting, or deletes it.
asks_asked : (what : OrderKind) (i j : ℕ) (l : Local) → i < length l.threads → (thread l i).phase ≡ Ordering → HasAsked (thread (asks what j l) i)
asks_asked what i j l lt is = same_or_apart (HasAsked (thread (asks what j l) i)) i j
    (λ e. subst (λ j. HasAsked (thread (asks what j l) i)) e (by what))
    (λ ne. other what ne)
  where
    by : (what : OrderKind) → HasAsked (thread (asks what i l) i)
    by CancelSend = inl (ap (λ (k : Kept). k.thread.phase) (changes_here l i (asked CancelSend) lt) ∙ is)
    by CancelReceive = inl (ap (λ (k : Kept). k.thread.phase) (changes_here l i (asked CancelReceive) lt) ∙ is)
    by CancelBoth = inl (ap (λ (k : Kept). k.thread.phase) (changes_here l i (asked CancelBoth) lt) ∙ is)
    by Delete = inr (ap (λ (k : Kept). k.thread.phase) (comes_here (relists (plain.dropped i) l) i (asked Delete) lt))

    other : (what : OrderKind) → (i ≡ j → ⊥) → HasAsked (thread (asks what j l) i)
    other CancelSend ne = inl (ap (λ (k : Kept). k.thread.phase) (changes_other l j i (asked CancelSend) (λ e. ne (sym e))) ∙ is)
    other CancelReceive ne = inl (ap (λ (k : Kept). k.thread.phase) (changes_other l j i (asked CancelReceive) (λ e. ne (sym e))) ∙ is)
    other CancelBoth ne = inl (ap (λ (k : Kept). k.thread.phase) (changes_other l j i (asked CancelBoth) (λ e. ne (sym e))) ∙ is)
    other Delete ne = inl (ap (λ (k : Kept). k.thread.phase) (comes_other (relists (plain.dropped j) l) j i (asked Delete) (λ e. ne (sym e))) ∙ is)

withdraws_local : (m : Machine) (cpu j : ℕ) (o : Option Cause) (x : Work) → (withdraws_for m cpu j o x).local ≡ x.local
withdraws_local m cpu j None x = refl
withdraws_local m cpu j (Some cause) x = by (split_place m cpu x.local j)
  where
    by : (o : Option ℕ) → (withdraws m cause j o x).local ≡ x.local
    by None = refl
    by (Some r) = refl

obeys_asked : (m : Machine) (cpu i j : ℕ) (caller : GlobalId) (what : OrderKind) (x : Work) → i < length x.local.threads → (thread x.local i).phase ≡ Ordering →
    HasAsked (thread (obeys m cpu caller what j x).local i)
obeys_asked m cpu i j caller what x lt is =
    let y : Work = x ▷ tells (Obey caller) ▷ does (asks what j) in
    cond_keeps (λ (z : Work). HasAsked (thread z.local i)) (is_deleted (thread x.local j).phase) y (y ▷ withdraws_for m cpu j (cause_of what))
    (λ gone. asks_asked what i j x.local lt is)
    (λ alive. subst (λ l. HasAsked (thread l i)) (sym (withdraws_local m cpu j (cause_of what) y)) (asks_asked what i j x.local lt is))

-- An instruction gives an order.
pub gives_keeps : (m : Machine) (cpu i : ℕ) (order : PendingOrder) (s : Scene) (x : Work) → cpu < m.cpus → i < length m.threads → home m i ≡ cpu →
    is_ready (thread x.local i).phase ≡ true → StaysPromised m cpu s x → StaysPromised m cpu s (gives_order m cpu i order x)
gives_keeps m cpu i order s x processor lt here ready p = by (place_of m order.target)
  where
    y : Work
    y = x ▷ does (comes_to i (orders order)) ▷ tells (Order (declared m i).id order.target order.what)

    q : StaysPromised m cpu s y
    q = comes_on m cpu i s x (orders order) processor here (orders_afresh order (thread x.local i) ready) p

    waits : (thread y.local i).phase ≡ Ordering
    waits = let size = size_now m cpu [] s x processor p in ap (λ (k : Kept). k.thread.phase) (comes_here x.local i (orders order) (omega arith))

    by : (o : Option ℕ) → StaysPromised m cpu s (order_goes_to m cpu i order o y)
    by None = q
    by (Some j) = cond_keeps (StaysPromised m cpu s) (is_own m cpu j) _ _
        (λ own. let size = size_now m cpu [] s y processor q in
        obeyed_keeps m cpu i s (obeys m cpu (declared m i).id order.what j y) processor here
        (obeys_asked m cpu i j (declared m i).id order.what y (omega arith) waits)
        (obeys_keeps m cpu j (declared m i).id order.what s y processor (eqb-true (home m j) cpu own) q))
        (λ other. let letter = OrderLetter (declared m i).id order.target order.what in
        posts_keeps m cpu (declared m j).cpu letter [] s y (all_true (λ (p : Posted). MayFollow letter p.letter.content) (λ p. tt) (amid cpu s y).mail) q)
