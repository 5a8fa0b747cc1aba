-- A waiting send is refused, cancelled or dropped on its receiver's processor.
use Rattle.l4_refines.proofs.Sends.Free.{waiting_free}
use Rattle.l4_refines.proofs.Relation.Whereabouts.{where_then}
use Rattle.l4_refines.proofs.Lists.{any_block, any_kept, any_list, none_kept}
use Rattle.std.proofs.Common.{◌≡◌, ℕ, ◌<◌, true, false, Some, [], ◌∷◌, length, refl, ap, sym, ◌∙◌, subst, inl}
use Rattle.std.specs.Prelude.{◌==◌}
use Rattle.std.specs.List.{list_any}
use Rattle.l4_model.specs.Machine.{Machine}
use Rattle.l4_model.specs.World.{Thread, World, Send, Phase, Ready, Sending, Receiving, Ordering, Ended, Deleted, is_queued, is_deleted, must_wait, is_in, list_at}
use Rattle.l4_model.specs.Conditions.{is_zero, has_passed}
use Rattle.l4_model.specs.Effects.{decided, refused}
use Rattle.l4_core_model.specs.Plain as plain
use Rattle.l4_core_model.specs.Letters.{TimedOut, Nobody, Cancelled, Dropped}
use Rattle.l4_core_model.specs.Local.{thread, held, declared}
use Rattle.l4_core_model.specs.Acts.{Work, entry, refuses, zero_refusable}
use Rattle.l4_core_model.specs.Runs.{IsMachine}
use Rattle.l4_core_model.proofs.Standing.{destination_within, any_at}
use Rattle.l4_core_model.proofs.Apart.{same_or_apart}
use Rattle.l4_refines.proofs.Relation.Views.{Scene, Kept, View, kept, view, world_thread, home, amid, is_of}
use Rattle.l4_refines.proofs.Relation.Rows.{AgreesIn, Agrees, Known}
use Rattle.l4_refines.proofs.Relation.Relates.{senders}
use Rattle.l4_refines.proofs.Frames.Places.{leaves_out}
use Rattle.l4_refines.proofs.Frames.Moves.{at_home}
use Rattle.l4_refines.proofs.Frames.Lists.{put_here}
use Rattle.l4_refines.proofs.Frames.Going.{Goes, IsHere, now_facts}
use Rattle.l4_refines.proofs.Sends.Deciding.{IsSendAt}
use Rattle.l4_refines.proofs.Sends.Waiting.{IsEntry, entry_at}
use Rattle.l4_refines.proofs.Sends.Finding.{pending_is}
use Rattle.l4_refines.proofs.Sends.Refusing.{HasSend, IsReceiver, refuses_goes, deleted_goes, zero_goes}

-- A send that waits at a thread of this processor

-- It is on this processor with its receiver, and stands in a list of the world.
pub record IsListedSend (m : Machine) (cpu r i : ℕ) (s : Scene) (w : World) (x : Work) : Type 0 where
  pub send : Send
  pub has : HasSend m cpu i s w x send
  pub receiver : IsReceiver m cpu r s has.goes.now x send
  pub queued : is_queued has.goes.now.waiting i ≡ true
  pub free : must_wait has.goes.now.owed (declared m i).id send.to ≡ false

pub listed_send : (m : Machine) (cpu r i : ℕ) (s : Scene) (w : World) (x : Work) (seat : plain.Waiting) → IsHere m cpu r → cpu < m.cpus →
    (e : Goes m cpu s w [] x) → i < length m.threads → IsEntry m r i (view m (amid cpu s x) e.now i) seat → IsListedSend m cpu r i s w x
listed_send m cpu r i s w x seat here processor e lt is =
    let v : View = view m (amid cpu s x) e.now i in
    let q = is.receiver in
    let listed = subst (λ q. (v.kept (home m q)).listed q ≡ entry m q i is.send ∷ []) q is.waits.listed in
    let stands : is_in i (list_at e.now.waiting r) ≡ true =
    ap (list_any (λ x. i == x)) (e.relates.lists r here.within) ∙ any_block i (senders m (amid cpu s x) r)
    ∙ any_kept (is_of i) (senders m (amid cpu s x) r) [] _ listed in
    record {
      send = is.send;
      has = record {
        machine = here.machine;
        processor = processor;
        within = lt;
        goes = record { starts = e.starts; now = e.now; reaches = e.reaches; relates = leaves_out m i [] (amid cpu s x) e.now e.relates };
        at = subst (λ p. IsSendAt m p i is.send v) here.home (entry_at m r i v seat (e.relates.places i lt tt) is);
      };
      receiver = record { within = here.within; home = here.home; to = is.waits.to ∙ ap Some q; seen = inl (e.relates.places r here.within tt).known };
      queued = any_list (λ x. i == x) e.now.waiting r stands;
      free = waiting_free m i r is.send.to e.now.waiting e.now.owed (here.machine.placed i lt) (is.waits.to ∙ ap Some q) stands
          (now_facts m cpu s w [] x e).owed_apart;
    }

-- What waits at a deleted thread, and what is of timeout zero and not waited for

pub refuses_first_goes : (m : Machine) (cpu r i : ℕ) (s : Scene) (w : World) (x : Work) → IsListedSend m cpu r i s w x →
    is_deleted (thread x.local r).phase ≡ true → Goes m cpu s w [] (refuses m cpu Nobody i x)
refuses_first_goes m cpu r i s w x l gone = deleted_goes m cpu i r s w x l.send l.has l.receiver l.free gone

-- It is of timeout zero, and its receiver does not wait for it.
pub refuses_zero_goes : (m : Machine) (cpu r i : ℕ) (s : Scene) (w : World) (x : Work) → IsListedSend m cpu r i s w x →
    zero_refusable m (held m x.local r) (thread x.local i).send ≡ true → Goes m cpu s w [] (refuses m cpu TimedOut i x)
refuses_zero_goes m cpu r i s w x l h = zero_goes m cpu i r s w x l.send l.has l.receiver l.free h

-- Its period is over.
pub refuses_timed_goes : (m : Machine) (cpu r i : ℕ) (s : Scene) (w : World) (x : Work) → (l : IsListedSend m cpu r i s w x) → is_zero l.send.period ≡ false →
    has_passed l.send.period l.send.since (at_home m i (view m (amid cpu s x) l.has.goes.now i)).clock ≡ true → Goes m cpu s w [] (refuses m cpu TimedOut i x)
refuses_timed_goes m cpu r i s w x l finite passed =
    let h = l.has in
    let pending = pending_is m cpu i l.send (i ∷ []) s x h.goes.now h.machine h.within h.goes.relates h.at in
    let queued = l.queued in
    let free = l.free in
    refuses_goes m cpu i s w x TimedOut l.send (refused 2) h refl (rw (pending, passed, finite, queued, free) refl)

-- It is cancelled, or its thread is deleted.

pub agrees_wish : {m : Machine} (world t : Thread) → Agrees m world t → world.cancel_send ≡ t.cancel_send
agrees_wish world t a = by t.phase a.by_phase
  where
    by : (p : Phase) → AgreesIn p world t → world.cancel_send ≡ t.cancel_send
    by Ready a = ap (λ (t : Thread). t.cancel_send) a
    by Sending a = ap (λ (t : Thread). t.cancel_send) a
    by (Receiving receive since) a = ap (λ (t : Thread). t.cancel_send) a.same
    by Ordering a = ap (λ (t : Thread). t.cancel_send) a
    by Ended a = ap (λ (t : Thread). t.cancel_send) a
    by Deleted a = a.cancel_send

-- It is to be cancelled.
pub cancels_goes : (m : Machine) (cpu r i : ℕ) (s : Scene) (w : World) (x : Work) → (l : IsListedSend m cpu r i s w x) →
    (at_home m i (view m (amid cpu s x) l.has.goes.now i)).thread.cancel_send ≡ true → Goes m cpu s w [] (refuses m cpu Cancelled i x)
cancels_goes m cpu r i s w x l wish =
    let h = l.has in
    let v : View = view m (amid cpu s x) h.goes.now i in
    let pending = pending_is m cpu i l.send (i ∷ []) s x h.goes.now h.machine h.within h.goes.relates h.at in
    let queued = l.queued in
    let wished : (world_thread h.goes.now i).cancel_send ≡ true = agrees_wish v.world (at_home m i v).thread h.at.agrees ∙ wish in
    refuses_goes m cpu i s w x Cancelled l.send (refused 6) h refl (rw (pending, queued, wished) refl)

-- Its sender is deleted.
pub drops_goes : (m : Machine) (cpu r i : ℕ) (s : Scene) (w : World) (x : Work) → (l : IsListedSend m cpu r i s w x) →
    (at_home m i (view m (amid cpu s x) l.has.goes.now i)).thread.phase ≡ Deleted → Goes m cpu s w [] (refuses m cpu Dropped i x)
drops_goes m cpu r i s w x l gone =
    let h = l.has in
    let v : View = view m (amid cpu s x) h.goes.now i in
    let pending = pending_is m cpu i l.send (i ∷ []) s x h.goes.now h.machine h.within h.goes.relates h.at in
    let queued = l.queued in
    let left : AgreesIn Deleted v.world (at_home m i v).thread = subst (λ p. AgreesIn p v.world (at_home m i v).thread) gone h.at.agrees.by_phase in
    let deleted : (world_thread h.goes.now i).phase ≡ Deleted = left.deleted in
    refuses_goes m cpu i s w x Dropped l.send decided h (rw deleted refl) (rw (pending, queued, deleted) refl)

-- A send that waits somewhere on this processor, with its receiver and its entry
pub record IsQueuedHere (m : Machine) (cpu i : ℕ) (v : View) : Type 0 where
  pub r : ℕ
  pub entry : plain.Waiting
  pub within : r < length m.threads
  pub here : home m r ≡ cpu
  pub is : IsEntry m r i v entry

queued_where : (m : Machine) (cpu i q : ℕ) (v : View) → Known m i v → ((v.kept cpu).listed q ≡ [] → ⊥) → IsQueuedHere m cpu i v
queued_where m cpu i q v known some = where_then m i v known
    (λ quiet none row a. absurd (some (row.unplaced.listed cpu q)))
    (λ send quiet has row a. same_or_apart (IsQueuedHere m cpu i v) cpu (home m row.r)
    (λ same. record {
      r = row.r;
      entry = entry m row.r i send;
      within = destination_within m send.to row.r row.to;
      here = sym same;
      is = record { send = send; has = has; quiet = quiet; agrees = a; waits = row; receiver = refl; is = refl };
    })
    (λ ne. absurd (some (row.elsewhere cpu q ne))))
    (λ p is row a. absurd (some (row.unplaced.listed cpu q)))
    (λ p name result is content row a. absurd (some (row.unplaced.listed cpu q)))
    (λ p is row a. absurd (some (row.orders.unplaced.listed cpu q)))
    (λ p caller is content row a. absurd (some (row.orders.unplaced.listed cpu q)))

pub queued_here : (m : Machine) (cpu i : ℕ) (s : Scene) (w : World) (x : Work) → cpu < m.cpus → (e : Goes m cpu s w [] x) → IsMachine m → i < length m.threads →
    plain.is_queued x.local.lists i ≡ true → (r : ℕ) × IsListedSend m cpu r i s w x
queued_here m cpu i s w x processor e machine lt queued =
    let v : View = view m (amid cpu s x) e.now i in
    let at = any_at (list_any (λ (f : plain.Waiting). i == f.block)) x.local.lists.waiting queued in
    let here : v.kept cpu ≡ kept x.local i = ap (λ l. kept l i) (put_here cpu cpu x.local s.locals refl) in
    let q = queued_where m cpu i at.0 v (e.relates.places i lt tt).known
    (λ none. let no = none_kept (is_of i) (plain.list_of x.local.lists at.0) (sym (ap (λ (k : Kept). k.listed at.0) here) ∙ none) in let yes = at.1 in
    cc (no, yes)) in
    (q.r, listed_send m cpu q.r i s w x q.entry (record { machine = machine; within = q.within; home = q.here }) processor e lt q.is)
