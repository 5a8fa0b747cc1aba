-- A send on its receiver's processor is refused.
use Rattle.l4_refines.proofs.Relation.Whereabouts.{where_then}
use Rattle.l4_core_model.proofs.Sending.{nowhere_is}
use Rattle.l4_core_model.proofs.Fit.{zero_passed, SendIsSince}
use Rattle.l4_core_model.proofs.Choosing.{both}
use Rattle.std.proofs.Common.{◌≡◌, ℕ, ◌<◌, ◌≤◌, true, Some, None, [], ◌∷◌, length, refl, ap, sym, ◌∙◌, subst, inl, inr, ◌⊎◌, false}
use Rattle.std.specs.Prelude.{◌&&◌, not}
use Rattle.l4_model.specs.Words.{Id, NilThread, AnyThread, AnyLocalThread, LocalThread, GlobalThread}
use Rattle.l4_model.specs.Machine.{Machine, place_of}
use Rattle.l4_model.specs.World.{Thread, World, Send, Message, Deleted, change, unqueued, must_wait, is_deleted, is_alive}
use Rattle.l4_model.specs.Conditions.{Found, is_no_destination, is_zero, is_refusable, may_still_accept}
use Rattle.l4_model.specs.History.{run}
use Rattle.l4_model.specs.Steps.{next}
use Rattle.l4_model.specs.Effects.{refused, obeyed}
use Rattle.l4_core_model.specs.Letters.{Refusal, TimedOut, Nobody, Refused, refusal_step}
use Rattle.l4_core_model.specs.Local.{declared, thread, held, destination_place, last_name, after_decision}
use Rattle.l4_core_model.specs.Acts.{Work, ◌▷◌, tells, refuses, zero_refusable}
use Rattle.l4_core_model.specs.Runs.{IsMachine}
use Rattle.l4_refines.proofs.Relation.Views.{Scene, Kept, View, view, world_thread, home, amid}
use Rattle.l4_refines.proofs.Relation.Rows.{AgreesIn, Agrees, Known}
use Rattle.l4_refines.proofs.Relation.Agreement.{ended_deleted}
use Rattle.l4_refines.proofs.Sends.Refusable.{refusable_known, same_refusable}
use Rattle.l4_refines.proofs.Frames.Moves.{at_home, deleted_phase}
use Rattle.l4_refines.proofs.Frames.Going.{Goes, one_more_told, home_is}
use Rattle.l4_refines.proofs.Sends.Deciding.{IsSendAt}
use Rattle.l4_refines.proofs.Sends.Finding.{place_found, receiver_is, held_is, pending_is, ends_steps, ends_relates}

-- A send in hand or in a list, on the processor of the event, with all else related.
pub record HasSend (m : Machine) (cpu i : ℕ) (s : Scene) (w : World) (x : Work) (send : Send) : Type 0 where
  pub machine : IsMachine m
  pub processor : cpu < m.cpus
  pub within : i < length m.threads
  pub goes : Goes m cpu s w (i ∷ []) x
  pub at : IsSendAt m cpu i send (view m (amid cpu s x) goes.now i)

-- A send on this processor may be refused where the world allows the step.
pub refuses_goes : (m : Machine) (cpu i : ℕ) (s : Scene) (w : World) (x : Work) (refusal : Refusal) (send : Send) (g : Thread → Thread) →
    (h : HasSend m cpu i s w x send) →
    g (world_thread h.goes.now i) ≡ after_decision (Refused refusal) (at_home m i (view m (amid cpu s x) h.goes.now i)).clock (world_thread h.goes.now i) →
    next m h.goes.now (refusal_step refusal (last_name m x.local i)) ≡ Some (change (unqueued h.goes.now i) i g) →
    Goes m cpu s w [] (refuses m cpu refusal i x)
refuses_goes m cpu i s w x refusal send g h is possible =
    let u : World = change (unqueued h.goes.now i) i g in
    let y : Work = x ▷ tells (refusal_step refusal (last_name m x.local i)) in
    let steps = ends_steps m cpu i y (Refused refusal) in
    record {
      starts = h.goes.starts;
      now = u;
      reaches = ap (run m w) steps ∙ one_more_told m w h.goes.now u x.steps (refusal_step refusal (last_name m x.local i)) h.goes.reaches possible;
      relates = ends_relates m cpu i [] s h.goes.now y (Refused refusal) send g h.machine h.processor h.within h.at is h.goes.relates;
    }

-- Nobody is there

pub nowhere_goes : (m : Machine) (cpu i : ℕ) (s : Scene) (w : World) (x : Work) (send : Send) → (h : HasSend m cpu i s w x send) →
    must_wait h.goes.now.owed (declared m i).id send.to ≡ false →
    destination_place m send.to ≡ None → (send.to ≡ NilThread → ⊥) → Goes m cpu s w [] (refuses m cpu Nobody i x)
nowhere_goes m cpu i s w x send h free to not_nil =
    let pending = pending_is m cpu i send (i ∷ []) s x h.goes.now h.machine h.within h.goes.relates h.at in
    let nobody = nowhere_is m h.goes.now send.to to not_nil in
    refuses_goes m cpu i s w x Nobody send (refused 4) h refl (rw (pending, nobody, free) refl)

-- A thread that is deleted at home is deleted in the world.
pub deleted_known : (m : Machine) (r : ℕ) (v : View) → Known m r v → (at_home m r v).thread.phase ≡ Deleted → v.world.phase ≡ Deleted
deleted_known m r v known gone = where_then m r v known
    (λ quiet none row a. left t gone a)
    (λ send quiet has row a. left t gone a)
    (λ p is row a. left t gone a)
    (λ p name result is content row a.
    left (after_decision result clock t) (ap (λ (u : Thread). u.phase) (ended_deleted result clock t row.goes.send gone row.goes.has) ∙ gone) a)
    (λ p is row a. left t gone a)
    (λ p caller is content row a. left (obeyed t) obeyed_gone a)
  where
    t : Thread
    t = (at_home m r v).thread

    clock : ℕ
    clock = (at_home m r v).clock

    left : (u : Thread) → u.phase ≡ Deleted → Agrees m v.world u → v.world.phase ≡ Deleted
    left u is a = let l : AgreesIn Deleted v.world u = subst (λ p. AgreesIn p v.world u) is a.by_phase in l.deleted

    obeyed_gone : (obeyed t).phase ≡ Deleted
    obeyed_gone = rw gone refl

-- The world has a thread as its home does, now or once the letter under way to it is handled.
abbrev pub IsSeen : Machine → ℕ → View → Type 0
IsSeen m r v = Known m r v ⊎ Agrees m v.world (at_home m r v).thread

deleted_seen : (m : Machine) (r : ℕ) (v : View) → IsSeen m r v → (at_home m r v).thread.phase ≡ Deleted → v.world.phase ≡ Deleted
deleted_seen m r v (inl known) gone = deleted_known m r v known gone
deleted_seen m r v (inr agrees) gone = let left : AgreesIn Deleted v.world (at_home m r v).thread =
    subst (λ p. AgreesIn p v.world (at_home m r v).thread) gone agrees.by_phase in left.deleted

refusable_seen : (m : Machine) (r : ℕ) (send : Send) (v : View) → place_of m (declared m r).id ≡ Some r → IsSeen m r v →
    is_refusable m send (Some (record { at = r; declared = declared m r; now = (at_home m r v).thread; clock = (at_home m r v).clock })) ≡ true →
    is_refusable m send (Some (record { at = r; declared = declared m r; now = v.world; clock = (at_home m r v).clock })) ≡ true
refusable_seen m r send v here (inl known) h = refusable_known m r send v here known h
refusable_seen m r send v here (inr agrees) h = same_refusable m r (at_home m r v).clock send (at_home m r v).thread v.world agrees h

-- The receiver of a send, at its home, where the send is
pub record IsReceiver (m : Machine) (cpu r : ℕ) (s : Scene) (w : World) (x : Work) (send : Send) : Type 0 where
  pub within : r < length m.threads
  pub home : home m r ≡ cpu
  pub to : destination_place m send.to ≡ Some r
  pub seen : IsSeen m r (view m (amid cpu s x) w r)

-- Its receiver is deleted.
pub deleted_goes : (m : Machine) (cpu i r : ℕ) (s : Scene) (w : World) (x : Work) (send : Send) → (h : HasSend m cpu i s w x send) →
    IsReceiver m cpu r s h.goes.now x send → must_wait h.goes.now.owed (declared m i).id send.to ≡ false → is_deleted (thread x.local r).phase ≡ true →
    Goes m cpu s w [] (refuses m cpu Nobody i x)
deleted_goes m cpu i r s w x send h q free gone =
    let pending = pending_is m cpu i send (i ∷ []) s x h.goes.now h.machine h.within h.goes.relates h.at in
    let receiver = receiver_is m r send.to (i ∷ []) (amid cpu s x) h.goes.now h.machine q.within h.goes.relates q.to in
    let was = ap (λ (k : Kept). k.thread.phase) (home_is m cpu r s x h.goes.now q.home) in
    let is = deleted_seen m r (view m (amid cpu s x) h.goes.now r) q.seen (was ∙ deleted_phase (thread x.local r).phase gone) in
    let nobody = no_destination send.to is q.to in
    refuses_goes m cpu i s w x Nobody send (refused 4) h refl (rw (pending, receiver, nobody, free) refl)
  where
    no_destination : (to : Id) → (world_thread h.goes.now r).phase ≡ Deleted → destination_place m to ≡ Some r →
        is_no_destination to (Some (place_found m (amid cpu s x) h.goes.now r)) ≡ true
    no_destination NilThread is to = cc
    no_destination AnyThread is to = refl
    no_destination AnyLocalThread is to = refl
    no_destination (LocalThread word) is to = refl
    no_destination (GlobalThread t) is to = rw is refl

-- It is of timeout zero, and its receiver does not wait for it.
pub zero_goes : (m : Machine) (cpu i r : ℕ) (s : Scene) (w : World) (x : Work) (send : Send) → (h : HasSend m cpu i s w x send) →
    IsReceiver m cpu r s h.goes.now x send → must_wait h.goes.now.owed (declared m i).id send.to ≡ false →
    zero_refusable m (held m x.local r) (thread x.local i).send ≡ true → Goes m cpu s w [] (refuses m cpu TimedOut i x)
zero_goes m cpu i r s w x send h q free refusable =
    let now = h.goes.now in
    let v : View = view m (amid cpu s x) now r in
    let pending = pending_is m cpu i send (i ∷ []) s x now h.machine h.within h.goes.relates h.at in
    let receiver = receiver_is m r send.to (i ∷ []) (amid cpu s x) now h.machine q.within h.goes.relates q.to in
    let held_here = held_is m cpu i send s x now h.at in
    let tests = both (is_zero held_here.held.period) (is_refusable m held_here.held (Some (held m x.local r)))
    (subst (λ o. zero_refusable m (held m x.local r) o ≡ true) held_here.has refusable) in
    let zero : is_zero send.period ≡ true = sym held_here.zero ∙ tests.0 in
    let was = home_is m cpu r s x now q.home in
    let at_r : is_refusable m send (Some (record { at = r; declared = declared m r; now = (at_home m r v).thread; clock = (at_home m r v).clock })) ≡ true =
    subst (λ (k : Kept). is_refusable m send (Some (record { at = r; declared = declared m r; now = k.thread; clock = k.clock })) ≡ true) (sym was)
    (other_send held_here.held send (held m x.local r) held_here.message tests.1) in
    let in_world : is_refusable m send (Some (place_found m (amid cpu s x) now r)) ≡ true =
    refusable_seen m r send v (h.machine.placed r q.within) q.seen at_r in
    let passed = zero_passed send.period send.since (at_home m i (view m (amid cpu s x) now i)).clock zero (since (view m (amid cpu s x) now i) h.at) in
    refuses_goes m cpu i s w x TimedOut send (refused 2) h refl (rw (pending, passed, zero, receiver, in_world, free) refl)
  where
    other_send : (a b : Send) (f : Found) → a.message ≡ b.message → is_refusable m a (Some f) ≡ true → is_refusable m b (Some f) ≡ true
    other_send a b f e h = subst (λ (message : Message). (is_alive f.now.phase && not (may_still_accept m f message.shown f.now.phase)) ≡ true) e h

    since : (v : View) → IsSendAt m cpu i send v → send.since ≤ (at_home m i v).clock
    since v at = subst (SendIsSince (at_home m i v).clock) at.has at.kept.at_home.good.sends
