-- The first waiting send that a receiver accepts is delivered to it; so is a send in hand that arrives where it is waited for.
use Rattle.l4_refines.proofs.Retargets.Owes.{IsOwedTo, owes_relates, owes_steps}
use Rattle.l4_refines.proofs.Frames.Locals.{come, comes_here}
use Rattle.l4_refines.proofs.Relation.Whereabouts.{not_both}
use Rattle.std.proofs.lemmas.Option.{slice_get-get_or}
use Rattle.std.specs.Prelude.{IfSome, slice_index}
use Rattle.l4_model.proofs.Owed.{owed_by_is}
use Rattle.l4_model.specs.Reached.{IsSendOf}
use Rattle.l4_refines.proofs.Frames.Owes.{ready_owes, receiving_owes}
use Rattle.std.proofs.Common.{◌≡◌, ℕ, ◌<◌, Some, None, [], length, refl, ap, sym, ◌∙◌, subst, arith, true, inl, inr, false, Option}
use Rattle.l4_model.specs.Words.{Id}
use Rattle.l4_model.specs.Machine.{Machine, is_place}
use Rattle.l4_model.specs.World.{Thread, World, Send, Receive, Message, Phase, Ready, Receiving, Deleted, change, unqueued, opening_thread, is_deleted, is_alive, must_wait, Owed}
use Rattle.l4_model.specs.Conditions.{first_accepted}
use Rattle.l4_model.specs.History.{run}
use Rattle.l4_model.specs.Steps.{Step, Deliver, next, Queue, owing}
use Rattle.l4_model.specs.Rules.{takes, received_tag, is_cross, owed_by}
use Rattle.l4_model.specs.Effects.{receives, delivered}
use Rattle.l4_core_model.specs.Plain as plain
use Rattle.l4_core_model.specs.Letters.{Delivered, TimedOut, Nobody}
use Rattle.l4_core_model.specs.Local.{Local, declared, thread, destination_place, last_name, comes_to, readied, after_decision, was_delivered, held, relists, owed_beside, undeclared}
use Rattle.l4_core_model.specs.Acts.{Work, ◌▷◌, tells, does, delivers, delivers_send, delivers_message, refuses, entry, first_acceptable, delivers_if_first, zero_refusable, queues_send, arrives, decides_send}
use Rattle.l4_core_model.proofs.Changed.{same_nat, same_ids, same_bytes, part-changed_at}
use Rattle.l4_core_model.proofs.Fit.{IsGood}
use Rattle.l4_core_model.proofs.Choosing.{accepts_is}
use Rattle.l4_core_model.proofs.Apart.{same_or_apart}
use Rattle.l4_core_model.proofs.Good.{receiving_has_none, receives_good}
use Rattle.l4_refines.proofs.Relation.Views.{Scene, Kept, View, kept, view, world_thread, home, amid}
use Rattle.l4_refines.proofs.Relation.Rows.{Agrees, IsEarlier, Matches, OwesIn}
use Rattle.l4_refines.proofs.Relation.Agreement.{same_agrees, receiving_is, receives_agrees}
use Rattle.l4_refines.proofs.Relation.Relates.{RelatesExcept, senders}
use Rattle.l4_refines.proofs.Frames.Places.{leaves_out, takes_in, put_same}
use Rattle.l4_refines.proofs.Frames.Moves.{at_home, of_none}
use Rattle.l4_refines.proofs.Frames.Going.{Goes, IsHere, one_more_told, put_home, home_is, IsQuiet, comes, quiet_matches, now_facts, sized_here}
use Rattle.l4_refines.proofs.Turns.Instructions.{IsFree, free_is}
use Rattle.l4_refines.proofs.Sends.Deciding.{IsSendAt}
use Rattle.l4_refines.proofs.Sends.Waiting.{entry_at, entries_here, first_accepted_is, IsFirstSender, first_entry, agrees_send}
use Rattle.l4_refines.proofs.Sends.Finding.{place_found, receiver_is, held_is, pending_is, ends_relates, ends_steps, ends_spares}
use Rattle.l4_model.proofs.Chains.{cond_keeps}
use Rattle.l4_refines.proofs.Sends.Refusing.{HasSend, IsSeen, IsReceiver, deleted_goes, zero_goes}
use Rattle.l4_refines.proofs.Sends.Queueing.{IsInHand, queue_goes}

-- A thread of this processor that waits for a message, as it stands
pub record IsReceivingAt (m : Machine) (cpu r : ℕ) (s : Scene) (w : World) (x : Work) (receive : Receive) (since : ℕ) : Type 0 where
  pub matches : Matches m r (view m (amid cpu s x) w r)
  pub good : IsGood x.local.clock (thread x.local r)
  pub send : (thread x.local r).send ≡ None
  pub order : (thread x.local r).order ≡ None
  pub out : (kept x.local r).ready ≡ []
  pub free : IsFree m r (view m (amid cpu s x) w r)
  pub agrees : Agrees m (world_thread w r) (thread x.local r)
  pub earlier : IsEarlier receive since (world_thread w r) (thread x.local r)

pub receiving_at : (m : Machine) (cpu r : ℕ) (s : Scene) (w : World) (x : Work) (receive : Receive) (since : ℕ) → IsHere m cpu r →
    Matches m r (view m (amid cpu s x) w r) → (thread x.local r).phase ≡ Receiving receive since → IsReceivingAt m cpu r s w x receive since
receiving_at m cpu r s w x receive since here matches is =
    let v : View = view m (amid cpu s x) w r in
    let was = home_is m cpu r s x w here.home in
    let good = subst (λ (k : Kept). IsGood k.clock k.thread) was matches.known.kept.at_home.good in
    let none = receiving_has_none (thread x.local r).phase receive since (thread x.local r).send (thread x.local r).order is good.suits in
    let free = free_is m r v matches.known (ap (λ (k : Kept). k.thread.send) was ∙ none.0) (ap (λ (k : Kept). k.thread.order) was ∙ none.1) in
    let agrees : Agrees m v.world (thread x.local r) = subst (λ (k : Kept). Agrees m v.world k.thread) was free.agrees in
    record {
      matches = matches;
      good = good;
      send = none.0;
      order = none.1;
      out = subst (λ (k : Kept). k.ready ≡ readied k.thread.phase r []) was matches.ready ∙ ap (λ p. readied p r []) is;
      free = free;
      agrees = agrees;
      earlier = receiving_is receive since v.world (thread x.local r) is agrees;
    }

-- It comes to a phase in which it has neither send nor order.
pub receiving_quiet : (m : Machine) (cpu r : ℕ) (s : Scene) (w : World) (x : Work) (receive : Receive) (since : ℕ) (f : Thread → Thread) →
    IsReceivingAt m cpu r s w x receive since → (thread x.local r).phase ≡ Receiving receive since →
    (f (thread x.local r)).send ≡ (thread x.local r).send → (f (thread x.local r)).order ≡ (thread x.local r).order →
    (f (thread x.local r)).context.begun ≡ (thread x.local r).context.begun → (f (thread x.local r)).phase ≡ Ready →
    IsGood x.local.clock (f (thread x.local r)) → f (world_thread w r) ≡ f (thread x.local r) → IsQuiet m r (view m (amid cpu s x) w r) (kept x.local r) f f
receiving_quiet m cpu r s w x receive since f at is send order begun ready good same = record {
  kept = at.matches.known.kept;
  quiet = at.free.quiet;
  unplaced = at.free.unplaced;
  out = at.out;
  send = send ∙ at.send;
  order = order ∙ at.order;
  agrees = same_agrees (f (world_thread w r)) (f (thread x.local r)) same;
  good = good;
  fresh = rw ready tt;
  owes = ready_owes (f (thread x.local r)).phase (owed_beside x.local r) ready;
  stays_true = record {
    deleted = λ gone. absurd (not_deleted (thread x.local r).phase is gone);
    begun = omega (arith, begun);
    causes = λ cause same old. of_none _ (f (thread x.local r)).send (send ∙ at.send);
  };
}
  where
    not_deleted : (p : Phase) → p ≡ Receiving receive since → p ≡ Deleted → ⊥
    not_deleted p a b = cc

-- The first waiting send of a receiver of this processor
first_at : (m : Machine) (cpu r i : ℕ) (s : Scene) (w : World) (x : Work) (from : Id) → IsHere m cpu r → RelatesExcept m (Matches m) [] (amid cpu s x) w →
    plain.first_taken from (plain.list_of x.local.lists r) ≡ Some i → IsFirstSender m (amid cpu s x) w r i
first_at m cpu r i s w x from here rel first =
    let list : senders m (amid cpu s x) r ≡ plain.list_of x.local.lists r =
    ap (λ (l : Local). plain.list_of l.lists r) (put_home m cpu r s x.local here.home) in
    first_entry m (amid cpu s x) w r i (λ (e : plain.Waiting). takes from e.shown e.local) (senders m (amid cpu s x) r)
    (entries_here m (amid cpu s x) w r here.machine here.within rel) (ap (plain.first_taken from) list ∙ first)

message_goes : (m : Machine) (cpu r i : ℕ) (s : Scene) (w : World) (x : Work) (receive : Receive) (since : ℕ) (send : Send) → IsHere m cpu r → cpu < m.cpus →
    (e : Goes m cpu s w [] x) → (thread x.local r).phase ≡ Receiving receive since →
    plain.first_taken receive.from (plain.list_of x.local.lists r) ≡ Some i → IsSendAt m cpu i send (view m (amid cpu s x) e.now i) → i < length m.threads →
    destination_place m send.to ≡ Some r →
    Goes m cpu s w [] (delivers_message m cpu r i send.message (received_tag (is_cross m (declared m r).id send.message) send.message) x)
message_goes m cpu r i s w x receive since send here processor e is first at lt to =
    let now = e.now in
    let rel = e.relates in
    let tag : ℕ = received_tag (is_cross m (declared m r).id send.message) send.message in
    let f : Thread → Thread = receives send.message tag in
    let step : Step = Deliver (last_name m x.local i) (declared m r).id send.message.shown send.message.actual tag send.message.words in
    let x1 : Work = x ▷ tells step ▷ does (comes_to r f) in
    let w1 : World = change now r f in
    let clock : ℕ = ((amid cpu s x).locals (home m i)).clock in
    let g : Thread → Thread = delivered send clock in
    let a = receiving_at m cpu r s now x receive since here (rel.places r here.within tt) is in
    let c = comes m cpu r [] s now x f f here (leaves_out m r [] (amid cpu s x) now rel) in
    let q = receiving_quiet m cpu r s now x receive since f a is refl refl refl refl
    (receives_good x.local.clock send.message tag (thread x.local r) receive since is a.good)
    (receives_agrees send.message tag receive since (world_thread now r) (thread x.local r) is a.agrees) in
    let rel1 = takes_in m r [] (amid cpu s x1) w1 c.relates (quiet_matches m cpu r [] s now x f f here c q) in
    let i1 = first_at m cpu r i s w1 x1 receive.from here rel1 first in
    let at1 : IsSendAt m cpu i i1.is.send (view m (amid cpu s x1) w1 i) =
    subst (λ p. IsSendAt m p i i1.is.send (view m (amid cpu s x1) w1 i)) here.home
    (entry_at m r i (view m (amid cpu s x1) w1 i) i1.entry (rel1.places i lt tt) i1.is) in
    let has : (world_thread w1 i).send ≡ Some send =
    part-changed_at (λ (t : Thread). t.send) f (λ t. refl) now.threads r i opening_thread ∙ agrees_send (world_thread now i) _ at.agrees ∙ at.has in
    let same_clock : (at_home m i (view m (amid cpu s x1) w1 i)).clock ≡ clock = put_same (λ l. l.clock) cpu (home m i) x.local x1.local s.locals refl in
    let ended_is : g (world_thread w1 i) ≡ after_decision Delivered (at_home m i (view m (amid cpu s x1) w1 i)).clock (world_thread w1 i) =
    ap (λ k. delivered send k (world_thread w1 i)) (sym same_clock)
    ∙ sym (ap (λ o. was_delivered o (at_home m i (view m (amid cpu s x1) w1 i)).clock (world_thread w1 i)) has) in
    let steps = ends_steps m cpu i x1 Delivered in
    let pending = pending_is m cpu i send [] s x now here.machine lt rel at in
    let receiver = receiver_is m r send.to [] (amid cpu s x) now here.machine here.within rel to in
    let waits = a.earlier.same in
    let list : senders m (amid cpu s x) r ≡ plain.list_of x.local.lists r =
    ap (λ (l : Local). plain.list_of l.lists r) (put_home m cpu r s x.local here.home) in
    let accepted : first_accepted m now (place_found m (amid cpu s x) now r) receive.from ≡ Some i =
    first_accepted_is m (amid cpu s x) now r receive.from (place_found m (amid cpu s x) now r) here.machine here.within refl refl rel
    ∙ ap (plain.first_taken receive.from) list ∙ first in
    let t0 = same_nat i in
    let t1 = same_ids (declared m r).id in
    let t2 = same_ids send.message.shown in
    let t3 = same_ids send.message.actual in
    let t4 = same_nat tag in
    let t5 = same_bytes send.message.words in
    let phase : (world_thread now r).phase ≡ Receiving receive a.earlier.began = ap (λ (t : Thread). t.phase) waits in
    let u : World = change (unqueued w1 i) i g in
    let x2 : Work = decides_send m cpu Delivered i x1 in
    let owed : Option Owed = owed_by m (last_name m x.local i) send.message (declared m r).id in
    let possible : next m now step ≡ Some (owing owed u) = rw (pending, receiver, phase, accepted, t0, t1, t2, t3, t4, t5) refl in
    let rel2 = ends_relates m cpu i [] s w1 x1 Delivered i1.is.send g here.machine processor lt at1 ended_is (leaves_out m i [] (amid cpu s x1) w1 rel1) in
    let was = home_is m cpu r s x now here.home in
    let apart : i ≡ r → ⊥ = λ same. not_both (at_home m i (view m (amid cpu s x) now i)).thread.send send at.has
    (ap (λ j. (at_home m j (view m (amid cpu s x) now j)).thread.send) same ∙ ap (λ (k : Kept). k.thread.send) was ∙ a.send) in
    let sized = sized_here m cpu r [] s now x here rel in
    let served : kept x2.local r ≡ come r f (kept x.local r) =
    ends_spares m cpu i r x1 Delivered apart ∙ comes_here x.local r f (let within = here.within in omega (arith, sized.threads)) in
    let v2 : View = view m (amid cpu s x2) u r in
    let is2 : at_home m r v2 ≡ come r f (kept x.local r) = home_is m cpu r s x2 u here.home ∙ served in
    let free2 = free_is m r v2 (rel2.places r here.within tt).known (ap (λ (k : Kept). k.thread.send) is2 ∙ a.send)
    (ap (λ (k : Kept). k.thread.order) is2 ∙ a.order) in
    let nothing : owed_beside x.local r ≡ None = receiving_owes (thread x.local r).phase (owed_beside x.local r) receive since is
    (subst (λ (k : Kept). OwesIn k.thread.phase k.owed) was a.matches.known.kept.at_home.owes) in
    let facts = now_facts m cpu s w [] x e in
    let in_world : i < length now.threads = omega (arith, rel.sized_world.threads) in
    let here_i = facts.each_thread i (declared m i) (world_thread now i) (slice_get-get_or m.threads i undeclared lt)
    (slice_get-get_or now.threads i opening_thread in_world) in
    let its = subst (λ o. IfSome o (IsSendOf m (declared m i).id (slice_index now.clocks (declared m i).cpu)))
    (agrees_send (world_thread now i) _ at.agrees ∙ at.has) here_i.send in
    record {
      starts = e.starts;
      now = owing owed u;
      reaches = ap (run m w) (owes_steps m cpu r owed x2 ∙ steps) ∙ one_more_told m w now (owing owed u) x.steps step e.reaches possible;
      relates = owes_relates m cpu r owed s u x2 here processor (ap (λ (k : Kept). k.thread.phase) served) (ap (λ (k : Kept). k.owed) served ∙ nothing)
          free2.quiet
          (owed_by_is (IsOwedTo m r) m (last_name m x.local i) send.message (declared m r).id
          (record { new_partner = here.machine.placed r here.within; originator = its.shown })) rel2;
    }

-- The first that a receiver accepts is delivered to it, whatever processor its sender is of.
pub delivers_goes : (m : Machine) (cpu r i : ℕ) (s : Scene) (w : World) (x : Work) (receive : Receive) (since : ℕ) → IsHere m cpu r → cpu < m.cpus →
    Goes m cpu s w [] x → (thread x.local r).phase ≡ Receiving receive since →
    plain.first_taken receive.from (plain.list_of x.local.lists r) ≡ Some i → Goes m cpu s w [] (delivers m cpu r i x)
delivers_goes m cpu r i s w x receive since here processor e is first =
    let f = first_at m cpu r i s e.now x receive.from here e.relates first in
    let v : View = view m (amid cpu s x) e.now i in
    let at : IsSendAt m cpu i f.is.send v =
    subst (λ p. IsSendAt m p i f.is.send v) here.home (entry_at m r i v f.entry (e.relates.places i f.within tt) f.is) in
    let held = held_is m cpu i f.is.send s x e.now at in
    let has = held.has in
    let goes = message_goes m cpu r i s w x receive since f.is.send here processor e is first at f.within (f.is.waits.to ∙ ap Some f.is.receiver) in
    subst (λ o. Goes m cpu s w [] (delivers_send m cpu r i o x)) (sym has)
    (subst (λ (message : Message). Goes m cpu s w [] (delivers_message m cpu r i message (received_tag (is_cross m (declared m r).id message) message) x))
    (sym held.message) goes)

-- A send that has come to its receiver's processor is refused, or queued, and delivered where the receiver waits for it.

receiver_seen : (m : Machine) (cpu i r : ℕ) (s : Scene) (w : World) (x : Work) (send : Send) → (h : HasSend m cpu i s w x send) → r < length m.threads →
    IsSeen m r (view m (amid cpu s x) h.goes.now r)
receiver_seen m cpu i r s w x send h lt = same_or_apart (IsSeen m r (view m (amid cpu s x) h.goes.now r)) i r
    (λ same. subst (λ j. IsSeen m j (view m (amid cpu s x) h.goes.now j)) same (inr h.at.agrees))
    (λ ne. inl (h.goes.relates.places r lt ((λ e. ne (sym e)), tt)).known)

if_first_goes : (m : Machine) (cpu i r : ℕ) (s : Scene) (w : World) (y : Work) → IsHere m cpu r → cpu < m.cpus → Goes m cpu s w [] y →
    Goes m cpu s w [] (delivers_if_first m cpu r i y)
if_first_goes m cpu i r s w y here processor e = cond_keeps (Goes m cpu s w []) (is_place (first_acceptable y.local r) i) (delivers m cpu r i y) y
    (λ yes. let t = accepts_is y.local.lists r i (thread y.local r).phase yes in
    delivers_goes m cpu r i s w y t.receive t.since here processor e t.receiving t.first)
    (λ otherwise. e)

-- A send in hand arrives at its receiver.
pub arrives_goes : (m : Machine) (cpu i r : ℕ) (s : Scene) (w : World) (x : Work) (send : Send) → (h : IsInHand m cpu i s w x send) → home m r ≡ cpu →
    r < length m.threads → destination_place m send.to ≡ Some r → must_wait h.has.goes.now.owed (declared m i).id send.to ≡ false →
    Goes m cpu s w [] (arrives m cpu r i x)
arrives_goes m cpu i r s w x send h home_is lt to free =
    let has = h.has in
    let q : IsReceiver m cpu r s has.goes.now x send = record { within = lt; home = home_is; to = to; seen = receiver_seen m cpu i r s w x send has lt } in
    let held_here = held_is m cpu i send s x has.goes.now has.at in
    let here : IsHere m cpu r = record { machine = has.machine; within = lt; home = home_is } in
    cond_keeps (Goes m cpu s w []) (is_deleted (thread x.local r).phase) (refuses m cpu Nobody i x) _
    (λ gone. deleted_goes m cpu i r s w x send has q free gone)
    (λ alive. cond_keeps (Goes m cpu s w []) (zero_refusable m (held m x.local r) (thread x.local i).send) (refuses m cpu TimedOut i x)
    (queues_send m cpu r i (thread x.local i).send x)
    (λ refusable. zero_goes m cpu i r s w x send has q free refusable)
    (λ otherwise. let living : is_alive (thread x.local r).phase ≡ true = rw alive refl in
    subst (λ o. Goes m cpu s w [] (queues_send m cpu r i o x)) (sym held_here.has)
    (subst (λ (message : Message).
    Goes m cpu s w [] (x ▷ tells (Queue (last_name m x.local i)) ▷ does (relists (plain.queued r (entry m r i (record send { message = message }))))
    ▷ delivers_if_first m cpu r i)) (sym held_here.message)
    (if_first_goes m cpu i r s w _ here has.processor (queue_goes m cpu i r s w x send h q free living)))))
