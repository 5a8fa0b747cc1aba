-- A send in hand is appended to the list of its receiver.
use Rattle.l4_refines.proofs.Lists.{any_block, none_in, none_kept}
use Rattle.std.proofs.Common.{◌≡◌, ℕ, ◌<◌, true, false, Option, Some, None, List, [], ◌∷◌, ◌++◌, length, refl, ap, sym, ◌∙◌, subst, inl, inr, arith}
use Rattle.std.specs.Prelude.{◌==◌}
use Rattle.std.specs.List.{list_any}
use Rattle.l4_model.specs.Machine.{Machine}
use Rattle.l4_model.specs.World.{Thread, World, Send, Receive, Phase, Ready, Sending, Receiving, Ordering, Ended, Deleted, queued, is_queued, must_wait, is_alive}
use Rattle.l4_model.specs.Steps.{Queue}
use Rattle.l4_model.specs.Effects.{decided, goes_on}
use Rattle.l4_model.proofs.Chains.{cond_both, some_is}
use Rattle.l4_model.specs.Reached.{Suits}
use Rattle.l4_core_model.specs.Plain as plain
use Rattle.l4_core_model.specs.Letters.{Result, Delivered, Refused, TimedOut, Nobody, Cancelled, Dropped, Content, SendLetter, DoneLetter, WithdrawLetter, GoneLetter, OrderLetter, OrderDoneLetter, RetargetLetter}
use Rattle.l4_core_model.specs.Local.{Local, declared, thread, destination_place, last_name, relists, readied, after_decision, was_delivered}
use Rattle.l4_core_model.specs.Acts.{Work, ◌▷◌, tells, does, entry}
use Rattle.l4_core_model.specs.Runs.{Posted}
use Rattle.l4_core_model.proofs.Apart.{same_or_apart}
use Rattle.l4_refines.proofs.Frames.Locals.{queued_listed, queued_other_list}
use Rattle.l4_refines.proofs.Relation.Views.{Scene, Kept, View, kept, view, home, put, amid, is_of, locators}
use Rattle.l4_refines.proofs.Relation.Rows.{seats, AgreesIn, Agrees, learns, learned, Row, IsStandIn, IsWaiting, IsKept, Known, Matches}
use Rattle.l4_refines.proofs.Relation.Relates.{RelatesExcept, senders}
use Rattle.l4_refines.proofs.Frames.Places.{first_about, takes_in, put_same}
use Rattle.l4_refines.proofs.Frames.Lists.{queues, without_lists, put_here}
use Rattle.l4_refines.proofs.Frames.Moves.{at_home}
use Rattle.l4_refines.proofs.Frames.Going.{Goes, one_more_told, home_is, sized_here, put_other}
use Rattle.l4_refines.proofs.Sends.Deciding.{IsSendAt, kept_without_lists, kept_with_lists, sender_unready}
use Rattle.l4_refines.proofs.Sends.Finding.{receiver_is, pending_is}
use Rattle.l4_refines.proofs.Sends.Refusing.{HasSend, IsSeen, IsReceiver}

-- A thread that is alive at home is alive in the world.

agrees_alive : {m : Machine} (world t : Thread) → is_alive t.phase ≡ true → Agrees m world t → is_alive world.phase ≡ true
agrees_alive world t alive a = by t.phase refl a.by_phase
  where
    by : (p : Phase) → t.phase ≡ p → AgreesIn p world t → is_alive world.phase ≡ true
    by Ready is a = ap (λ (t : Thread). is_alive t.phase) a ∙ alive
    by Sending is a = ap (λ (t : Thread). is_alive t.phase) a ∙ alive
    by (Receiving receive since) is a = ap (λ (t : Thread). is_alive t.phase) a.same
    by Ordering is a = ap (λ (t : Thread). is_alive t.phase) a ∙ alive
    by Ended is a = ap (λ (t : Thread). is_alive t.phase) a ∙ alive
    by Deleted is a = let dead : is_alive Deleted ≡ true = subst (λ p. is_alive p ≡ true) is alive in cc

goes_on_alive : (receive : Option Receive) (clock : ℕ) (t : Thread) → is_alive (goes_on receive clock t).phase ≡ true
goes_on_alive None clock t = refl
goes_on_alive (Some receive) clock t = refl

delivered_alive : (o : Option Send) (clock : ℕ) (t : Thread) → is_alive t.phase ≡ true → is_alive (was_delivered o clock t).phase ≡ true
delivered_alive None clock t alive = alive
delivered_alive (Some send) clock t alive =
    cond_both (λ (u : Thread). is_alive u.phase) true (is_alive t.phase) (goes_on send.receive clock t) (decided t) (goes_on_alive send.receive clock t) alive

ended_alive : (result : Result) (clock : ℕ) (t : Thread) → is_alive t.phase ≡ true → is_alive (after_decision result clock t).phase ≡ true
ended_alive Delivered clock t alive = delivered_alive t.send clock t alive
ended_alive (Refused TimedOut) clock t alive = rw alive refl
ended_alive (Refused Nobody) clock t alive = rw alive refl
ended_alive (Refused Cancelled) clock t alive = rw alive refl
ended_alive (Refused Dropped) clock t alive = rw alive refl

learns_alive : (c : Content) (clock : ℕ) (t : Thread) → is_alive t.phase ≡ true → is_alive (learns c clock t).phase ≡ true
learns_alive (SendLetter s receiver message zero_timeout) clock t alive = alive
learns_alive (DoneLetter s result) clock t alive = ended_alive result clock t alive
learns_alive (WithdrawLetter s receiver cause) clock t alive = alive
learns_alive (GoneLetter id) clock t alive = alive
learns_alive (OrderLetter caller target what) clock t alive = alive
learns_alive (OrderDoneLetter caller) clock t alive = rw alive refl
learns_alive (RetargetLetter o) clock t alive = alive

learned_alive : (ps : List Posted) (clock : ℕ) (t : Thread) → is_alive t.phase ≡ true → is_alive (learned ps clock t).phase ≡ true
learned_alive [] clock t alive = alive
learned_alive (p ∷ ps) clock t alive = learns_alive p.letter.content clock t alive

alive_known : (m : Machine) (r : ℕ) (v : View) → Known m r v → is_alive (at_home m r v).thread.phase ≡ true → is_alive v.world.phase ≡ true
alive_known m r v known alive =
    agrees_alive v.world (learned (locators v.mail) (at_home m r v).clock (at_home m r v).thread)
    (learned_alive (locators v.mail) (at_home m r v).clock (at_home m r v).thread alive) known.agrees

alive_seen : (m : Machine) (r : ℕ) (v : View) → IsSeen m r v → is_alive (at_home m r v).thread.phase ≡ true → is_alive v.world.phase ≡ true
alive_seen m r v (inl known) alive = alive_known m r v known alive
alive_seen m r v (inr agrees) alive = agrees_alive v.world (at_home m r v).thread alive agrees

-- A send that is in no list of a processor is in none of the world.

not_waiting : {P : ℕ → View → Type 0} (m : Machine) (i : ℕ) (except : List ℕ) (s : Scene) (w : World) → RelatesExcept m P except s w →
    ((cpu q : ℕ) → ((view m s w i).kept cpu).listed q ≡ []) → is_queued w.waiting i ≡ false
not_waiting m i except s w rel none =
    none_in (λ x. i == x) w.waiting
    (λ q lt. let within : q < length m.threads = omega (arith, rel.sized_world.lists) in
    ap (list_any (λ x. i == x)) (rel.lists q within) ∙ any_block i (senders m s q) ∙ none_kept (is_of i) (senders m s q) (none (home m q) q))

-- In hand, it is in no list of this processor either.
pub record IsInHand (m : Machine) (cpu i : ℕ) (s : Scene) (w : World) (x : Work) (send : Send) : Type 0 where
  pub has : HasSend m cpu i s w x send
  pub free : (q : ℕ) → (kept x.local i).listed q ≡ []

pub none_listed : (m : Machine) (cpu i : ℕ) (s : Scene) (w : World) (x : Work) (send : Send) → (h : IsInHand m cpu i s w x send) → (c q : ℕ) →
    ((view m (amid cpu s x) h.has.goes.now i).kept c).listed q ≡ []
none_listed m cpu i s w x send h c q = same_or_apart (((view m (amid cpu s x) h.has.goes.now i).kept c).listed q ≡ []) cpu c
    (λ e. subst (λ c. (kept (put cpu x.local s.locals c) i).listed q ≡ []) e
    (ap (λ l. (kept l i).listed q) (put_here cpu cpu x.local s.locals refl) ∙ h.free q))
    (λ ne. h.has.at.elsewhere c q ne)

-- Of its sender, all but the lists is as it was.
queued_view : (m : Machine) (cpu i r : ℕ) (e : plain.Waiting) (s : Scene) (w : World) (x : Work) →
    without_lists (view m (amid cpu s (x ▷ does (relists (plain.queued r e)))) (queued w r i) i) ≡ without_lists (view m (amid cpu s x) w i)
queued_view m cpu i r e s w x =
    let same = λ (c : ℕ). put_same (λ l. record (kept l i) { listed = λ q. [] }) cpu c x.local (relists (plain.queued r e) x.local) s.locals refl in
    λ d. record (view m (amid cpu s x) w i) { kept = λ c. same c d }

queued_matches : (m : Machine) (cpu i r : ℕ) (s : Scene) (w : World) (x : Work) (send : Send) → IsSendAt m cpu i send (view m (amid cpu s x) w i) →
    ((q : ℕ) → (kept x.local i).listed q ≡ []) → home m r ≡ cpu → destination_place m send.to ≡ Some r → r < length x.local.lists.waiting →
    Matches m i (view m (amid cpu s (x ▷ does (relists (plain.queued r (entry m r i send))))) (queued w r i) i)
queued_matches m cpu i r s w x send at free home_is to within =
    let e : plain.Waiting = entry m r i send in
    let l : Local = relists (plain.queued r e) x.local in
    let v : View = view m (amid cpu s x) w i in
    let after : View = view m (amid cpu s (x ▷ does (relists (plain.queued r e)))) (queued w r i) i in
    let same : without_lists after ≡ without_lists v = queued_view m cpu i r e s w x in
    let thread_same : (at_home m i after).thread ≡ (at_home m i v).thread = ap (λ (u : View). (u.kept (home m i)).thread) same in
    let ready_same : (at_home m i after).ready ≡ (at_home m i v).ready = ap (λ (u : View). (u.kept (home m i)).ready) same in
    let here : after.kept cpu ≡ kept l i = ap (λ l. kept l i) (put_here cpu cpu l s.locals refl) in
    let there : after.kept (home m r) ≡ kept l i = ap after.kept home_is ∙ here in
    let suits : Suits (at_home m i v).thread.phase (Some send) (at_home m i v).thread.order =
    subst (λ o. Suits (at_home m i v).thread.phase o (at_home m i v).thread.order) at.has at.kept.at_home.good.suits in
    let row : IsWaiting m i send (seats m i after) = record {
      order = ap (λ (t : Thread). t.order) thread_same ∙ at.order;
      r = r;
      to = to;
      listed = ap (λ (k : Kept). k.listed r) there ∙ queued_listed x.local r e within ∙ ap (λ es. es ++ e ∷ []) (free r);
      other_lists = λ q ne. ap (λ (k : Kept). k.listed q) there ∙ queued_other_list x.local r q e within ne ∙ free q;
      elsewhere = λ c q ne. let away : cpu ≡ c → ⊥ = λ h. ne (sym h ∙ sym home_is) in
          ap (λ (k : Kept). k.listed q) (put_other cpu c i x.local l s.locals away) ∙ at.elsewhere c q away;
      stand_in = λ split. let f = at.foreign (λ h. split (home_is ∙ sym h)) in
          let which : f.r ≡ r = some_is f.r r (sym f.to ∙ to) in
          let known : IsStandIn m r send (at_home m i v).thread.context.begun (v.kept cpu).thread.send (v.kept cpu).thread.context.begun =
          subst (λ q. IsStandIn m q send (at_home m i v).thread.context.begun (v.kept cpu).thread.send (v.kept cpu).thread.context.begun) which
          f.stand_in in
          let held : (after.kept (home m r)).thread ≡ (v.kept cpu).thread =
          ap (λ c. (after.kept c).thread) home_is ∙ ap (λ (u : View). (u.kept cpu).thread) same in
          record {
            has = ap (λ (t : Thread). t.send) held ∙ known.has;
            number = ap (λ (t : Thread). t.context.begun) held ∙ known.number ∙ sym (ap (λ (t : Thread). t.context.begun) thread_same);
          };
      no_other = λ c away ne. ap (λ (u : View). (u.kept c).thread.send) same ∙ at.no_other c away (λ h. ne (sym h ∙ sym home_is));
    } in
    record {
      known = record {
        agrees = subst (λ ps. Agrees m after.world (learned ps (at_home m i after).clock (at_home m i after).thread)) (sym at.quiet)
            (subst (Agrees m v.world) (sym thread_same) at.agrees);
        row = subst (λ ps. Row m i (seats m i after) ps (at_home m i after).thread.send) (sym at.quiet)
            (subst (Row m i (seats m i after) []) (sym (ap (λ (t : Thread). t.send) thread_same ∙ at.has)) row);
        kept = kept_with_lists m i after (subst (IsKept m i) (sym same) (kept_without_lists m i v at.kept));
      };
      ready = ready_same ∙ at.out ∙ sym (sender_unready i (at_home m i v).thread.phase send (at_home m i v).thread.order suits)
          ∙ ap (λ (t : Thread). readied t.phase i []) (sym thread_same);
    }

-- It may be queued where its receiver is alive.
pub queue_goes : (m : Machine) (cpu i r : ℕ) (s : Scene) (w : World) (x : Work) (send : Send) → (h : IsInHand m cpu i s w x send) →
    IsReceiver m cpu r s h.has.goes.now x send → must_wait h.has.goes.now.owed (declared m i).id send.to ≡ false → is_alive (thread x.local r).phase ≡ true →
    Goes m cpu s w [] (x ▷ tells (Queue (last_name m x.local i)) ▷ does (relists (plain.queued r (entry m r i send))))
queue_goes m cpu i r s w x send h q free alive =
    let now = h.has.goes.now in
    let at = h.has.at in
    let rel = h.has.goes.relates in
    let pending = pending_is m cpu i send (i ∷ []) s x now h.has.machine h.has.within rel at in
    let receiver = receiver_is m r send.to (i ∷ []) (amid cpu s x) now h.has.machine q.within rel q.to in
    let was = ap (λ (k : Kept). is_alive k.thread.phase) (home_is m cpu r s x now q.home) in
    let living = alive_seen m r (view m (amid cpu s x) now r) q.seen (was ∙ alive) in
    let none = not_waiting m i (i ∷ []) (amid cpu s x) now rel (none_listed m cpu i s w x send h) in
    let e : plain.Waiting = entry m r i send in
    let y : Work = x ▷ does (relists (plain.queued r e)) in
    let u : World = queued now r i in
    record {
      starts = h.has.goes.starts;
      now = u;
      reaches = one_more_told m w now u x.steps (Queue (last_name m x.local i)) h.has.goes.reaches (rw (pending, receiver, living, none, free) refl);
      relates = takes_in m i [] (amid cpu s y) u (queues m cpu r e (i ∷ []) s now x (sym q.home) h.has.processor q.within h.has.within (first_about i []) rel)
          (queued_matches m cpu i r s now x send at h.free q.home q.to
          (let z = sized_here m cpu r (i ∷ []) s now x (record { machine = h.has.machine; within = q.within; home = q.home }) rel in
          omega (arith, z.lists, q.within)));
    }
