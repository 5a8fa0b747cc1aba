-- A receive phase fails: it is cancelled, its time is over, or nobody is there.
use Rattle.std.proofs.Common.{◌≡◌, ℕ, ◌<◌, ◌≤◌, true, false, Option, Some, None, [], length, refl, ap, sym, ◌∙◌, subst, arith}
use Rattle.std.proofs.lemmas.Bool.Decides.{nat_tests}
use Rattle.l4_model.specs.Words.{GlobalId, Id, NilThread, AnyThread, AnyLocalThread, LocalThread, GlobalThread, Period}
use Rattle.l4_model.specs.Machine.{Machine, place_of}
use Rattle.l4_model.specs.World.{Thread, World, Receive, Ready, Receiving, Deleted, change, is_deleted}
use Rattle.l4_model.specs.Rules.{Failure, TimeOver, NobodyThere, CancelAsked, receive_code, failed}
use Rattle.l4_model.specs.Conditions.{found_by, first_accepted, is_nobody, has_passed}
use Rattle.l4_model.specs.Steps.{OfThread, Fails, next}
use Rattle.l4_model.specs.Effects.{fails}
use Rattle.l4_core_model.specs.Plain as plain
use Rattle.l4_core_model.specs.Local.{Local, declared, thread, held_by}
use Rattle.l4_core_model.specs.Acts.{Work, fails_for, first_of_list, first_acceptable}
use Rattle.l4_core_model.specs.Runs.{IsMachine}
use Rattle.l4_core_model.proofs.Good.{fails_receiving}
use Rattle.l4_core_model.proofs.Standing.{place_within}
use Rattle.l4_core_model.proofs.Apart.{same_or_apart}
use Rattle.l4_refines.proofs.Relation.Views.{Scene, Kept, View, kept, view, world_thread, home, put, amid}
use Rattle.l4_refines.proofs.Relation.Rows.{IsEarlier, Matches}
use Rattle.l4_refines.proofs.Relation.Agreement.{fails_agrees}
use Rattle.l4_refines.proofs.Relation.Relates.{RelatesExcept, senders}
use Rattle.l4_refines.proofs.Frames.Places.{leaves_out}
use Rattle.l4_refines.proofs.Frames.Lists.{put_here}
use Rattle.l4_refines.proofs.Frames.Moves.{at_home, deleted_phase}
use Rattle.l4_refines.proofs.Frames.Going.{Goes, IsHere, put_home, comes_quiet}
use Rattle.l4_refines.proofs.Sends.Waiting.{first_accepted_is}
use Rattle.l4_refines.proofs.Sends.Finding.{place_found, found_is, found_at_is}
use Rattle.l4_refines.proofs.Sends.Refusing.{deleted_known}
use Rattle.l4_refines.proofs.Sends.Delivering.{receiving_at, receiving_quiet}

-- What is known of a thread of this processor whose receive phase fails
pub record IsReceivingHere (m : Machine) (cpu i : ℕ) (s : Scene) (w : World) (x : Work) (receive : Receive) (since : ℕ) : Type 0 where
  pub here : IsHere m cpu i
  pub processor : cpu < m.cpus
  pub goes : Goes m cpu s w [] x
  pub receiving : (thread x.local i).phase ≡ Receiving receive since

fails_goes : (m : Machine) (cpu i : ℕ) (s : Scene) (w : World) (x : Work) (receive : Receive) (since : ℕ) (why : Failure) →
    (h : IsReceivingHere m cpu i s w x receive since) →
    next m h.goes.now (OfThread (Fails why) (declared m i).id) ≡ Some (change h.goes.now i (fails (receive_code why))) →
    Goes m cpu s w [] (fails_for m why i x)
fails_goes m cpu i s w x receive since why h possible =
    let code : ℕ = receive_code why in
    let e = h.goes in
    let t : Thread = thread x.local i in
    let a = receiving_at m cpu i s e.now x receive since h.here (e.relates.places i h.here.within tt) h.receiving in
    let is = h.receiving in
    let failed_is : fails code t ≡ record t { context = failed code t.context; phase = Ready; cancel_receive = false } = rw is refl in
    comes_quiet m cpu i s w x (OfThread (Fails why) (declared m i).id) (fails code) (fails code) h.here (record {
      starts = e.starts;
      now = e.now;
      reaches = e.reaches;
      relates = leaves_out m i [] (amid cpu s x) e.now e.relates;
    })
    (receiving_quiet m cpu i s e.now x receive since (fails code) a is (ap (λ (u : Thread). u.send) failed_is) (ap (λ (u : Thread). u.order) failed_is)
    (ap (λ (u : Thread). u.context.begun) failed_is) (ap (λ (u : Thread). u.phase) failed_is)
    (fails_receiving x.local.clock code t receive since is a.good) (fails_agrees code receive since (world_thread e.now i) t is a.agrees)) possible

-- In the world it waits as well.
waits_in_world : (m : Machine) (cpu i : ℕ) (s : Scene) (w : World) (x : Work) (receive : Receive) (since : ℕ) →
    (h : IsReceivingHere m cpu i s w x receive since) → IsEarlier receive since (world_thread h.goes.now i) (thread x.local i)
waits_in_world m cpu i s w x receive since h =
    (receiving_at m cpu i s h.goes.now x receive since h.here (h.goes.relates.places i h.here.within tt) h.receiving).earlier

-- No waiting send is accepted there where none is here.
none_accepted : (m : Machine) (cpu i : ℕ) (s : Scene) (w : World) (x : Work) (receive : Receive) (since : ℕ) →
    (h : IsReceivingHere m cpu i s w x receive since) → first_acceptable x.local i ≡ None →
    first_accepted m h.goes.now (place_found m (amid cpu s x) h.goes.now i) receive.from ≡ None
none_accepted m cpu i s w x receive since h none =
    let list : senders m (amid cpu s x) i ≡ plain.list_of x.local.lists i =
    ap (λ (l : Local). plain.list_of l.lists i) (put_home m cpu i s x.local h.here.home) in
    let is = h.receiving in
    let here : plain.first_taken receive.from (plain.list_of x.local.lists i) ≡ None = sym (ap (first_of_list x.local.lists i) is) ∙ none in
    first_accepted_is m (amid cpu s x) h.goes.now i receive.from
    (place_found m (amid cpu s x) h.goes.now i) h.here.machine h.here.within refl refl h.goes.relates ∙ ap (plain.first_taken receive.from) list ∙ here

-- Cancelled
pub cancel_goes : (m : Machine) (cpu i : ℕ) (s : Scene) (w : World) (x : Work) (receive : Receive) (since : ℕ) → IsReceivingHere m cpu i s w x receive since →
    (thread x.local i).cancel_receive ≡ true → Goes m cpu s w [] (fails_for m CancelAsked i x)
cancel_goes m cpu i s w x receive since h wish =
    let found_now = found_is m i [] (amid cpu s x) h.goes.now h.here.machine h.here.within h.goes.relates in
    let earlier = waits_in_world m cpu i s w x receive since h in
    let phase : (world_thread h.goes.now i).phase ≡ Receiving receive earlier.began = ap (λ (t : Thread). t.phase) earlier.same in
    let wished : (world_thread h.goes.now i).cancel_receive ≡ true = ap (λ (t : Thread). t.cancel_receive) earlier.same ∙ wish in
    fails_goes m cpu i s w x receive since CancelAsked h (rw (found_now, phase, wished) refl)

-- Its time is over

passed_earlier : (period : Period) (began since now : ℕ) → began ≤ since → has_passed period since now ≡ true → has_passed period began now ≡ true
passed_earlier None began since now le h = cc
passed_earlier (Some n) began since now le h = grind (arith, nat_tests)

-- A receive phase times out.
pub receive_timeout_goes : (m : Machine) (cpu i : ℕ) (s : Scene) (w : World) (x : Work) (receive : Receive) (since : ℕ) →
    IsReceivingHere m cpu i s w x receive since → has_passed receive.period since x.local.clock ≡ true → first_acceptable x.local i ≡ None →
    Goes m cpu s w [] (fails_for m TimeOver i x)
receive_timeout_goes m cpu i s w x receive since h passed none =
    let found_now = found_is m i [] (amid cpu s x) h.goes.now h.here.machine h.here.within h.goes.relates in
    let earlier = waits_in_world m cpu i s w x receive since h in
    let phase : (world_thread h.goes.now i).phase ≡ Receiving receive earlier.began = ap (λ (t : Thread). t.phase) earlier.same in
    let clock : (put cpu x.local s.locals (home m i)).clock ≡ x.local.clock = ap (λ (l : Local). l.clock) (put_home m cpu i s x.local h.here.home) in
    let over : has_passed receive.period earlier.began (put cpu x.local s.locals (home m i)).clock ≡ true =
    subst (λ k. has_passed receive.period earlier.began k ≡ true) (sym clock)
    (passed_earlier receive.period earlier.began since x.local.clock earlier.no_later passed) in
    let nobody_accepted = none_accepted m cpu i s w x receive since h none in
    fails_goes m cpu i s w x receive since TimeOver h (rw (found_now, phase, over, nobody_accepted) refl)

-- Nobody is there

-- Who is known to be deleted here is deleted in the world.
gone_in_world : (m : Machine) (cpu j : ℕ) (s : Scene) (w : World) (x : Work) → j < length m.threads → RelatesExcept m (Matches m) [] (amid cpu s x) w →
    is_deleted (thread x.local j).phase ≡ true → (world_thread w j).phase ≡ Deleted
gone_in_world m cpu j s w x lt rel gone =
    let v : View = view m (amid cpu s x) w j in
    let matches = rel.places j lt tt in
    let here : v.kept cpu ≡ kept x.local j = ap (λ l. kept l j) (put_here cpu cpu x.local s.locals refl) in
    let known_here : is_deleted (v.kept cpu).thread.phase ≡ true = ap (λ (k : Kept). is_deleted k.thread.phase) here ∙ gone in
    let at_home_gone : is_deleted (at_home m j v).thread.phase ≡ true = same_or_apart (is_deleted (at_home m j v).thread.phase ≡ true) cpu (home m j)
    (λ same. subst (λ c. is_deleted (v.kept c).thread.phase ≡ true) same known_here)
    (λ ne. (matches.known.kept.elsewhere cpu ne).gone known_here) in
    deleted_known m j v matches.known (deleted_phase (at_home m j v).thread.phase at_home_gone)

nobody_in_world : (m : Machine) (cpu : ℕ) (s : Scene) (w : World) (x : Work) (from : Id) → IsMachine m → RelatesExcept m (Matches m) [] (amid cpu s x) w →
    is_nobody from (held_by m x.local from) ≡ true → is_nobody from (found_by m w from) ≡ true
nobody_in_world m cpu s w x NilThread machine rel h = h
nobody_in_world m cpu s w x AnyThread machine rel h = h
nobody_in_world m cpu s w x AnyLocalThread machine rel h = h
nobody_in_world m cpu s w x (LocalThread word) machine rel h = refl
nobody_in_world m cpu s w x (GlobalThread t) machine rel h = by (place_of m t) refl
  where
    by : (o : Option ℕ) → place_of m t ≡ o → is_nobody (GlobalThread t) (found_by m w (GlobalThread t)) ≡ true
    by None at = rw at refl
    by (Some j) at =
        let lt = place_within m t j at in
        let gone = gone_in_world m cpu j s w x lt rel (rw at at h) in
        let found_now = found_at_is m j [] (amid cpu s x) w machine lt rel in
        rw (at, found_now, gone) refl

-- A receive phase is closed for nobody.
pub nobody_goes : (m : Machine) (cpu i : ℕ) (s : Scene) (w : World) (x : Work) (receive : Receive) (since : ℕ) → IsReceivingHere m cpu i s w x receive since →
    is_nobody receive.from (held_by m x.local receive.from) ≡ true → first_acceptable x.local i ≡ None →
    Goes m cpu s w [] (fails_for m NobodyThere i x)
nobody_goes m cpu i s w x receive since h nobody none =
    let found_now = found_is m i [] (amid cpu s x) h.goes.now h.here.machine h.here.within h.goes.relates in
    let earlier = waits_in_world m cpu i s w x receive since h in
    let phase : (world_thread h.goes.now i).phase ≡ Receiving receive earlier.began = ap (λ (t : Thread). t.phase) earlier.same in
    let nobody_now = nobody_in_world m cpu s h.goes.now x receive.from h.here.machine h.goes.relates nobody in
    let nobody_accepted = none_accepted m cpu i s w x receive since h none in
    fails_goes m cpu i s w x receive since NobodyThere h (rw (found_now, phase, nobody_now, nobody_accepted) refl)
