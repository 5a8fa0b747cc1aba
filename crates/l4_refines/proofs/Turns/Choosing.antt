-- The core's turn: whatever duty, due timeout or ready thread comes first, what is told is possible.
use Rattle.l4_refines.proofs.Retargets.Doing.{duty_retargets_goes}
use Rattle.std.proofs.Common.{◌≡◌, ℕ, ◌<◌, Some, [], refl, ap, sym, ◌∙◌, subst, Bool, true, false, cond, Option, None, List, ◌∷◌, filter, drop, length}
use Rattle.std.specs.List.{AllByRecursion}
use Rattle.l4_model.specs.Machine.{Machine}
use Rattle.l4_model.specs.World.{World, Phase, Ready, Sending, Receiving, Ordering, Ended, Deleted, is_ready, Owed}
use Rattle.l4_core_model.specs.Plain as plain
use Rattle.l4_core_model.specs.Local.{Local, thread, held, declared, relists, readied, owed_beside}
use Rattle.l4_core_model.specs.Acts.{Work, delivers, first_of_list, first_acceptable, zero_refusable, ◌▷◌, does, acts}
use Rattle.l4_core_model.specs.Turns.{Duty, DropsOwn, RefusesFirst, TellsGone, CancelsOwn, CancelsReceive, DeliversFirst, ClosesReceive, RefusesZero, does_duty, duty_drops_own, duty_refuses_waiting, duty_tells_gone, duty_cancels_own, duty_cancels_receive, duty_delivers_first, duty_closes_receive, duty_refuses_zero, duty_of, first_some, Choice, ByDuty, ByDue, ByReady, does_choice, turn, opened, Retargets, duty_retargets}
use Rattle.l4_refines.proofs.Turns.Choices.{IsDuty, StandsIn, entry_of_all, IsChoice, turn_then, IsOwn}
use Rattle.l4_refines.proofs.Relation.Views.{Scene, Kept, amid, View, kept, view, home, put}
use Rattle.l4_refines.proofs.Frames.Moves.{deleted_phase, at_home}
use Rattle.l4_refines.proofs.Frames.Going.{Goes, IsHere, put_home, home_is, put_other, opened_goes, IsReached}
use Rattle.l4_refines.proofs.Sends.Waiting.{IsEntryHere, entries_here}
use Rattle.l4_refines.proofs.Sends.Delivering.{delivers_goes}
use Rattle.l4_refines.proofs.Turns.Failing.{cancel_goes, nobody_goes}
use Rattle.l4_refines.proofs.Turns.Ending.{IsListedSend, listed_send, refuses_first_goes, refuses_zero_goes, queued_here, cancels_goes, drops_goes}
use Rattle.l4_refines.proofs.Letters.Gone.{tells_gone_goes}
use Rattle.std.specs.Prelude.{◌==◌}
use Rattle.l4_model.specs.Rules.{Act, RunsAlone, Sends, Receives, Orders}
use Rattle.l4_model.specs.Steps.{runs_alone, receive_of, send_of}
use Rattle.l4_model.specs.Conditions.{Found, act_of}
use Rattle.l4_core_model.specs.Runs.{IsMachine}
use Rattle.l4_core_model.proofs.Changed.{same_nat}
use Rattle.l4_core_model.proofs.Lists.{all-drop}
use Rattle.l4_core_model.proofs.Apart.{same_or_apart}
use Rattle.l4_core_model.proofs.Choosing.{accepts_none}
use Rattle.l4_refines.proofs.Relation.Rows.{Known, Matches}
use Rattle.l4_refines.proofs.Turns.Timing.{due_goes, times_out_goes}
use Rattle.l4_refines.proofs.Relation.Relates.{IsSized, RelatesExcept}
use Rattle.l4_refines.proofs.Frames.Places.{leaves_out, Spares, local_changes}
use Rattle.l4_refines.proofs.Frames.Lists.{put_here}
use Rattle.l4_refines.proofs.Frames.Locals.{popped_other}
use Rattle.l4_refines.proofs.Turns.Instructions.{IsPicked, runs_alone_goes, waits_goes}
use Rattle.l4_refines.proofs.Sends.Beginning.{begins_send_goes}
use Rattle.l4_core_model.proofs.Standing.{act_sends}
use Rattle.l4_refines.proofs.Orders.Giving.{gives_goes}

-- A duty

accepted_goes : (m : Machine) (cpu r i : ℕ) (s : Scene) (w : World) (x : Work) → IsHere m cpu r → cpu < m.cpus → Goes m cpu s w [] x →
    first_acceptable x.local r ≡ Some i → Goes m cpu s w [] (delivers m cpu r i x)
accepted_goes m cpu r i s w x here processor e h = by (thread x.local r).phase refl h
  where
    by : (p : Phase) → (thread x.local r).phase ≡ p → first_of_list x.local.lists r p ≡ Some i → Goes m cpu s w [] (delivers m cpu r i x)
    by (Receiving receive since) is h = delivers_goes m cpu r i s w x receive since here processor e is h
    by Ready is h = cc
    by Sending is h = cc
    by Ordering is h = cc
    by Ended is h = cc
    by Deleted is h = cc

-- An entry of the list of a thread of this processor is a send that waits there.
listed_at : (m : Machine) (cpu r i : ℕ) (s : Scene) (w : World) (x : Work) (f : plain.Waiting) → IsHere m cpu r → cpu < m.cpus → (e : Goes m cpu s w [] x) →
    StandsIn f (plain.list_of x.local.lists r) → f.block ≡ i → IsListedSend m cpu r i s w x
listed_at m cpu r i s w x f here processor e at same =
    let list = ap (λ (l : Local). plain.list_of l.lists r) (put_home m cpu r s x.local here.home) in
    let all = subst (AllByRecursion (IsEntryHere m (amid cpu s x) e.now r)) list (entries_here m (amid cpu s x) e.now r here.machine here.within e.relates) in
    let is = entry_of_all (IsEntryHere m (amid cpu s x) e.now r) f (plain.list_of x.local.lists r) at all in
    subst (λ i. IsListedSend m cpu r i s w x) same (listed_send m cpu r f.block s w x f here processor e is.0 is.1)

-- Whatever duty is done, its step is possible.
duty_goes : (m : Machine) (cpu i : ℕ) (s : Scene) (w : World) (x : Work) (duty : Duty) → IsHere m cpu i → cpu < m.cpus → Goes m cpu s w [] x →
    IsDuty m cpu x.local i duty → Goes m cpu s w [] (does_duty m cpu i duty x)
duty_goes m cpu i s w x (Retargets o) here processor e d = duty_retargets_goes m cpu i o s w x here processor e d
duty_goes m cpu i s w x DropsOwn here processor e d =
    let q = queued_here m cpu i s w x processor e here.machine here.within d.1 in
    let was = home_is m cpu i s x q.1.has.goes.now here.home in
    drops_goes m cpu q.0 i s w x q.1 (ap (λ (k : Kept). k.thread.phase) was ∙ deleted_phase (thread x.local i).phase d.0)
duty_goes m cpu i s w x (RefusesFirst sender) here processor e d =
    refuses_first_goes m cpu i sender s w x (listed_at m cpu i sender s w x d.1.0 here processor e d.1.1.0 d.1.1.1) d.0
duty_goes m cpu i s w x (TellsGone to) here processor e d = tells_gone_goes m cpu to i s w x here processor e d.0 d.1
duty_goes m cpu i s w x CancelsOwn here processor e d =
    let q = queued_here m cpu i s w x processor e here.machine here.within d.0 in
    let was = home_is m cpu i s x q.1.has.goes.now here.home in
    cancels_goes m cpu q.0 i s w x q.1 (ap (λ (k : Kept). k.thread.cancel_send) was ∙ d.1)
duty_goes m cpu i s w x CancelsReceive here processor e d =
    cancel_goes m cpu i s w x d.0 d.1.0.since (record { here = here; processor = processor; goes = e; receiving = d.1.0.is }) d.1.1
duty_goes m cpu i s w x (DeliversFirst sender) here processor e d = accepted_goes m cpu i sender s w x here processor e d
duty_goes m cpu i s w x ClosesReceive here processor e d =
    nobody_goes m cpu i s w x d.0 d.1.0.since (record { here = here; processor = processor; goes = e; receiving = d.1.0.is }) d.1.1.0 d.1.1.1
duty_goes m cpu i s w x (RefusesZero sender) here processor e d =
    refuses_zero_goes m cpu i sender s w x (listed_at m cpu i sender s w x d.0 here processor e d.1.0 d.1.1.0)
    (ap (λ j. zero_refusable m (held m x.local i) (thread x.local j).send) (sym d.1.1.0) ∙ d.1.1.1)

-- An instruction
acts_goes : (m : Machine) (cpu i : ℕ) (s : Scene) (w : World) (x : Work) → cpu < m.cpus → (e : Goes m cpu s w (i ∷ []) x) → IsPicked m cpu i s x e.now →
    Goes m cpu s w [] (acts m cpu i (act_of m (held m x.local i)) x)
acts_goes m cpu i s w x processor e r = by (act_of m (held m x.local i)) refl
  where
    by : (a : Act) → act_of m (held m x.local i) ≡ a → Goes m cpu s w [] (acts m cpu i a x)
    by RunsAlone is = runs_alone_goes m cpu i s w x e r (ap runs_alone is)
    by (Sends send) is = let now = act_sends m (declared m i).id x.local.clock (thread x.local i).context _ send is in
        begins_send_goes m cpu i s w x send processor e r (ap send_of is) now.since now.not_nil
    by (Receives receive) is = waits_goes m cpu i s w x receive e r (ap receive_of is)
    by (Orders order) is = gives_goes m cpu i s w x e r order is

-- The first ready thread

first_kept : (i : ℕ) (is : List ℕ) → filter (λ k. i == k) (i ∷ is) ≡ i ∷ filter (λ k. i == k) is
first_kept i is = let same = same_nat i in rw same refl

none_ready : {P : Type 0} (i : ℕ) (is : List ℕ) → [] ≡ i ∷ is → P
none_ready i is h = cc

-- a thread that has an entry among the ready ones is ready, and has no other
ready_entry : (i : ℕ) (p : Phase) (is : List ℕ) → readied p i [] ≡ i ∷ is → (is_ready p ≡ true) × (is ≡ [])
ready_entry i Ready is h = (refl, cc)
ready_entry i Sending is h = none_ready i is h
ready_entry i (Receiving receive since) is h = none_ready i is h
ready_entry i Ordering is h = none_ready i is h
ready_entry i Ended is h = none_ready i is h
ready_entry i Deleted is h = none_ready i is h

popped_spares : (m : Machine) (l : Local) (i : ℕ) (is : List ℕ) → l.lists.ready ≡ i ∷ is → Spares m (i ∷ []) l (relists plain.popped l)
popped_spares m l i is at = record {
  sized = λ z. record {
    threads = z.threads;
    lists = z.lists;
    told = z.told;
    ready = all-drop (λ j. j < length m.threads) l.lists.ready z.ready;
    armed = z.armed;
    listed = z.listed;
  };
  clock = refl;
  owed = refl;
  kept = λ j out. popped_other l i j is at (λ e. out.0 (sym e));
}

-- Nothing else is said of who is ready.
abbrev with_ready : (ℕ → List ℕ) → View → View
with_ready ready v = record v { kept = λ cpu. record (v.kept cpu) { ready = ready cpu } }

known_with_ready : (m : Machine) (i : ℕ) (ready : ℕ → List ℕ) (v : View) → ((cpu : ℕ) → (cpu ≡ home m i → ⊥) → ready cpu ≡ []) → Known m i v →
    Known m i (with_ready ready v)
known_with_ready m i ready v none h = record {
  agrees = h.agrees;
  row = h.row;
  kept = record {
    at_home = h.kept.at_home;
    elsewhere = λ c ne. let e = h.kept.elsewhere c ne in record { ready = none c ne; armed = e.armed; gone = e.gone };
    notices = h.kept.notices;
  };
}

-- The first ready thread was taken out of the ready ones, and all others are related.
pub record IsFirstReady (m : Machine) (cpu i : ℕ) (s : Scene) (w : World) (x : Work) : Type 0 where
  pub goes : Goes m cpu s w (i ∷ []) x
  pub picked : IsPicked m cpu i s x goes.now

-- The first ready thread is taken out.
pub ready_goes : (m : Machine) (cpu : ℕ) (s : Scene) (w : World) (x : Work) (i : ℕ) (is : List ℕ) → IsMachine m → cpu < m.cpus → Goes m cpu s w [] x →
    x.local.lists.ready ≡ i ∷ is → (IsOwn m cpu i → owed_beside x.local i ≡ None) → IsFirstReady m cpu i s w (x ▷ does (relists plain.popped))
ready_goes m cpu s w x i is machine processor e at nothing =
    let y : Work = x ▷ does (relists plain.popped) in
    let v : View = view m (amid cpu s x) e.now i in
    let sized = subst (IsSized m) (put_here cpu cpu x.local s.locals refl) (e.relates.sized cpu processor) in
    let lt : i < length m.threads = (subst (AllByRecursion (λ j. j < length m.threads)) at sized.ready).0 in
    let h = e.relates.places i lt tt in
    let old : v.kept cpu ≡ kept x.local i = ap (λ l. kept l i) (put_here cpu cpu x.local s.locals refl) in
    let entries : (v.kept cpu).ready ≡ i ∷ filter (λ k. i == k) is = ap (λ (k : Kept). k.ready) old ∙ ap (filter (λ k. i == k)) at ∙ first_kept i is in
    let home_is_cpu : home m i ≡ cpu =
    same_or_apart (home m i ≡ cpu) cpu (home m i) (λ same. sym same)
    (λ ne. none_ready i (filter (λ k. i == k) is) (sym (h.known.kept.elsewhere cpu ne).ready ∙ entries)) in
    let was : at_home m i v ≡ kept x.local i = home_is m cpu i s x e.now home_is_cpu in
    let mine : readied (thread x.local i).phase i [] ≡ i ∷ filter (λ k. i == k) is =
    sym (ap (λ (k : Kept). readied k.thread.phase i []) was) ∙ sym h.ready ∙ ap (λ c. (v.kept c).ready) home_is_cpu ∙ entries in
    let r = ready_entry i (thread x.local i).phase (filter (λ k. i == k) is) mine in
    record {
      goes = record {
        starts = e.starts;
        now = e.now;
        reaches = e.reaches;
        relates = local_changes m cpu (i ∷ []) s e.now x (relists plain.popped) (popped_spares m x.local i is at) refl
            (leaves_out m i [] (amid cpu s x) e.now e.relates);
      };
      picked = record {
        here = record { machine = machine; within = lt; home = home_is_cpu };
        known = subst (Known m i) (sym seen)
            (known_with_ready m i (λ c. (kept (put cpu y.local s.locals c) i).ready) v
            (λ c ne. ap (λ (k : Kept). k.ready) (put_other cpu c i x.local y.local s.locals (λ same. ne (sym same ∙ sym home_is_cpu)))
            ∙ (h.known.kept.elsewhere c ne).ready) h.known);
        out = ap (λ xs. filter (λ k. i == k) (drop 1 xs)) at ∙ r.1;
        ready = r.0;
        nothing_owed = nothing (record { within = lt; home = home_is_cpu });
      };
    }
  where
    seen_at : (c : ℕ) (b : Bool) →
        kept (cond b (relists plain.popped x.local) (s.locals c)) i ≡ record
        (kept (cond b x.local (s.locals c)) i) { ready = (kept (cond b (relists plain.popped x.local) (s.locals c)) i).ready }
    seen_at c true = refl
    seen_at c false = refl

    seen : view m (amid cpu s (x ▷ does (relists plain.popped))) e.now i ≡ with_ready (λ c. (kept (put cpu (relists plain.popped x.local) s.locals c) i).ready)
        (view m (amid cpu s x) e.now i)
    seen = λ d. record (view m (amid cpu s x) e.now i) { kept = λ c. seen_at c (cpu == c) d }

-- The choice

due_first : (m : Machine) (cpu : ℕ) (l : Local) (t : Found) → duty_of m cpu l t ≡ None → duty_delivers_first l t ≡ None
due_first m cpu l t h = by (duty_retargets l t) (duty_drops_own l t) (duty_refuses_waiting l t) (duty_tells_gone m cpu l t) (duty_cancels_own l t) (duty_cancels_receive t)
    (duty_delivers_first l t) (duty_closes_receive m l t ∷ duty_refuses_zero m l t ∷ []) h
  where
    by : (o a b c d e f : Option Duty) (rest : List (Option Duty)) → first_some (o ∷ a ∷ b ∷ c ∷ d ∷ e ∷ f ∷ rest) ≡ None → f ≡ None
    by None None None None None None None rest h = refl
    by None None None None None None (Some y) rest h = cc
    by None None None None None (Some y) f rest h = cc
    by None None None None (Some y) e f rest h = cc
    by None None None (Some y) d e f rest h = cc
    by None None (Some y) c d e f rest h = cc
    by None (Some y) b c d e f rest h = cc
    by (Some y) a b c d e f rest h = cc

-- Without a duty nothing is owed beside it.
pub nothing_beside : (m : Machine) (cpu : ℕ) (l : Local) (i : ℕ) → duty_of m cpu l (held m l i) ≡ None → owed_beside l i ≡ None
nothing_beside m cpu l i none = by (owed_beside l i) refl
  where
    by : (o : Option Owed) → owed_beside l i ≡ o → o ≡ None
    by None is = refl
    by (Some o) is = let some : duty_of m cpu l (held m l i) ≡ Some (Retargets o) = rw is refl in cc

choice_goes : (m : Machine) (cpu : ℕ) (s : Scene) (w : World) (l : Local) (c : Choice) → IsMachine m → cpu < m.cpus → Goes m cpu s w [] (opened 0 l) →
    IsChoice m cpu l c → Goes m cpu s w [] (does_choice m cpu c (opened 0 l))
choice_goes m cpu s w l (ByDuty i duty) machine processor e c =
    duty_goes m cpu i s w (opened 0 l) duty (record { machine = machine; within = c.0.within; home = c.0.home }) processor e c.1
choice_goes m cpu s w l (ByDue i) machine processor e c =
    let due = due_goes m cpu s w (opened 0 l) (c.0, i) c.1.0 machine processor e c.1.1.0 in
    let none = due_first m cpu l (held m l i) (c.1.1.1.1 i (record { within = due.here.within; home = due.here.home })) in
    times_out_goes m cpu c.0 i s w (opened 0 l ▷ does (relists plain.popped_due)) processor due c.1.1.1.0 (accepts_none (first_acceptable l i) none)
choice_goes m cpu s w l (ByReady i) machine processor e c =
    let r = ready_goes m cpu s w (opened 0 l) i c.0 machine processor e c.1.0 (λ here. nothing_beside m cpu l i (c.1.1 i here)) in
    acts_goes m cpu i s w (opened 0 l ▷ does (relists plain.popped)) processor r.goes r.picked

-- Whatever a turn does, its steps are possible.
pub turn_goes : (m : Machine) (cpu : ℕ) (s : Scene) (w : World) (x : Work) → IsMachine m → cpu < m.cpus → IsReached m w → RelatesExcept m (Matches m) [] s w →
    turn m cpu (s.locals cpu) ≡ Some x → Goes m cpu s w [] x
turn_goes m cpu s w x machine processor starts rel h =
    turn_then m cpu (s.locals cpu) x (Goes m cpu s w []) h λ c is. choice_goes m cpu s w (s.locals cpu) c machine processor (opened_goes m cpu 0 [] s w starts rel) is
