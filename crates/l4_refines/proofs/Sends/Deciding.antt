-- A send is decided on the processor where it is: its sender goes on, at once or by a letter.
use Rattle.std.proofs.Common.{◌≡◌, ℕ, false, Option, Some, None, List, [], ◌∷◌, refl, ap, sym, ◌∙◌, subst, arith}
use Rattle.l4_model.specs.Machine.{Machine}
use Rattle.l4_model.specs.World.{Thread, World, Send, PendingOrder, Owed, Receive, Phase, Ready, Sending, Receiving, Ordering, Ended, Deleted, change, unqueued, is_alive}
use Rattle.l4_model.specs.Effects.{decided, goes_on}
use Rattle.l4_model.proofs.Chains.{cond_both, cond_keeps}
use Rattle.l4_model.specs.Reached.{Suits}
use Rattle.l4_core_model.specs.Plain as plain
use Rattle.l4_core_model.specs.Letters.{Result, Delivered, Refused, TimedOut, Nobody, Cancelled, Dropped}
use Rattle.l4_core_model.specs.Local.{thread, owed_beside, destination_place, relists, comes_to, readied, after_decision, was_delivered}
use Rattle.l4_core_model.specs.Acts.{Work, ◌▷◌, does}
use Rattle.l4_core_model.proofs.Fit.{IsGood}
use Rattle.l4_core_model.proofs.Good.{ended_refused_good, ended_delivered_good, ended_refused_none, ended_delivered_none}
use Rattle.l4_refines.proofs.Frames.Locals.{come}
use Rattle.l4_refines.proofs.Relation.Views.{Scene, Kept, View, kept, view, world_thread, home, amid, locators}
use Rattle.l4_refines.proofs.Relation.Rows.{seats, Agrees, IsUnplaced, IsStandIn, IsKept, Matches, OwesIn, HasJustReceived}
use Rattle.l4_refines.proofs.Relation.Agreement.{ended_agrees, ended_deleted}
use Rattle.l4_refines.proofs.Frames.Moves.{at_home, StaysTrue, IsFresh, of_none}
use Rattle.l4_refines.proofs.Frames.Places.{first_about, takes_in}
use Rattle.l4_refines.proofs.Frames.Lists.{unqueues, without_lists, view_unqueued}
use Rattle.l4_refines.proofs.Relation.Relates.{RelatesExcept}
use Rattle.l4_refines.proofs.Frames.Going.{IsHere, home_is, comes, quiet_matches}

-- On another processor than its home it stands in its sender's place.
pub record IsForeign (m : Machine) (cpu i : ℕ) (send : Send) (v : View) : Type 0 where
  pub r : ℕ
  pub to : destination_place m send.to ≡ Some r
  pub at : home m r ≡ cpu
  pub stand_in : IsStandIn m r send (at_home m i v).thread.context.begun (v.kept cpu).thread.send (v.kept cpu).thread.context.begun

-- The undecided send of a thread is on a processor: in hand, or in a list there.
pub record IsSendAt (m : Machine) (cpu i : ℕ) (send : Send) (v : View) : Type 0 where
  pub kept : IsKept m i v
  pub out : (at_home m i v).ready ≡ []
  pub has : (at_home m i v).thread.send ≡ Some send
  pub order : (at_home m i v).thread.order ≡ None
  pub quiet : locators v.mail ≡ []
  pub agrees : Agrees m v.world (at_home m i v).thread
  pub elsewhere : (c q : ℕ) → (cpu ≡ c → ⊥) → (v.kept c).listed q ≡ []
  pub foreign : (home m i ≡ cpu → ⊥) → IsForeign m cpu i send v
  pub no_other : (c : ℕ) → (c ≡ home m i → ⊥) → (cpu ≡ c → ⊥) → (v.kept c).thread.send ≡ None

-- A thread with an undecided send is in no ready list.
pub sender_unready : (i : ℕ) (p : Phase) (send : Send) (order : Option PendingOrder) → Suits p (Some send) order → readied p i [] ≡ []
sender_unready i Ready send order s = cc
sender_unready i Sending send order s = refl
sender_unready i (Receiving receive since) send order s = refl
sender_unready i Ordering send order s = refl
sender_unready i Ended send order s = refl
sender_unready i Deleted send order s = refl

-- What becomes of its thread

pub ended_good : (result : Result) (clock : ℕ) (t : Thread) (send : Send) → t.send ≡ Some send → IsGood clock t → IsGood clock (after_decision result clock t)
ended_good Delivered clock t send has g = ended_delivered_good clock t send has g
ended_good (Refused refusal) clock t send has g = ended_refused_good clock refusal t send has g

pub ended_none : (result : Result) (clock : ℕ) (t : Thread) (send : Send) → t.send ≡ Some send → t.order ≡ None →
    ((after_decision result clock t).send ≡ None) × ((after_decision result clock t).order ≡ None)
ended_none Delivered clock t send has done = ended_delivered_none clock t send has done
ended_none (Refused refusal) clock t send has done = ended_refused_none clock refusal t done

-- A receive phase that follows begins now.

abbrev pub IsFreshThread : ℕ → Thread → Type 0
IsFreshThread clock t = IsFresh clock t.phase t.send

gone_fresh : (clock : ℕ) (p : Phase) → is_alive p ≡ false → IsFresh clock p None
gone_fresh clock Ready h = tt
gone_fresh clock Sending h = tt
gone_fresh clock (Receiving receive since) h = cc
gone_fresh clock Ordering h = tt
gone_fresh clock Ended h = tt
gone_fresh clock Deleted h = tt

goes_on_fresh : (clock : ℕ) (receive : Option Receive) (t : Thread) → IsFreshThread clock (goes_on receive clock t)
goes_on_fresh clock None t = tt
goes_on_fresh clock (Some receive) t = refl

delivered_fresh : (clock : ℕ) (t : Thread) (o : Option Send) (send : Send) → o ≡ Some send → IsFreshThread clock (was_delivered o clock t)
delivered_fresh clock t None send has = cc
delivered_fresh clock t (Some s) send has =
    cond_keeps (IsFreshThread clock) (is_alive t.phase) (goes_on s.receive clock t) (decided t) (λ alive. goes_on_fresh clock s.receive t)
    (λ gone. gone_fresh clock t.phase gone)

pub ended_fresh : (result : Result) (clock : ℕ) (t : Thread) (send : Send) → t.send ≡ Some send → IsFreshThread clock (after_decision result clock t)
ended_fresh Delivered clock t send has = delivered_fresh clock t t.send send has
ended_fresh (Refused TimedOut) clock t send has =
    cond_keeps (IsFreshThread clock) (is_alive t.phase) _ (decided t) (λ alive. tt) (λ gone. gone_fresh clock t.phase gone)
ended_fresh (Refused Nobody) clock t send has =
    cond_keeps (IsFreshThread clock) (is_alive t.phase) _ (decided t) (λ alive. tt) (λ gone. gone_fresh clock t.phase gone)
ended_fresh (Refused Cancelled) clock t send has =
    cond_keeps (IsFreshThread clock) (is_alive t.phase) _ (decided t) (λ alive. tt) (λ gone. gone_fresh clock t.phase gone)
ended_fresh (Refused Dropped) clock t send has =
    cond_keeps (IsFreshThread clock) (is_alive t.phase) _ (decided t) (λ alive. tt) (λ gone. gone_fresh clock t.phase gone)

goes_on_begun : (receive : Option Receive) (clock : ℕ) (t : Thread) → (goes_on receive clock t).context.begun ≡ t.context.begun
goes_on_begun None clock t = refl
goes_on_begun (Some receive) clock t = refl

delivered_begun : (o : Option Send) (clock : ℕ) (t : Thread) → (was_delivered o clock t).context.begun ≡ t.context.begun
delivered_begun None clock t = refl
delivered_begun (Some send) clock t =
    cond_both (λ (u : Thread). u.context.begun) t.context.begun (is_alive t.phase) (goes_on send.receive clock t) (decided t)
    (goes_on_begun send.receive clock t) refl

pub ended_begun : (result : Result) (clock : ℕ) (t : Thread) → (after_decision result clock t).context.begun ≡ t.context.begun
ended_begun Delivered clock t = delivered_begun t.send clock t
ended_begun (Refused TimedOut) clock t = cond_both (λ (u : Thread). u.context.begun) t.context.begun (is_alive t.phase) _ (decided t) refl refl
ended_begun (Refused Nobody) clock t = cond_both (λ (u : Thread). u.context.begun) t.context.begun (is_alive t.phase) _ (decided t) refl refl
ended_begun (Refused Cancelled) clock t = cond_both (λ (u : Thread). u.context.begun) t.context.begun (is_alive t.phase) _ (decided t) refl refl
ended_begun (Refused Dropped) clock t = cond_both (λ (u : Thread). u.context.begun) t.context.begun (is_alive t.phase) _ (decided t) refl refl

pub ended_stays_true : (result : Result) (k : Kept) (i : ℕ) (send : Send) → k.thread.send ≡ Some send → k.thread.order ≡ None →
    StaysTrue k (come i (after_decision result k.clock) k)
ended_stays_true result k i send has order = record {
  deleted = λ gone. ap (λ (t : Thread). t.phase) (ended_deleted result k.clock k.thread send gone has) ∙ gone;
  begun = let same = ended_begun result k.clock k.thread in omega arith;
  causes = λ cause same old. of_none _ (after_decision result k.clock k.thread).send (ended_none result k.clock k.thread send has order).0;
}

-- A sender beside which a retarget is owed is deleted, and stays so.
pub ended_owes : (result : Result) (clock : ℕ) (t : Thread) (send : Send) (owed : Option Owed) → t.send ≡ Some send → Suits t.phase (Some send) t.order →
    OwesIn t.phase owed → OwesIn (after_decision result clock t).phase owed
ended_owes result clock t send None has suits owes = tt
ended_owes result clock t send (Some o) has suits owes = by t.phase refl suits owes
  where
    by : (p : Phase) → t.phase ≡ p → Suits p (Some send) t.order → HasJustReceived p → HasJustReceived (after_decision result clock t).phase
    by Ready is s h = cc
    by Sending is s h = absurd h
    by (Receiving receive since) is s h = absurd h
    by Ordering is s h = absurd h
    by Ended is s h = absurd h
    by Deleted is s h = let gone : (after_decision result clock t).phase ≡ Deleted = ap (λ (u : Thread). u.phase) (ended_deleted result clock t send is has) ∙ is in
        rw gone tt

-- What is kept of it says nothing of lists.

pub kept_without_lists : (m : Machine) (i : ℕ) (v : View) → IsKept m i v → IsKept m i (without_lists v)
kept_without_lists m i v h = record {
  at_home = h.at_home;
  elsewhere = h.elsewhere;
  notices = h.notices;
}

pub kept_with_lists : (m : Machine) (i : ℕ) (v : View) → IsKept m i (without_lists v) → IsKept m i v
kept_with_lists m i v h = record {
  at_home = h.at_home;
  elsewhere = h.elsewhere;
  notices = h.notices;
}

-- The sender is of this processor.

pub decided_here : (m : Machine) (cpu i : ℕ) (except : List ℕ) (s : Scene) (w : World) (x : Work) (result : Result) (send : Send) (g : Thread → Thread) →
    IsHere m cpu i →
    IsSendAt m cpu i send (view m (amid cpu s x) w i) → g (world_thread w i) ≡ after_decision result (at_home m i (view m (amid cpu s x) w i)).clock (world_thread w i) →
    RelatesExcept m (Matches m) (i ∷ except) (amid cpu s x) w →
    RelatesExcept m (Matches m) except (amid cpu s (x ▷ does (relists (plain.unqueued i)) ▷ does (comes_to i (after_decision result x.local.clock))))
    (change (unqueued w i) i g)
decided_here m cpu i except s w x result send g here at is relates =
    let v : View = view m (amid cpu s x) w i in
    let y : Work = x ▷ does (relists (plain.unqueued i)) in
    let u : World = unqueued w i in
    let f : Thread → Thread = after_decision result x.local.clock in
    let was : at_home m i v ≡ kept x.local i = home_is m cpu i s x w here.home in
    let clock = ap (λ (k : Kept). after_decision result k.clock v.world) was in
    let has : (thread x.local i).send ≡ Some send = sym (ap (λ (k : Kept). k.thread.send) was) ∙ at.has in
    let order : (thread x.local i).order ≡ None = sym (ap (λ (k : Kept). k.thread.order) was) ∙ at.order in
    let good : IsGood x.local.clock (thread x.local i) = subst (λ (k : Kept). IsGood k.clock k.thread) was at.kept.at_home.good in
    let agrees : Agrees m v.world (thread x.local i) = subst (λ (k : Kept). Agrees m v.world k.thread) was at.agrees in
    let none = ended_none result x.local.clock (thread x.local i) send has order in
    let suits : Suits (thread x.local i).phase (Some send) (thread x.local i).order =
    subst (λ o. Suits (thread x.local i).phase o (thread x.local i).order) has good.suits in
    let left = unqueues m cpu i (i ∷ except) s w x (first_about i except) at.elsewhere relates in
    let now : view m (amid cpu s y) u i ≡ without_lists v = view_unqueued m cpu i s w x at.elsewhere in
    let c = comes m cpu i except s u y f g here left in
    takes_in m i except (amid cpu s (y ▷ does (comes_to i f))) (change u i g) c.relates (quiet_matches m cpu i except s u y f g here c (record {
      kept = subst (IsKept m i) (sym now) (kept_without_lists m i v at.kept);
      quiet = at.quiet;
      unplaced = subst (λ u. IsUnplaced m i (seats m i u)) (sym now) (record {
        listed = λ p r. refl;
        stand_in = λ p ne. at.no_other p ne (λ h. ne (sym h ∙ sym here.home));
      });
      out = sym (ap (λ (k : Kept). k.ready) was) ∙ at.out;
      send = none.0;
      order = none.1;
      agrees = subst (λ t. Agrees m t (f (thread x.local i))) (sym (is ∙ clock))
          (ended_agrees result x.local.clock v.world (thread x.local i) send has suits agrees);
      good = ended_good result x.local.clock (thread x.local i) send has good;
      fresh = ended_fresh result x.local.clock (thread x.local i) send has;
      owes = ended_owes result x.local.clock (thread x.local i) send (owed_beside x.local i) has suits
          (subst (λ (k : Kept). OwesIn k.thread.phase k.owed) was at.kept.at_home.owes);
      stays_true = ended_stays_true result (kept y.local i) i send has order;
    }))
