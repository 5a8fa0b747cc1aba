-- The caller of an order goes on once it is done, which its home hears by a letter where the target is of another processor.
use Rattle.std.proofs.Common.{◌≡◌, ℕ, false, Option, Some, None, [], ◌∷◌, refl, ap, sym, ◌∙◌, subst, arith}
use Rattle.std.specs.Prelude.{◌||◌}
use Rattle.l4_model.specs.Words.{GlobalId}
use Rattle.l4_model.specs.Machine.{Machine, place_of}
use Rattle.l4_model.specs.World.{Thread, World, Send, PendingOrder, Phase, Ready, Sending, Receiving, Ordering, Ended, Deleted, change, is_alive, is_deleted, Owed}
use Rattle.l4_model.specs.Effects.{obeyed}
use Rattle.l4_model.proofs.Chains.{bind_then, guard_then, some_is, cond_both, cond_keeps}
use Rattle.l4_model.specs.Reached.{Suits}
use Rattle.l4_core_model.specs.Letters.{OrderDoneLetter, Letter}
use Rattle.l4_core_model.specs.Local.{thread, comes_to, readied, owed_beside}
use Rattle.l4_core_model.specs.Acts.{Work, ◌▷◌, does}
use Rattle.l4_core_model.specs.Mail.{own_place, is_ordering, handled}
use Rattle.l4_core_model.specs.Runs.{Posted}
use Rattle.l4_core_model.proofs.Standing.{place_within}
use Rattle.l4_core_model.proofs.Fit.{IsGood}
use Rattle.l4_core_model.proofs.Good.{obeyed_good}
use Rattle.l4_refines.proofs.Relation.Views.{Scene, Kept, View, kept, view, home, amid, subject, is_locator, locators}
use Rattle.l4_refines.proofs.Relation.Rows.{seats, Agrees, learns, RowOf, IsObeyed, Matches, IsUnplaced, IsKept, OwesIn, HasJustReceived}
use Rattle.l4_refines.proofs.Relation.Relates.{RelatesExcept}
use Rattle.l4_refines.proofs.Frames.Places.{takes_in}
use Rattle.l4_refines.proofs.Frames.Moves.{at_home, IsFresh, of_none}
use Rattle.l4_refines.proofs.Frames.Going.{Goes, IsHere, IsQuiet, home_is, comes, quiet_matches}
use Rattle.l4_refines.proofs.Sends.Coming.{IsTakenOut, taken_kept, taken_row, taken_agrees, unchanged}
use Rattle.l4_refines.proofs.Letters.Receiving.{without, IsLetter, at_work, own_place_is, taken_out, taken_relates}
use Rattle.l4_refines.proofs.Orders.Ordered.{obeyed_agrees}

-- What becomes of the caller

obeyed_send : (t : Thread) → (obeyed t).send ≡ t.send
obeyed_send t = cond_both (λ (u : Thread). u.send) t.send (is_alive t.phase) _ _ refl refl

obeyed_order : (t : Thread) → (obeyed t).order ≡ None
obeyed_order t = cond_both (λ (u : Thread). u.order) None (is_alive t.phase) _ _ refl refl

obeyed_begun : (t : Thread) → (obeyed t).context.begun ≡ t.context.begun
obeyed_begun t = cond_both (λ (u : Thread). u.context.begun) t.context.begun (is_alive t.phase) _ _ refl refl

pub obeyed_deleted : (t : Thread) → t.phase ≡ Deleted → (obeyed t).phase ≡ Deleted
obeyed_deleted t gone = rw gone refl

caller_fresh : (clock : ℕ) (p : Phase) (send : Option Send) → is_alive p ≡ false → IsFresh clock p send
caller_fresh clock Ready send h = tt
caller_fresh clock Sending send h = cc
caller_fresh clock (Receiving receive since) send h = cc
caller_fresh clock Ordering send h = tt
caller_fresh clock Ended send h = tt
caller_fresh clock Deleted send h = tt

obeyed_fresh : (clock : ℕ) (t : Thread) → IsFresh clock (obeyed t).phase (obeyed t).send
obeyed_fresh clock t = cond_keeps (λ (u : Thread). IsFresh clock u.phase u.send) (is_alive t.phase) _ _ (λ alive. tt)
    (λ gone. caller_fresh clock t.phase t.send gone)

-- A caller beside which a retarget is owed is deleted, and stays so.
obeyed_owes : (t : Thread) (order : PendingOrder) (owed : Option Owed) → Suits t.phase t.send (Some order) → OwesIn t.phase owed → OwesIn (obeyed t).phase owed
obeyed_owes t order None suits owes = tt
obeyed_owes t order (Some o) suits owes = by t.phase refl suits owes
  where
    by : (p : Phase) → t.phase ≡ p → Suits p t.send (Some order) → HasJustReceived p → HasJustReceived (obeyed t).phase
    by Ready is s h = let none = s.1 in cc
    by Sending is s h = absurd h
    by (Receiving receive since) is s h = absurd h
    by Ordering is s h = absurd h
    by Ended is s h = absurd h
    by Deleted is s h = let gone = obeyed_deleted t is in rw gone tt

pub caller_unready : (i : ℕ) (p : Phase) (send : Option Send) (order : PendingOrder) → Suits p send (Some order) → readied p i [] ≡ []
caller_unready i Ready send order s = cc
caller_unready i Sending send order s = refl
caller_unready i (Receiving receive since) send order s = refl
caller_unready i Ordering send order s = refl
caller_unready i Ended send order s = refl
caller_unready i Deleted send order s = refl

obeyed_relates : (m : Machine) (cpu i : ℕ) (s : Scene) (w : World) (x : Work) (before : View) (p : Posted) (caller : GlobalId) → IsHere m cpu i →
    p.letter.content ≡ OrderDoneLetter caller → IsTakenOut m i before (view m (amid cpu s x) w i) p →
    RelatesExcept m (Matches m) (i ∷ []) (amid cpu s x) w → RelatesExcept m (Matches m) [] (amid cpu s (x ▷ does (comes_to i obeyed))) w
obeyed_relates m cpu i s w x before p caller here content t rel =
    let v : View = view m (amid cpu s x) w i in
    let row : IsObeyed m i (seats m i before) p = subst (RowOf m i (seats m i before) p) content (taken_row m i before v p t) in
    let was : at_home m i before ≡ kept x.local i = sym (ap (λ (f : ℕ → Kept). f (home m i)) t.kept) ∙ home_is m cpu i s x w here.home in
    let has : (thread x.local i).order ≡ Some row.orders.order = sym (ap (λ (k : Kept). k.thread.order) was) ∙ row.orders.has in
    let none : (thread x.local i).send ≡ None = sym (ap (λ (k : Kept). k.thread.send) was) ∙ row.orders.no_send in
    let good : IsGood x.local.clock (thread x.local i) = subst (λ (k : Kept). IsGood k.clock k.thread) was t.matches.known.kept.at_home.good in
    let suits : Suits (thread x.local i).phase (thread x.local i).send (Some row.orders.order) =
    subst (Suits (thread x.local i).phase (thread x.local i).send) has good.suits in
    let agrees : Agrees m before.world (obeyed (thread x.local i)) = subst (λ (k : Kept). Agrees m before.world (obeyed k.thread)) was
    (subst (λ c. Agrees m before.world (learns c (at_home m i before).clock (at_home m i before).thread)) content (taken_agrees m i before v p t)) in
    let c = comes m cpu i [] s w x obeyed (λ t. t) here rel in
    let q : IsQuiet m i v (kept x.local i) obeyed (λ t. t) = record {
      kept = taken_kept m i before v p t;
      quiet = t.quiet;
      unplaced = record {
        listed = λ c q. ap (λ (f : ℕ → Kept). (f c).listed q) t.kept ∙ row.orders.unplaced.listed c q;
        stand_in = λ c ne. ap (λ (f : ℕ → Kept). (f c).thread.send) t.kept ∙ row.orders.unplaced.stand_in c ne;
      };
      out = sym (ap (λ (k : Kept). k.ready) was) ∙ t.matches.ready ∙ ap (λ (k : Kept). readied k.thread.phase i []) was
          ∙ caller_unready i (thread x.local i).phase (thread x.local i).send row.orders.order suits;
      send = obeyed_send (thread x.local i) ∙ none;
      order = obeyed_order (thread x.local i);
      agrees = subst (λ u. Agrees m u (obeyed (thread x.local i))) (sym t.world) agrees;
      good = obeyed_good x.local.clock (thread x.local i) row.orders.order has good;
      fresh = obeyed_fresh x.local.clock (thread x.local i);
      owes = obeyed_owes (thread x.local i) row.orders.order (owed_beside x.local i) suits
          (subst (λ (k : Kept). OwesIn k.thread.phase k.owed) was t.matches.known.kept.at_home.owes);
      stays_true = record {
        deleted = λ gone. obeyed_deleted (thread x.local i) gone;
        begun = let same = obeyed_begun (thread x.local i) in omega arith;
        causes = λ cause same old. of_none _ (obeyed (thread x.local i)).send (obeyed_send (thread x.local i) ∙ none);
      };
    } in
    subst (RelatesExcept m (Matches m) [] (amid cpu s (x ▷ does (comes_to i obeyed)))) (ap (λ ts. record w { threads = ts }) (unchanged w.threads i))
    (takes_in m i [] (amid cpu s (x ▷ does (comes_to i obeyed))) (change w i (λ t. t)) c.relates (quiet_matches m cpu i [] s w x obeyed (λ t. t) here c q))

-- A caller hears that its order is done.
pub handles_order_done : (m : Machine) (from cpu : ℕ) (letter : Letter) (s : Scene) (w : World) (x : Work) (caller : GlobalId) →
    IsLetter m from cpu letter s w → letter.content ≡ OrderDoneLetter caller →
    handled m cpu (OrderDoneLetter caller) (at_work cpu letter s) ≡ Some x → Goes m cpu (without from cpu s) w [] x
handles_order_done m from cpu letter s w x caller h content is =
    let y : Work = at_work cpu letter s in
    bind_then (own_place m cpu caller) _ x is λ i own rest.
    guard_then (is_deleted (thread y.local i).phase || is_ordering (thread y.local i).phase) _ x rest λ calls rest.
    let at = own_place_is m cpu caller i own in
    let lt = place_within m caller i at.0 in
    let about : place_of m (subject letter.content) ≡ Some i = ap (λ c. place_of m (subject c)) content ∙ at.0 in
    let rel = taken_relates m from cpu i letter s w h about (ap is_locator content) in
    let t = taken_out m from cpu i letter s w h lt about (ap is_locator content) in
    subst (Goes m cpu (without from cpu s) w []) (some_is _ x rest) (record {
      starts = h.starts;
      now = w;
      reaches = refl;
      relates = obeyed_relates m cpu i (without from cpu s) w y (view m s w i) (record { from = from; to = cpu; letter = letter }) caller
          (record { machine = h.machine; within = lt; home = at.1 }) content t rel;
    })

-- Where the target is of the same processor, the order is done in the event that gives it.

-- A thread of this processor that has given an order, which is neither done nor under way
pub record IsCalling (m : Machine) (i : ℕ) (order : PendingOrder) (v : View) : Type 0 where
  pub kept : IsKept m i v
  pub out : (at_home m i v).ready ≡ []
  pub send : (at_home m i v).thread.send ≡ None
  pub has : (at_home m i v).thread.order ≡ Some order
  pub quiet : locators v.mail ≡ []
  pub unplaced : IsUnplaced m i (seats m i v)
  pub agrees : Agrees m v.world (at_home m i v).thread

-- Its order is done: it goes on.
pub obeyed_here : (m : Machine) (cpu i : ℕ) (order : PendingOrder) (s : Scene) (w : World) (x : Work) → IsHere m cpu i →
    IsCalling m i order (view m (amid cpu s x) w i) → RelatesExcept m (Matches m) (i ∷ []) (amid cpu s x) w →
    RelatesExcept m (Matches m) [] (amid cpu s (x ▷ does (comes_to i obeyed))) (change w i obeyed)
obeyed_here m cpu i order s w x here c rel =
    let v : View = view m (amid cpu s x) w i in
    let t : Thread = thread x.local i in
    let was : at_home m i v ≡ kept x.local i = home_is m cpu i s x w here.home in
    let has : t.order ≡ Some order = sym (ap (λ (k : Kept). k.thread.order) was) ∙ c.has in
    let none : t.send ≡ None = sym (ap (λ (k : Kept). k.thread.send) was) ∙ c.send in
    let good : IsGood x.local.clock t = subst (λ (k : Kept). IsGood k.clock k.thread) was c.kept.at_home.good in
    let suits : Suits t.phase t.send (Some order) = subst (Suits t.phase t.send) has good.suits in
    let k = comes m cpu i [] s w x obeyed obeyed here rel in
    let q : IsQuiet m i v (kept x.local i) obeyed obeyed = record {
      kept = c.kept;
      quiet = c.quiet;
      unplaced = c.unplaced;
      out = sym (ap (λ (k : Kept). k.ready) was) ∙ c.out;
      send = obeyed_send t ∙ none;
      order = obeyed_order t;
      agrees = obeyed_agrees v.world t order has suits (subst (λ (k : Kept). Agrees m v.world k.thread) was c.agrees);
      good = obeyed_good x.local.clock t order has good;
      fresh = obeyed_fresh x.local.clock t;
      owes = obeyed_owes t order (owed_beside x.local i) suits (subst (λ (k : Kept). OwesIn k.thread.phase k.owed) was c.kept.at_home.owes);
      stays_true = record {
        deleted = λ gone. obeyed_deleted t gone;
        begun = let same = obeyed_begun t in omega arith;
        causes = λ cause same old. of_none _ (obeyed t).send (obeyed_send t ∙ none);
      };
    } in
    takes_in m i [] (amid cpu s (x ▷ does (comes_to i obeyed))) (change w i obeyed) k.relates (quiet_matches m cpu i [] s w x obeyed obeyed here k q)
