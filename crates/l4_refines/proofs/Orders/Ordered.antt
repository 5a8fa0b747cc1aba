-- The letter of an order is handled, and the letter that it is done is posted.
use Rattle.std.proofs.Common.{◌≡◌, ℕ, ◌<◌, Option, Some, None, [], ◌∷◌, ◌++◌, filter, length, refl, ap, sym, ◌∙◌, subst, arith}
use Rattle.std.specs.Prelude.{not}
use Rattle.l4_model.specs.Words.{GlobalId}
use Rattle.l4_model.specs.Machine.{Machine, OrderKind, place_of}
use Rattle.l4_model.specs.World.{Thread, World, PendingOrder, Phase, Ready, Sending, Receiving, Ordering, Ended, Deleted, change, is_deleted, opening_thread}
use Rattle.l4_model.specs.Effects.{asked, obeyed}
use Rattle.l4_model.specs.History.{run}
use Rattle.l4_model.specs.Steps.{Obey, next}
use Rattle.l4_model.proofs.Chains.{bind_then, some_is, cond_both}
use Rattle.l4_model.specs.Reached.{Suits}
use Rattle.l4_core_model.specs.Letters.{Cause, WithdrawLetter, OrderLetter, OrderDoneLetter, Letter, cause_of}
use Rattle.l4_core_model.specs.Local.{declared, thread, last_name, readied}
use Rattle.l4_core_model.specs.Acts.{Work, ◌▷◌, tells, does, posts, asks, withdraws, withdraws_for, split_place, obeys}
use Rattle.l4_core_model.specs.Mail.{own_place, foreign_place, handled}
use Rattle.l4_core_model.specs.Runs.{Posted, posted}
use Rattle.l4_core_model.proofs.Changed.{get-changed}
use Rattle.l4_core_model.proofs.Standing.{place_within}
use Rattle.l4_core_model.proofs.Fit.{get_other}
use Rattle.l4_refines.proofs.Lists.{other_is, filter_last, filter_last_other}
use Rattle.l4_refines.proofs.Relation.Views.{Scene, Kept, View, kept, view, world_thread, home, amid, subject, is_locator, notices, is_about, locators}
use Rattle.l4_refines.proofs.Relation.Rows.{seats, AgreesIn, AgreesByPhase, Agrees, learns, RowOf, IsOrdering, IsOrdered, IsObeyed, IsKeptAtHome, Matches, seats_of}
use Rattle.l4_refines.proofs.Relation.Relates.{RelatesExcept}
use Rattle.l4_refines.proofs.Frames.Places.{first_about, takes_in, put_same, world_changes}
use Rattle.l4_refines.proofs.Frames.Mail.{about_place, mail_posted, letter_posted, mail_here}
use Rattle.l4_refines.proofs.Relation.Agreement.{same_by_phase}
use Rattle.l4_refines.proofs.Frames.Moves.{at_home, StaysTrue, same_alike, Moves, moves_kept, located_known}
use Rattle.l4_refines.proofs.Frames.Going.{Goes, one_more_told, IsHere, IsReached}
use Rattle.l4_refines.proofs.Sends.Answering.{same_stays_true}
use Rattle.l4_refines.proofs.Sends.Finding.{found_at_is}
use Rattle.l4_refines.proofs.Sends.Coming.{IsTakenOut, taken_row, taken_agrees}
use Rattle.l4_refines.proofs.Letters.Receiving.{without, IsLetter, at_work, own_place_is, foreign_place_is, taken_out, taken_relates}
use Rattle.l4_refines.proofs.Orders.Asked.{agrees_order}
use Rattle.l4_refines.proofs.Orders.Asking.{asks_other}
use Rattle.l4_refines.proofs.Orders.Obeying.{obeys_relates, obeys_steps}

-- The caller goes on, in the world; home hears of it later.
obeyed_by_phase : (world t : Thread) (order : PendingOrder) → t.order ≡ Some order → Suits t.phase t.send (Some order) → AgreesByPhase world t →
    AgreesByPhase (obeyed world) (obeyed t)
obeyed_by_phase world t order has suits a = by t.phase refl suits a
  where
    by : (p : Phase) → t.phase ≡ p → Suits p t.send (Some order) → AgreesIn p world t → AgreesByPhase (obeyed world) (obeyed t)
    by Ready is s a = let none = s.1 in cc
    by Sending is s a = let none = s.1 in cc
    by (Receiving receive since) is s a = let none = s.1 in cc
    by Ordering is s a = same_by_phase (obeyed world) (obeyed t) (ap obeyed a)
    by Ended is s a = let none = s.1 in cc
    by Deleted is s a =
        let there = a.deleted in
        let u : obeyed world ≡ record world { order = None } = rw there refl in
        let v : obeyed t ≡ record t { order = None } = rw is refl in
        let left : AgreesIn Deleted (record world { order = None }) (record t { order = None }) = record {
          deleted = there;
          begun = a.begun;
          send = a.send;
          order = refl;
          cancel_send = a.cancel_send;
        } in
        subst (λ x. AgreesByPhase x (obeyed t)) (sym u)
        (subst (AgreesByPhase (record world { order = None })) (sym v)
        (subst (λ p. AgreesIn p (record world { order = None }) (record t { order = None })) (sym is) left))

pub obeyed_agrees : {m : Machine} (world t : Thread) (order : PendingOrder) → t.order ≡ Some order → Suits t.phase t.send (Some order) → Agrees m world t →
    Agrees m (obeyed world) (obeyed t)
obeyed_agrees world t order has suits a = record {
  by_phase = obeyed_by_phase world t order has suits a.by_phase;
  together = λ one. ap obeyed (a.together one);
}

-- Of another thread than the target nothing changes.

pub obeys_local : (m : Machine) (cpu j : ℕ) (caller : GlobalId) (what : OrderKind) (x : Work) → (obeys m cpu caller what j x).local ≡ asks what j x.local
obeys_local m cpu j caller what x =
    let y : Work = x ▷ tells (Obey caller) ▷ does (asks what j) in
    cond_both (λ (a : Work). a.local) (asks what j x.local) (is_deleted (thread x.local j).phase) y (withdraws_for m cpu j (cause_of what) y) refl
    (for (cause_of what) y)
  where
    go : (cause : Cause) (o : Option ℕ) (y : Work) → (withdraws m cause j o y).local ≡ y.local
    go cause None y = refl
    go cause (Some r) y = refl

    for : (o : Option Cause) (y : Work) → (withdraws_for m cpu j o y).local ≡ y.local
    for None y = refl
    for (Some cause) y = go cause (split_place m cpu y.local j) y

pub obeys_mail : (m : Machine) (cpu j i : ℕ) (caller : GlobalId) (what : OrderKind) (s : Scene) (x : Work) → place_of m (declared m j).id ≡ Some j → (j ≡ i → ⊥) →
    filter (is_about m i) (amid cpu s (obeys m cpu caller what j x)).mail ≡ filter (is_about m i) (amid cpu s x).mail
obeys_mail m cpu j i caller what s x placed ne =
    let y : Work = x ▷ tells (Obey caller) ▷ does (asks what j) in
    cond_both (λ (a : Work). filter (is_about m i) (amid cpu s a).mail) (filter (is_about m i) (amid cpu s x).mail) (is_deleted (thread x.local j).phase) y
    (withdraws_for m cpu j (cause_of what) y) refl (for (cause_of what) y)
  where
    go : (cause : Cause) (o : Option ℕ) (y : Work) →
        filter (is_about m i) (amid cpu s (withdraws m cause j o y)).mail ≡ filter (is_about m i) (amid cpu s y).mail
    go cause None y = refl
    go cause (Some r) y = ap (filter (is_about m i)) (mail_posted cpu (home m r) (WithdrawLetter (last_name m y.local j) (declared m r).id cause) s y)
        ∙ filter_last_other (is_about m i) (amid cpu s y).mail _
        (about_place m j i (posted cpu (home m r, record { stamp = y.local.stamp; content = WithdrawLetter (last_name m y.local j) (declared m r).id cause }))
        placed ∙ other_is j i ne)

    for : (o : Option Cause) (y : Work) → filter (is_about m i) (amid cpu s (withdraws_for m cpu j o y)).mail ≡ filter (is_about m i) (amid cpu s y).mail
    for None y = refl
    for (Some cause) y = go cause (split_place m cpu y.local j) y

-- The letter

order_letter : (caller target : GlobalId) (what : OrderKind) (id : GlobalId) (order : PendingOrder) →
    OrderLetter caller target what ≡ OrderLetter id order.target order.what → (target ≡ order.target) × (what ≡ order.what)
order_letter caller target what id order h = (cc, cc)

-- The order of another processor's thread is obeyed, and the answer is posted: in the world its caller goes on at once.
order_goes : (m : Machine) (cpu i j : ℕ) (s : Scene) (w : World) (x : Work) (before : View) (p : Posted) (caller target : GlobalId) (what : OrderKind) →
    IsHere m cpu j → i < length m.threads → (home m i ≡ cpu → ⊥) → place_of m caller ≡ Some i → place_of m target ≡ Some j → p.to ≡ cpu →
    p.letter.content ≡ OrderLetter caller target what →
    IsReached m w → IsTakenOut m i before (view m (amid cpu s x) w i) p → RelatesExcept m (Matches m) (i ∷ []) (amid cpu s x) w → x.steps ≡ [] →
    Goes m cpu s w [] (x ▷ obeys m cpu caller what j ▷ posts (home m i) (OrderDoneLetter caller))
order_goes m cpu i j s w x before p caller target what here lt away at_i at_j to content starts t rel nothing =
    let v : View = view m (amid cpu s x) w i in
    let row : IsOrdered m i (seats m i before) p = subst (RowOf m i (seats m i before) p) content (taken_row m i before v p t) in
    let o = row.orders in
    let says = order_letter caller target what (declared m i).id o.order (sym content ∙ row.letter) in
    let agrees : Agrees m before.world (at_home m i before).thread =
    subst (λ c. Agrees m before.world (learns c (at_home m i before).clock (at_home m i before).thread)) content (taken_agrees m i before v p t) in
    let ne : j ≡ i → ⊥ = λ e. away (sym (ap (home m) e) ∙ here.home) in
    let y : Work = obeys m cpu caller what j x in
    let z : Work = posts (home m i) (OrderDoneLetter caller) y in
    let u1 : World = change w j (asked what) in
    let u2 : World = change u1 i obeyed in
    let q : Posted = posted cpu (home m i, record { stamp = y.local.stamp; content = OrderDoneLetter caller }) in
    let rel1 = obeys_relates m cpu j caller what (i ∷ []) s w x here (ne, tt) rel in
    let rel3 = letter_posted m cpu (home m i) i (OrderDoneLetter caller) (i ∷ []) s u2 y at_i refl (first_about i [])
    (world_changes m i (i ∷ []) (amid cpu s y) u1 obeyed (first_about i []) rel1) in
    let after : View = view m (amid cpu s z) u2 i in
    let same_local : kept y.local i ≡ kept x.local i = ap (λ l. kept l i) (obeys_local m cpu j caller what x) ∙ asks_other what x.local j i ne in
    let same_kept : after.kept ≡ before.kept =
    λ d c. (put_same (λ l. kept l i) cpu c x.local y.local s.locals same_local ∙ ap (λ (f : ℕ → Kept). f c) t.kept) d in
    let mail : after.mail ≡ v.mail ++ q ∷ [] =
    mail_here m cpu (home m i) i (OrderDoneLetter caller) s u2 y at_i
    ∙ ap (λ ps. ps ++ q ∷ []) (obeys_mail m cpu j i caller what s x (here.machine.placed j here.within) ne) in
    let locator : locators after.mail ≡ q ∷ [] =
    ap locators mail ∙ filter_last (λ (a : Posted). is_locator a.letter.content) v.mail q refl ∙ ap (λ ps. ps ++ q ∷ []) t.quiet in
    let others : notices after.mail ≡ notices before.mail =
    ap notices mail ∙ filter_last_other (λ (a : Posted). not (is_locator a.letter.content)) v.mail q refl ∙ t.notices in
    let home_same : at_home m i after ≡ at_home m i before = ap (λ (f : ℕ → Kept). f (home m i)) same_kept in
    let in_world : i < length u1.threads = let size = rel1.sized_world.threads in omega arith in
    let world : after.world ≡ obeyed before.world =
    get-changed obeyed u1.threads i opening_thread in_world ∙ ap obeyed (get_other (asked what) w.threads j i ne ∙ t.world) in
    let suits : Suits (at_home m i before).thread.phase (at_home m i before).thread.send (Some o.order) =
    subst (Suits (at_home m i before).thread.phase (at_home m i before).thread.send) o.has t.matches.known.kept.at_home.good.suits in
    let moves : Moves m i before after = record {
      elsewhere = λ c away. same_alike (before.kept c) (after.kept c) (ap (λ (f : ℕ → Kept). f c) same_kept);
      notices = others;
      stays_true = subst (StaysTrue (at_home m i before)) (sym home_same) (same_stays_true (at_home m i before));
    } in
    let orders : IsOrdering m i (seats m i after) = subst (λ (f : ℕ → Kept). IsOrdering m i (seats_of m i f)) (sym same_kept) o in
    let which : o.target ≡ j = some_is o.target j (sym o.place ∙ ap (place_of m) (sym says.0) ∙ at_j) in
    let obeys_row : IsObeyed m i (seats m i after) q = record {
      orders = record {
        no_send = orders.no_send;
        order = o.order;
        has = orders.has;
        target = o.target;
        place = o.place;
        split = o.split;
        unplaced = orders.unplaced;
      };
      from = sym to ∙ row.to;
      to = refl;
    } in
    let found_now = found_at_is m i (i ∷ []) (amid cpu s x) w here.machine lt rel in
    let ordering : (world_thread w i).order ≡ Some o.order =
    ap (λ (u : Thread). u.order) t.world ∙ agrees_order before.world (at_home m i before).thread agrees ∙ o.has in
    let place : place_of m o.order.target ≡ Some j = o.place ∙ ap Some which in
    let possible : next m w (Obey caller) ≡ Some (change (change w j (asked o.order.what)) i obeyed) = rw (at_i, found_now, ordering, place) refl in
    let steps : z.steps ≡ Obey caller ∷ [] = obeys_steps m cpu j caller what x ∙ ap (λ ss. ss ++ Obey caller ∷ []) nothing in
    record {
      starts = starts;
      now = u2;
      reaches = ap (run m w) steps
          ∙ one_more_told m w w u2 [] (Obey caller) refl (possible ∙ ap (λ k. Some (change (change w j (asked k)) i obeyed)) (sym says.1));
      relates = takes_in m i [] (amid cpu s z) u2 rel3 (record {
        known = located_known m i after q
            (moves_kept m i before after t.matches.known.kept moves (subst (IsKeptAtHome i) (sym home_same) t.matches.known.kept.at_home)) locator obeys_row
            (subst (λ (k : Kept). Agrees m after.world (obeyed k.thread)) (sym home_same)
            (subst (λ u. Agrees m u (obeyed (at_home m i before).thread)) (sym world)
            (obeyed_agrees before.world (at_home m i before).thread o.order o.has suits agrees)));
        ready = subst (λ (k : Kept). k.ready ≡ readied k.thread.phase i []) (sym home_same) t.matches.ready;
      });
    }

-- The letter of an order is handled.
pub handles_order : (m : Machine) (from cpu : ℕ) (letter : Letter) (s : Scene) (w : World) (x : Work) (caller target : GlobalId) (what : OrderKind) →
    IsLetter m from cpu letter s w → letter.content ≡ OrderLetter caller target what →
    handled m cpu (OrderLetter caller target what) (at_work cpu letter s) ≡ Some x → Goes m cpu (without from cpu s) w [] x
handles_order m from cpu letter s w x caller target what h content is =
    let y : Work = at_work cpu letter s in
    bind_then (own_place m cpu target) _ x is λ j own rest.
    bind_then (foreign_place m cpu caller) _ x rest λ i foreign rest.
    let at_j = own_place_is m cpu target j own in
    let at_i = foreign_place_is m cpu caller i foreign in
    let lt = place_within m caller i at_i.0 in
    let about : place_of m (subject letter.content) ≡ Some i = ap (λ c. place_of m (subject c)) content ∙ at_i.0 in
    let rel = taken_relates m from cpu i letter s w h about (ap is_locator content) in
    let t = taken_out m from cpu i letter s w h lt about (ap is_locator content) in
    subst (Goes m cpu (without from cpu s) w []) (some_is _ x rest)
    (order_goes m cpu i j (without from cpu s) w y (view m s w i) (record { from = from; to = cpu; letter = letter }) caller target what
    (record { machine = h.machine; within = place_within m target j at_j.0; home = at_j.1 }) lt at_i.1 at_i.0 at_j.0 refl content h.starts t rel refl)
