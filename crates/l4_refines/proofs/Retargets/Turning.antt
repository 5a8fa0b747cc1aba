-- A thread of this processor turns to another partner, in the world and here, and all stays related.
use Rattle.std.proofs.Common.{◌≡◌, ℕ, ◌<◌, Option, Some, None, List, [], ◌∷◌, length, refl, ap, sym, ◌∙◌, subst, arith}
use Rattle.std.specs.Option.{option_map}
use Rattle.l4_model.specs.Machine.{Machine}
use Rattle.l4_model.specs.World.{Thread, World, Send, Owed, change, opening_thread}
use Rattle.l4_model.specs.Conditions.{is_zero}
use Rattle.l4_model.specs.Effects.{turns}
use Rattle.l4_model.proofs.Sends.{lasting}
use Rattle.l4_model.proofs.Chains.{some_is}
use Rattle.l4_core_model.specs.Letters.{Content, SendLetter, DoneLetter, WithdrawLetter, GoneLetter, OrderLetter, OrderDoneLetter, RetargetLetter}
use Rattle.l4_core_model.specs.Local.{declared, destination_place, changes, readied, stand_in}
use Rattle.l4_core_model.specs.Acts.{Work, ◌▷◌, does, entry}
use Rattle.l4_core_model.specs.Runs.{Posted}
use Rattle.l4_core_model.proofs.Changed.{get-changed}
use Rattle.l4_core_model.proofs.Apart.{same_or_apart}
use Rattle.l4_refines.proofs.Relation.Views.{Scene, Kept, View, kept, view, home, amid, notices, locators}
use Rattle.l4_refines.proofs.Relation.Rows.{Seats, seats, Agrees, learned, IsUnplaced, IsWaiting, IsSplit, IsSent, IsDecided, IsOrdering, Row, RowOf, IsKeptAtHome, Matches}
use Rattle.l4_refines.proofs.Relation.Relates.{RelatesExcept}
use Rattle.l4_refines.proofs.Frames.Locals.{changes_here}
use Rattle.l4_refines.proofs.Frames.Places.{first_about, takes_in, world_changes, local_changes, changes_spares}
use Rattle.l4_refines.proofs.Frames.Moves.{at_home, StaysTrue, same_alike, Moves, moves_kept}
use Rattle.l4_refines.proofs.Frames.Going.{IsHere, home_is, sized_here, put_other}
use Rattle.l4_refines.proofs.Retargets.Turned.{turned_learned, turned_kept, turned_at_home, turned_ready, turned_begun, turned_order, turned_lasting, turned_stays_true}

-- A row of a thread says nothing of the receive phase of its send.

-- What is sent elsewhere, and all else, is the same; what is sent at home lasts.
record IsAsBefore (m : Machine) (i : ℕ) (v after : Seats) : Type 0 where
  pub order : after.order ≡ v.order
  pub begun : (c : ℕ) → after.begun c ≡ v.begun c
  pub listed : (c q : ℕ) → after.listed c q ≡ v.listed c q
  pub elsewhere : (c : ℕ) → (c ≡ home m i → ⊥) → after.sent c ≡ v.sent c
  pub lasts : option_map lasting (after.sent (home m i)) ≡ option_map lasting (v.sent (home m i))

-- A send that lasts as another one has its destination, its message and its period.
record LastsAs (send : Send) (o : Option Send) : Type 0 where
  pub now : Send
  pub has : o ≡ Some now
  pub to : now.to ≡ send.to
  pub message : now.message ≡ send.message
  pub period : now.period ≡ send.period

lasts_as : (send : Send) (o : Option Send) → option_map lasting o ≡ Some (lasting send) → LastsAs send o
lasts_as send None h = cc
lasts_as send (Some now) h =
    let same : lasting now ≡ lasting send = some_is (lasting now) (lasting send) h in
    record {
      now = now;
      has = refl;
      to = ap (λ (s : Send). s.to) same;
      message = ap (λ (s : Send). s.message) same;
      period = ap (λ (s : Send). s.period) same;
    }

lasts_none : (o : Option Send) → option_map lasting o ≡ None → o ≡ None
lasts_none None h = refl
lasts_none (Some now) h = cc

unplaced_as : (m : Machine) (i : ℕ) (v after : Seats) → IsAsBefore m i v after → IsUnplaced m i v → IsUnplaced m i after
unplaced_as m i v after e u = record { listed = λ c r. e.listed c r ∙ u.listed c r; stand_in = λ c ne. e.elsewhere c ne ∙ u.stand_in c ne }

abbrev split_as : (m : Machine) (i : ℕ) (v after : Seats) → IsAsBefore m i v after → (g : IsSplit m i v) → LastsAs g.send (after.sent (home m i)) → IsSplit m i after
split_as m i v after e g l = record { send = l.now; has = l.has; order = e.order ∙ g.order; r = g.r; to = ap (destination_place m) l.to ∙ g.to; split = g.split }

lasts_at : (m : Machine) (i : ℕ) (v after : Seats) → IsAsBefore m i v after → (send : Send) → v.sent (home m i) ≡ Some send → LastsAs send (after.sent (home m i))
lasts_at m i v after e send has = lasts_as send (after.sent (home m i)) (e.lasts ∙ ap (option_map lasting) has)

sent_as : (m : Machine) (i : ℕ) (v after : Seats) (p : Posted) → IsAsBefore m i v after → IsSent m i v p → IsSent m i after p
sent_as m i v after p e s =
    let l = lasts_at m i v after e s.goes.send s.goes.has in
    record {
      goes = split_as m i v after e s.goes l;
      letter = s.letter ∙ (λ d. SendLetter (record { thread = (declared m i).id; k = sym (e.begun (home m i)) d }) (declared m s.goes.r).id (sym l.message d) (is_zero (sym l.period d)));
      from = s.from;
      to = s.to;
      unplaced = unplaced_as m i v after e s.unplaced;
    }

decided_as : (m : Machine) (i : ℕ) (v after : Seats) (p : Posted) (name : _) → IsAsBefore m i v after → IsDecided m i v p name → IsDecided m i after p name
decided_as m i v after p name e s =
    record {
      goes = split_as m i v after e s.goes (lasts_at m i v after e s.goes.send s.goes.has);
      name = s.name ∙ ap (λ k. record { thread = (declared m i).id; k = k }) (sym (e.begun (home m i)));
      from = s.from;
      to = s.to;
      unplaced = unplaced_as m i v after e s.unplaced;
    }

abbrev ordering_as : (m : Machine) (i : ℕ) (v after : Seats) → IsAsBefore m i v after → IsOrdering m i v → IsOrdering m i after
ordering_as m i v after e o = record {
  no_send = lasts_none (after.sent (home m i)) (e.lasts ∙ ap (option_map lasting) o.no_send);
  order = o.order;
  has = e.order ∙ o.has;
  target = o.target;
  place = o.place;
  split = o.split;
  unplaced = unplaced_as m i v after e o.unplaced;
}

waiting_as : (m : Machine) (i : ℕ) (v after : Seats) (send : Send) → IsAsBefore m i v after → (l : LastsAs send (after.sent (home m i))) → IsWaiting m i send v →
    IsWaiting m i l.now after
waiting_as m i v after send e l s =
    let same_entry : entry m s.r i send ≡ entry m s.r i l.now = ap (λ message. entry m s.r i (record send { message = message })) (sym l.message) in
    record {
      order = e.order ∙ s.order;
      r = s.r;
      to = ap (destination_place m) l.to ∙ s.to;
      listed = e.listed (home m s.r) s.r ∙ s.listed ∙ ap (λ x. x ∷ []) same_entry;
      other_lists = λ q ne. e.listed (home m s.r) q ∙ s.other_lists q ne;
      elsewhere = λ c q ne. e.listed c q ∙ s.elsewhere c q ne;
      stand_in = λ split. let old = s.stand_in split in record {
        has = e.elsewhere (home m s.r) split ∙ old.has ∙ (λ d. Some (stand_in (declared m s.r).id (sym l.message d) (is_zero (sym l.period d))));
        number = e.begun (home m s.r) ∙ old.number ∙ sym (e.begun (home m i));
      };
      no_other = λ c away ne. e.elsewhere c away ∙ s.no_other c away ne;
    }

row_as : (m : Machine) (i : ℕ) (v after : Seats) (ps : List Posted) → IsAsBefore m i v after → Row m i v ps (v.sent (home m i)) →
    Row m i after ps (after.sent (home m i))
row_as m i v after [] e row = by (v.sent (home m i)) refl row
  where
    by : (o : Option Send) → v.sent (home m i) ≡ o → Row m i v [] o → Row m i after [] (after.sent (home m i))
    by None has row =
        subst (Row m i after []) (sym (lasts_none (after.sent (home m i)) (e.lasts ∙ ap (option_map lasting) has)))
        (record { order = e.order ∙ row.order; unplaced = unplaced_as m i v after e row.unplaced })
    by (Some send) has row =
        let l = lasts_at m i v after e send has in
        subst (Row m i after []) (sym l.has) (waiting_as m i v after send e l row)
row_as m i v after (p ∷ []) e row = of p.letter.content row
  where
    of : (c : Content) → RowOf m i v p c → RowOf m i after p c
    of (SendLetter s receiver message zero_timeout) row = sent_as m i v after p e row
    of (DoneLetter s result) row = decided_as m i v after p s e row
    of (WithdrawLetter s receiver cause) row = row
    of (GoneLetter id) row = row
    of (OrderLetter caller target what) row =
        record { orders = ordering_as m i v after e row.orders; letter = row.letter; from = row.from; to = row.to }
    of (OrderDoneLetter caller) row = record { orders = ordering_as m i v after e row.orders; from = row.from; to = row.to }
    of (RetargetLetter o) row = row
row_as m i v after (p ∷ q ∷ ps) e row = absurd row

-- Its view after it

turned_matches : (m : Machine) (j : ℕ) (o : Owed) (v after : View) → after.world ≡ turns o v.world → after.mail ≡ v.mail →
    at_home m j after ≡ turned_kept o (at_home m j v) → ((c : ℕ) → (c ≡ home m j → ⊥) → after.kept c ≡ v.kept c) → Matches m j v → Matches m j after
turned_matches m j o v after world mail here other h =
    let k : Kept = at_home m j v in
    let thread_is : (at_home m j after).thread ≡ turns o k.thread = ap (λ (k : Kept). k.thread) here in
    let same_at : (P : ℕ → Type 0) → P (home m j) → ((c : ℕ) → (c ≡ home m j → ⊥) → P c) → (c : ℕ) → P c =
    λ P at_home away c. same_or_apart (P c) c (home m j) (λ e. subst P (sym e) at_home) (λ ne. away c ne) in
    let before : IsAsBefore m j (seats m j v) (seats m j after) = record {
      order = ap (λ (t : Thread). t.order) thread_is ∙ turned_order o k.thread;
      begun = same_at (λ c. (after.kept c).thread.context.begun ≡ (v.kept c).thread.context.begun)
          (ap (λ (t : Thread). t.context.begun) thread_is ∙ ap (λ c. c.begun) (turned_begun o k.thread))
          (λ c ne. ap (λ (k : Kept). k.thread.context.begun) (other c ne));
      listed = λ c q. same_at (λ c. (after.kept c).listed q ≡ (v.kept c).listed q) (ap (λ (k : Kept). k.listed q) here)
          (λ c ne. ap (λ (k : Kept). k.listed q) (other c ne)) c;
      elsewhere = λ c ne. ap (λ (k : Kept). k.thread.send) (other c ne);
      lasts = ap (λ (t : Thread). option_map lasting t.send) thread_is ∙ turned_lasting o k.thread;
    } in
    let moves : Moves m j v after = record {
      elsewhere = λ c ne. same_alike (v.kept c) (after.kept c) (other c ne);
      notices = ap notices mail;
      stays_true = subst (StaysTrue k) (sym here) (turned_stays_true o k);
    } in
    record {
      known = record {
        agrees = subst (λ (a : Kept). Agrees m after.world (learned (locators after.mail) a.clock a.thread)) (sym here)
            (subst (λ u. Agrees m u (learned (locators after.mail) k.clock (turns o k.thread))) (sym world)
            (subst (λ mail. Agrees m (turns o v.world) (learned (locators mail) k.clock (turns o k.thread))) (sym mail) (turned_learned m j o v h.known)));
        row = subst (λ mail. Row m j (seats m j after) (locators mail) (at_home m j after).thread.send) (sym mail)
            (row_as m j (seats m j v) (seats m j after) (locators v.mail) before h.known.row);
        kept = moves_kept m j v after h.known.kept moves (subst (IsKeptAtHome j) (sym here) (turned_at_home o j k h.known.kept.at_home));
      };
      ready = subst (λ (k : Kept). k.ready ≡ readied k.thread.phase j []) (sym here) (turned_ready o j k h.ready);
    }

pub turns_relates : (m : Machine) (cpu j : ℕ) (o : Owed) (except : List ℕ) (s : Scene) (w : World) (x : Work) → IsHere m cpu j →
    Matches m j (view m (amid cpu s x) w j) → RelatesExcept m (Matches m) (j ∷ except) (amid cpu s x) w →
    RelatesExcept m (Matches m) except (amid cpu s (x ▷ does (changes j (turns o)))) (change w j (turns o))
turns_relates m cpu j o except s w x here matches rel =
    let y : Work = x ▷ does (changes j (turns o)) in
    let u : World = change w j (turns o) in
    let v : View = view m (amid cpu s x) w j in
    let after : View = view m (amid cpu s y) u j in
    let z = sized_here m cpu j (j ∷ except) s w x here rel in
    let size : j < length x.local.threads = omega (arith, z.threads, here.within) in
    let in_world : j < length w.threads = omega (arith, rel.sized_world.threads, here.within) in
    let was : at_home m j v ≡ kept x.local j = home_is m cpu j s x w here.home in
    let is : at_home m j after ≡ kept y.local j = home_is m cpu j s y u here.home in
    takes_in m j except (amid cpu s y) u
    (world_changes m j (j ∷ except) (amid cpu s y) w (turns o) (first_about j except)
    (local_changes m cpu (j ∷ except) s w x (changes j (turns o)) (changes_spares m j (j ∷ except) x.local (turns o) (first_about j except)) refl rel))
    (turned_matches m j o v after (get-changed (turns o) w.threads j opening_thread in_world) refl
    (is ∙ changes_here x.local j (turns o) size ∙ sym (ap (turned_kept o) was))
    (λ c ne. put_other cpu c j x.local y.local s.locals (λ h. ne (sym h ∙ sym here.home))) matches)
