-- Letters that bring a send to its receiver, and its decision home.
use Rattle.std.proofs.Common.{◌≡◌, ℕ, zero, suc, ◌<◌, Bool, Some, None, List, [], ◌∷◌, length, refl, ap, sym, ◌∙◌, subst, arith, false}
use Rattle.l4_model.specs.Words.{GlobalId, Id}
use Rattle.l4_model.specs.Machine.{Machine, place_of}
use Rattle.l4_model.specs.World.{Thread, World, Send, Message, Name, changed, change, must_wait}
use Rattle.l4_model.specs.Conditions.{is_zero}
use Rattle.l4_model.proofs.Chains.{some_is}
use Rattle.l4_model.specs.Reached.{Suits}
use Rattle.l4_core_model.specs.Letters.{Result, SendLetter, DoneLetter}
use Rattle.l4_core_model.specs.Local.{declared, thread, owed_beside, changes, comes_to, readied, after_decision, stand_in, stands_in, destination_place}
use Rattle.l4_core_model.specs.Acts.{Work, ◌▷◌, does, arrives}
use Rattle.l4_core_model.specs.Runs.{Posted}
use Rattle.l4_core_model.proofs.Standing.{destination_within}
use Rattle.l4_core_model.proofs.Fit.{IsGood}
use Rattle.l4_core_model.proofs.Apart.{same_or_apart}
use Rattle.l4_refines.proofs.Frames.Locals.{changes_here}
use Rattle.l4_refines.proofs.Relation.Views.{Scene, Kept, View, kept, view, home, amid, notices, locators}
use Rattle.l4_refines.proofs.Relation.Rows.{seats, Agrees, learns, learned, Row, RowOf, name_of, IsSent, IsDecided, IsKept, IsKeptAtHome, Matches, OwesIn}
use Rattle.l4_refines.proofs.Relation.Relates.{IsSized, RelatesExcept}
use Rattle.l4_refines.proofs.Frames.Places.{first_about, takes_in, local_changes, changes_spares}
use Rattle.l4_refines.proofs.Frames.Lists.{put_here}
use Rattle.l4_refines.proofs.Frames.Moves.{at_home, StaysTrue, IsAlike, same_alike, Moves, moves_kept}
use Rattle.l4_refines.proofs.Frames.Going.{Goes, IsHere, IsQuiet, home_is, put_other, comes, quiet_matches}
use Rattle.l4_refines.proofs.Sends.Deciding.{sender_unready, ended_good, ended_none, ended_fresh, ended_owes, ended_stays_true}
use Rattle.l4_refines.proofs.Sends.Answering.{IsAway, same_stays_true}
use Rattle.l4_refines.proofs.Sends.Delivering.{arrives_goes}

-- A thread is seen as before, but for the letter that said where its send is, which was taken out.
pub record IsTakenOut (m : Machine) (i : ℕ) (before v : View) (p : Posted) : Type 0 where
  pub matches : Matches m i before
  pub was : locators before.mail ≡ p ∷ []
  pub quiet : locators v.mail ≡ []
  pub notices : notices v.mail ≡ notices before.mail
  pub kept : v.kept ≡ before.kept
  pub world : v.world ≡ before.world

pub taken_kept : (m : Machine) (i : ℕ) (before v : View) (p : Posted) → IsTakenOut m i before v p → IsKept m i v
taken_kept m i before v p t =
    let here : at_home m i v ≡ at_home m i before = ap (λ (f : ℕ → Kept). f (home m i)) t.kept in
    moves_kept m i before v t.matches.known.kept (record {
      elsewhere = λ c ne. same_alike (before.kept c) (v.kept c) (ap (λ (f : ℕ → Kept). f c) t.kept);
      notices = t.notices;
      stays_true = subst (StaysTrue (at_home m i before)) (sym here) (same_stays_true (at_home m i before));
    }) (subst (IsKeptAtHome i) (sym here) t.matches.known.kept.at_home)

pub taken_row : (m : Machine) (i : ℕ) (before v : View) (p : Posted) → IsTakenOut m i before v p → RowOf m i (seats m i before) p p.letter.content
taken_row m i before v p t = subst (λ ps. Row m i (seats m i before) ps (at_home m i before).thread.send) t.was t.matches.known.row

pub taken_agrees : (m : Machine) (i : ℕ) (before v : View) (p : Posted) → IsTakenOut m i before v p →
    Agrees m before.world (learned (p ∷ []) (at_home m i before).clock (at_home m i before).thread)
taken_agrees m i before v p t =
    subst (λ ps. Agrees m before.world (learned ps (at_home m i before).clock (at_home m i before).thread)) t.was t.matches.known.agrees

-- A decision comes home

pub unchanged : (ts : List Thread) (i : ℕ) → changed (λ t. t) ts i ≡ ts
unchanged [] i = refl
unchanged (t ∷ ts) zero = refl
unchanged (t ∷ ts) (suc i) = ap (λ us. t ∷ us) (unchanged ts i)

-- The answer to a send comes home: the world is as it was, and home agrees with it again.
pub done_relates : (m : Machine) (cpu i : ℕ) (s : Scene) (w : World) (x : Work) (before : View) (p : Posted) (name : Name) (result : Result) → IsHere m cpu i →
    p.letter.content ≡ DoneLetter name result → IsTakenOut m i before (view m (amid cpu s x) w i) p →
    RelatesExcept m (Matches m) (i ∷ []) (amid cpu s x) w → RelatesExcept m (Matches m) [] (amid cpu s (x ▷ does (comes_to i (after_decision result x.local.clock)))) w
done_relates m cpu i s w x before p name result here content t rel =
    let v : View = view m (amid cpu s x) w i in
    let f : Thread → Thread = after_decision result x.local.clock in
    let row : IsDecided m i (seats m i before) p name = subst (RowOf m i (seats m i before) p) content (taken_row m i before v p t) in
    let was : at_home m i before ≡ kept x.local i = sym (ap (λ (f : ℕ → Kept). f (home m i)) t.kept) ∙ home_is m cpu i s x w here.home in
    let has : (thread x.local i).send ≡ Some row.goes.send = sym (ap (λ (k : Kept). k.thread.send) was) ∙ row.goes.has in
    let order : (thread x.local i).order ≡ None = sym (ap (λ (k : Kept). k.thread.order) was) ∙ row.goes.order in
    let good : IsGood x.local.clock (thread x.local i) = subst (λ (k : Kept). IsGood k.clock k.thread) was t.matches.known.kept.at_home.good in
    let suits : Suits (thread x.local i).phase (Some row.goes.send) (thread x.local i).order =
    subst (λ o. Suits (thread x.local i).phase o (thread x.local i).order) has good.suits in
    let none = ended_none result x.local.clock (thread x.local i) row.goes.send has order in
    let agrees : Agrees m before.world (f (thread x.local i)) = subst (λ (k : Kept). Agrees m before.world (after_decision result k.clock k.thread)) was
    (subst (λ c. Agrees m before.world (learns c (at_home m i before).clock (at_home m i before).thread)) content (taken_agrees m i before v p t)) in
    let c = comes m cpu i [] s w x f (λ t. t) here rel in
    let q : IsQuiet m i v (kept x.local i) f (λ t. t) = record {
      kept = taken_kept m i before v p t;
      quiet = t.quiet;
      unplaced = record {
        listed = λ c q. ap (λ (f : ℕ → Kept). (f c).listed q) t.kept ∙ row.unplaced.listed c q;
        stand_in = λ c ne. ap (λ (f : ℕ → Kept). (f c).thread.send) t.kept ∙ row.unplaced.stand_in c ne;
      };
      out = sym (ap (λ (k : Kept). k.ready) was) ∙ t.matches.ready ∙ ap (λ (k : Kept). readied k.thread.phase i []) was
          ∙ sender_unready i (thread x.local i).phase row.goes.send (thread x.local i).order suits;
      send = none.0;
      order = none.1;
      agrees = subst (λ u. Agrees m u (f (thread x.local i))) (sym t.world) agrees;
      good = ended_good result x.local.clock (thread x.local i) row.goes.send has good;
      fresh = ended_fresh result x.local.clock (thread x.local i) row.goes.send has;
      owes = ended_owes result x.local.clock (thread x.local i) row.goes.send (owed_beside x.local i) has suits
          (subst (λ (k : Kept). OwesIn k.thread.phase k.owed) was t.matches.known.kept.at_home.owes);
      stays_true = ended_stays_true result (kept x.local i) i row.goes.send has order;
    } in
    subst (RelatesExcept m (Matches m) [] (amid cpu s (x ▷ does (comes_to i f)))) (ap (λ ts. record w { threads = ts }) (unchanged w.threads i))
    (takes_in m i [] (amid cpu s (x ▷ does (comes_to i f))) (change w i (λ t. t)) c.relates (quiet_matches m cpu i [] s w x f (λ t. t) here c q))

-- A send comes to its receiver

-- What a letter of a send says
pub record IsLetterOf (m : Machine) (i r : ℕ) (t : Thread) (send : Send) (name : Name) (receiver : GlobalId) (message : Message)
    (zero_timeout : Bool) : Type 0 where
  pub number : name.k ≡ t.context.begun
  pub receiver_is : receiver ≡ (declared m r).id
  pub message_is : message ≡ send.message
  pub zero_is : zero_timeout ≡ is_zero send.period

letter_of : (m : Machine) (i r : ℕ) (t : Thread) (send : Send) (name : Name) (receiver : GlobalId) (message : Message) (zero_timeout : Bool) →
    SendLetter name receiver message zero_timeout ≡ SendLetter (name_of m i t) (declared m r).id send.message (is_zero send.period) →
    IsLetterOf m i r t send name receiver message zero_timeout
letter_of m i r t send name receiver message zero_timeout h =
    let name_is : name ≡ name_of m i t = cc in
    record { number = ap (λ (s : Name). s.k) name_is; receiver_is = cc; message_is = cc; zero_is = cc }

-- The letter of a send comes to its receiver's home: a stand-in takes its place there, and it is in hand.
pub send_goes : (m : Machine) (cpu i r : ℕ) (s : Scene) (w : World) (x : Work) (before : View) (p : Posted) (name : Name) (receiver : GlobalId)
    (message : Message) (zero_timeout : Bool) → IsAway m cpu i → p.to ≡ cpu → p.letter.content ≡ SendLetter name receiver message zero_timeout →
    (e : Goes m cpu s w (i ∷ []) x) → IsTakenOut m i before (view m (amid cpu s x) e.now i) p → place_of m receiver ≡ Some r → r < length m.threads →
    ((to : Id) → destination_place m to ≡ Some r → home m i ≡ p.from → home m r ≡ cpu → must_wait e.now.owed (declared m i).id to ≡ false) →
    Goes m cpu s w [] (x ▷ does (changes i (stands_in name.k (stand_in receiver message zero_timeout))) ▷ arrives m cpu r i)
send_goes m cpu i r s w x before p name receiver message zero_timeout here to content e t placed lt free =
    let now = e.now in
    let v : View = view m (amid cpu s x) now i in
    let row : IsSent m i (seats m i before) p = subst (RowOf m i (seats m i before) p) content (taken_row m i before v p t) in
    let send : Send = row.goes.send in
    let says = letter_of m i row.goes.r (at_home m i before).thread send name receiver message zero_timeout (sym content ∙ row.letter) in
    let which : row.goes.r ≡ r =
    some_is row.goes.r r (sym (here.machine.placed row.goes.r (destination_within m send.to row.goes.r row.goes.to))
    ∙ sym (ap (place_of m) says.receiver_is) ∙ placed) in
    let at_r : home m r ≡ cpu = sym (ap (home m) which) ∙ sym row.to ∙ to in
    let is_receiver = says.receiver_is ∙ ap (λ q. (declared m q).id) which in
    let f : Thread → Thread = stands_in name.k (stand_in receiver message zero_timeout) in
    let y : Work = x ▷ does (changes i f) in
    let after : View = view m (amid cpu s y) now i in
    let sized = subst (IsSized m) (put_here cpu cpu x.local s.locals refl) (e.relates.sized cpu here.processor) in
    let size : i < length x.local.threads = omega (arith, sized.threads, here.within) in
    let rel = local_changes m cpu (i ∷ []) s now x (changes i f) (changes_spares m i (i ∷ []) x.local f (first_about i [])) refl e.relates in
    let old : v.kept cpu ≡ kept x.local i = ap (λ l. kept l i) (put_here cpu cpu x.local s.locals refl) in
    let new : after.kept cpu ≡ record (kept x.local i) { thread = f (thread x.local i) } =
    ap (λ l. kept l i) (put_here cpu cpu y.local s.locals refl) ∙ changes_here x.local i f size in
    let same = λ (c : ℕ) (ne : cpu ≡ c → ⊥). put_other cpu c i x.local y.local s.locals ne in
    let alike : (c : ℕ) → IsAlike (v.kept c) (after.kept c) = λ c. same_or_apart (IsAlike (v.kept c) (after.kept c)) cpu c
    (λ h. subst (λ c. IsAlike (v.kept c) (after.kept c)) h
    (subst (λ k. IsAlike k (after.kept cpu)) (sym old) (subst (IsAlike (kept x.local i)) (sym new) (record { ready = refl; armed = refl; phase = refl }))))
    (λ ne. same_alike (v.kept c) (after.kept c) (same c ne)) in
    let home_same : at_home m i after ≡ at_home m i v = same (home m i) (λ h. here.away (sym h)) in
    let home_old : at_home m i after ≡ at_home m i before = home_same ∙ ap (λ (f : ℕ → Kept). f (home m i)) t.kept in
    let kept_now = taken_kept m i before v p t in
    let moves : Moves m i v after = record {
      elsewhere = λ c ne. alike c;
      notices = refl;
      stays_true = subst (StaysTrue (at_home m i v)) (sym home_same) (same_stays_true (at_home m i v));
    } in
    let suits : Suits (at_home m i before).thread.phase (Some send) (at_home m i before).thread.order =
    subst (λ o. Suits (at_home m i before).thread.phase o (at_home m i before).thread.order) row.goes.has t.matches.known.kept.at_home.good.suits in
    let listed : (c q : ℕ) → (after.kept c).listed q ≡ [] = λ c q. same_or_apart ((after.kept c).listed q ≡ []) cpu c
    (λ h. subst (λ c. (after.kept c).listed q ≡ []) h
    (ap (λ (k : Kept). k.listed q) new ∙ sym (ap (λ (k : Kept). k.listed q) old) ∙ ap (λ (f : ℕ → Kept). (f cpu).listed q) t.kept ∙ row.unplaced.listed cpu q))
    (λ ne. ap (λ (k : Kept). k.listed q) (same c ne) ∙ ap (λ (f : ℕ → Kept). (f c).listed q) t.kept ∙ row.unplaced.listed c q) in
    arrives_goes m cpu i r s w y send (record {
      has = record {
        machine = here.machine;
        processor = here.processor;
        within = here.within;
        goes = record { starts = e.starts; now = now; reaches = e.reaches; relates = rel };
        at = record {
          kept = moves_kept m i v after kept_now moves (subst (IsKeptAtHome i) (sym home_same) kept_now.at_home);
          out = ap (λ (k : Kept). k.ready) home_old ∙ t.matches.ready
              ∙ sender_unready i (at_home m i before).thread.phase send (at_home m i before).thread.order suits;
          has = ap (λ (k : Kept). k.thread.send) home_old ∙ row.goes.has;
          order = ap (λ (k : Kept). k.thread.order) home_old ∙ row.goes.order;
          quiet = t.quiet;
          agrees = subst (λ (k : Kept). Agrees m after.world k.thread) (sym home_old) (subst (λ u. Agrees m u (at_home m i before).thread) (sym t.world)
              (subst (λ c. Agrees m before.world (learns c (at_home m i before).clock (at_home m i before).thread)) content (taken_agrees m i before v p t)));
          elsewhere = λ c q ne. listed c q;
          foreign = λ away. record {
            r = r;
            to = row.goes.to ∙ ap Some which;
            at = at_r;
            stand_in = record {
              has = ap (λ (k : Kept). k.thread.send) new ∙ (λ d. Some (stand_in (is_receiver d) (says.message_is d) (says.zero_is d)));
              number = ap (λ (k : Kept). k.thread.context.begun) new ∙ says.number ∙ sym (ap (λ (k : Kept). k.thread.context.begun) home_old);
            };
          };
          no_other = λ c away ne. ap (λ (k : Kept). k.thread.send) (same c ne) ∙ ap (λ (f : ℕ → Kept). (f c).thread.send) t.kept ∙ row.unplaced.stand_in c away;
        };
      };
      free = λ q. sym (ap (λ l. (kept l i).listed q) (put_here cpu cpu y.local s.locals refl)) ∙ listed cpu q;
    }) at_r lt (row.goes.to ∙ ap Some which) (free send.to (row.goes.to ∙ ap Some which) (sym row.from) at_r)
