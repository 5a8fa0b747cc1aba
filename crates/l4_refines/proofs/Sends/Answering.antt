-- A send is decided on another processor than its sender's: the sender goes on when the letter comes.
use Rattle.std.proofs.Common.{◌≡◌, ℕ, ◌<◌, Some, None, List, [], ◌∷◌, ◌++◌, length, refl, ap, sym, ◌∙◌, subst, arith}
use Rattle.std.specs.Prelude.{not}
use Rattle.l4_model.specs.Machine.{Machine}
use Rattle.l4_model.specs.World.{Thread, World, Send, Name, change, unqueued, opening_thread}
use Rattle.l4_model.specs.Effects.{decided}
use Rattle.l4_model.specs.Reached.{Suits}
use Rattle.l4_core_model.specs.Plain as plain
use Rattle.l4_core_model.specs.Letters.{Result, DoneLetter}
use Rattle.l4_core_model.specs.Local.{declared, thread, last_name, changes, relists, readied, after_decision}
use Rattle.l4_core_model.specs.Acts.{Work, ◌▷◌, does, posts}
use Rattle.l4_core_model.specs.Runs.{Posted, posted, IsMachine}
use Rattle.l4_core_model.proofs.Changed.{get-changed}
use Rattle.l4_core_model.proofs.Apart.{same_or_apart}
use Rattle.l4_refines.proofs.Lists.{filter_last, filter_last_other}
use Rattle.l4_refines.proofs.Frames.Locals.{changes_here, unqueued_here}
use Rattle.l4_refines.proofs.Relation.Views.{Scene, Kept, View, kept, view, world_thread, home, amid, is_locator, notices, locators}
use Rattle.l4_refines.proofs.Relation.Rows.{seats, Agrees, IsDecided, IsKeptAtHome, Matches}
use Rattle.l4_refines.proofs.Relation.Relates.{IsSized, RelatesExcept}
use Rattle.l4_refines.proofs.Relation.Agreement.{ended_agrees}
use Rattle.l4_refines.proofs.Frames.Moves.{at_home, StaysTrue, IsAlike, same_alike, Moves, moves_kept, located_known}
use Rattle.l4_refines.proofs.Frames.Places.{first_about, takes_in, world_changes, local_changes, changes_spares}
use Rattle.l4_refines.proofs.Frames.Lists.{unqueues, put_here}
use Rattle.l4_refines.proofs.Frames.Mail.{letter_posted, mail_here}
use Rattle.l4_refines.proofs.Frames.Going.{put_other}
use Rattle.l4_refines.proofs.Sends.Deciding.{IsSendAt, sender_unready}

-- The event is on another processor than the home of the thread at a place.
pub record IsAway (m : Machine) (cpu : ℕ) (i : ℕ) : Type 0 where
  pub machine : IsMachine m
  pub processor : cpu < m.cpus
  pub within : i < length m.threads
  pub away : home m i ≡ cpu → ⊥

pub same_stays_true : (k : Kept) → StaysTrue k k
same_stays_true k = record { deleted = λ gone. gone; begun = omega arith; causes = λ cause same old. old }

-- The send leaves its list and its stand-in, and the letter is posted.
abbrev pub answers : Machine → (i : ℕ) → Result → Work → Work
answers m i result x =
    x ▷ does (relists (plain.unqueued i)) ▷ does (changes i decided) ▷ posts (home m i) (DoneLetter (last_name m x.local i) result)

pub decided_away : (m : Machine) (cpu i : ℕ) (except : List ℕ) (s : Scene) (w : World) (x : Work) (result : Result) (send : Send) (g : Thread → Thread) →
    IsAway m cpu i →
    IsSendAt m cpu i send (view m (amid cpu s x) w i) → g (world_thread w i) ≡ after_decision result (at_home m i (view m (amid cpu s x) w i)).clock (world_thread w i) →
    RelatesExcept m (Matches m) (i ∷ except) (amid cpu s x) w →
    RelatesExcept m (Matches m) except (amid cpu s (answers m i result x)) (change (unqueued w i) i g)
decided_away m cpu i except s w x result send g here at is rel =
    let v : View = view m (amid cpu s x) w i in
    let y : Work = x ▷ does (relists (plain.unqueued i)) in
    let z : Work = y ▷ does (changes i decided) in
    let name : Name = last_name m x.local i in
    let a : Work = z ▷ posts (home m i) (DoneLetter name result) in
    let u : World = unqueued w i in
    let after : View = view m (amid cpu s a) (change u i g) i in
    let p : Posted = posted cpu (home m i, record { stamp = x.local.stamp; content = DoneLetter name result }) in
    let placed = here.machine.placed i here.within in
    let foreign = at.foreign here.away in
    let in_world : i < length w.threads = omega (arith, rel.sized_world.threads, here.within) in
    let sized = subst (IsSized m) (put_here cpu cpu x.local s.locals refl) (rel.sized cpu here.processor) in
    let size : i < length x.local.threads = omega (arith, sized.threads, here.within) in
    let left = unqueues m cpu i (i ∷ except) s w x (first_about i except) at.elsewhere rel in
    let dropped = local_changes m cpu (i ∷ except) s u y (changes i decided)
    (changes_spares m i (i ∷ except) y.local decided (first_about i except)) refl left in
    let sent = letter_posted m cpu (home m i) i (DoneLetter name result) (i ∷ except) s u z placed refl (first_about i except) dropped in
    let relates = world_changes m i (i ∷ except) (amid cpu s a) u g (first_about i except) sent in
    let mail : after.mail ≡ v.mail ++ p ∷ [] = mail_here m cpu (home m i) i (DoneLetter name result) s u z placed in
    let locator : locators after.mail ≡ p ∷ [] =
    ap locators mail ∙ filter_last (λ (q : Posted). is_locator q.letter.content) v.mail p refl ∙ ap (λ ps. ps ++ p ∷ []) at.quiet in
    let others : notices after.mail ≡ notices v.mail = ap notices mail ∙ filter_last_other (λ (q : Posted). not (is_locator q.letter.content)) v.mail p refl in
    let old : v.kept cpu ≡ kept x.local i = ap (λ l. kept l i) (put_here cpu cpu x.local s.locals refl) in
    let new : after.kept cpu ≡ record (kept x.local i) { listed = λ q. []; thread = decided (thread x.local i) } =
    ap (λ l. kept l i) (put_here cpu cpu z.local s.locals refl) ∙ changes_here y.local i decided size
    ∙ ap (λ (k : Kept). record k { thread = decided (thread x.local i) }) (unqueued_here x.local i) in
    let same = λ (c : ℕ) (ne : cpu ≡ c → ⊥). put_other cpu c i x.local z.local s.locals ne in
    let home_same : at_home m i after ≡ at_home m i v = same (home m i) (λ h. here.away (sym h)) in
    let world : after.world ≡ g v.world = get-changed g w.threads i opening_thread in_world in
    let alike : (c : ℕ) → IsAlike (v.kept c) (after.kept c) = λ c. same_or_apart (IsAlike (v.kept c) (after.kept c)) cpu c
    (λ h. subst (λ c. IsAlike (v.kept c) (after.kept c)) h
    (subst (λ k. IsAlike k (after.kept cpu)) (sym old) (subst (IsAlike (kept x.local i)) (sym new) (record { ready = refl; armed = refl; phase = refl }))))
    (λ ne. same_alike (v.kept c) (after.kept c) (same c ne)) in
    let moves : Moves m i v after = record {
      elsewhere = λ c ne. alike c;
      notices = others;
      stays_true = subst (StaysTrue (at_home m i v)) (sym home_same) (same_stays_true (at_home m i v));
    } in
    let keeps = moves_kept m i v after at.kept moves (subst (IsKeptAtHome i) (sym home_same) at.kept.at_home) in
    let thread_same : (at_home m i after).thread ≡ (at_home m i v).thread = ap (λ (k : Kept). k.thread) home_same in
    let suits : Suits (at_home m i v).thread.phase (Some send) (at_home m i v).thread.order =
    subst (λ o. Suits (at_home m i v).thread.phase o (at_home m i v).thread.order) at.has at.kept.at_home.good.suits in
    let learns = ended_agrees result (at_home m i v).clock v.world (at_home m i v).thread send at.has suits at.agrees in
    let row : IsDecided m i (seats m i after) p name = record {
      goes = record {
        send = send;
        has = ap (λ (t : Thread). t.send) thread_same ∙ at.has;
        order = ap (λ (t : Thread). t.order) thread_same ∙ at.order;
        r = foreign.r;
        to = foreign.to;
        split = λ h. here.away (sym h ∙ foreign.at);
      };
      name = ap (λ k. record { thread = (declared m i).id; k = k })
          (sym (ap (λ (k : Kept). k.thread.context.begun) old) ∙ foreign.stand_in.number ∙ sym (ap (λ (t : Thread). t.context.begun) thread_same));
      from = sym foreign.at;
      to = refl;
      unplaced = record {
        listed = λ c q. same_or_apart ((after.kept c).listed q ≡ []) cpu c
            (λ h. subst (λ c. (after.kept c).listed q ≡ []) h (ap (λ (k : Kept). k.listed q) new))
            (λ ne. ap (λ (k : Kept). k.listed q) (same c ne) ∙ at.elsewhere c q ne);
        stand_in = λ c away. same_or_apart ((after.kept c).thread.send ≡ None) cpu c
            (λ h. subst (λ c. (after.kept c).thread.send ≡ None) h (ap (λ (k : Kept). k.thread.send) new))
            (λ ne. ap (λ (k : Kept). k.thread.send) (same c ne) ∙ at.no_other c away ne);
      };
    } in
    takes_in m i except (amid cpu s a) (change u i g) relates (record {
      known = located_known m i after p keeps locator row
          (subst (λ (k : Kept). Agrees m after.world (after_decision result k.clock k.thread)) (sym home_same)
          (subst (λ t. Agrees m t (after_decision result (at_home m i v).clock (at_home m i v).thread)) (sym (world ∙ is)) learns));
      ready = subst (λ (k : Kept). k.ready ≡ readied k.thread.phase i []) (sym home_same)
          (at.out ∙ sym (sender_unready i (at_home m i v).thread.phase send (at_home m i v).thread.order suits));
    })
