-- A send begins: it is in hand, and is decided here or goes to its receiver's processor.
use Rattle.std.specs.List.{cons_option}
use Rattle.l4_refines.proofs.Sends.Free.{nowhere_free, own_free}
use Rattle.std.proofs.Common.{◌≡◌, ℕ, ◌+◌, ◌<◌, ◌≤◌, Bool, true, false, cond, Option, Some, None, [], ◌∷◌, ◌++◌, length, refl, ap, sym, ◌∙◌, subst, arith}
use Rattle.std.specs.Prelude.{◌==◌, not}
use Rattle.std.proofs.lemmas.Bool.{eqb-true}
use Rattle.l4_model.specs.Words.{NilThread}
use Rattle.l4_model.specs.Machine.{Machine}
use Rattle.l4_model.specs.World.{Thread, World, Send, Name, Sending, change, opening_thread}
use Rattle.l4_refines.proofs.Frames.Owes.{none_owed}
use Rattle.l4_model.specs.Conditions.{act_of, is_zero}
use Rattle.l4_model.specs.Steps.{Begin, send_of, next}
use Rattle.l4_model.specs.Effects.{begins}
use Rattle.l4_model.specs.Reached.{Suits}
use Rattle.l4_core_model.specs.Letters.{SendLetter}
use Rattle.l4_core_model.specs.Local.{declared, thread, owed_beside, held, is_own, destination_place, last_name, comes_to, Local}
use Rattle.l4_core_model.specs.Acts.{Work, ◌▷◌, tells, does, posts_send, arrives, send_goes_to, begins_send}
use Rattle.l4_core_model.specs.Runs.{Posted, posted}
use Rattle.l4_core_model.proofs.Changed.{same_nat, get-changed}
use Rattle.l4_core_model.proofs.Good.{begins_good}
use Rattle.l4_core_model.proofs.Standing.{destination_within}
use Rattle.l4_core_model.proofs.Apart.{apart}
use Rattle.l4_refines.proofs.Lists.{filter_last, filter_last_other}
use Rattle.l4_refines.proofs.Relation.Views.{Scene, Kept, View, kept, view, home, amid, is_locator, notices, locators}
use Rattle.l4_refines.proofs.Relation.Rows.{seats, Agrees, IsKeptAtHome, IsSent}
use Rattle.l4_refines.proofs.Relation.Agreement.{same_agrees}
use Rattle.l4_refines.proofs.Frames.Places.{first_about, takes_in}
use Rattle.l4_refines.proofs.Frames.Mail.{letter_posted, mail_here}
use Rattle.l4_refines.proofs.Frames.Moves.{at_home, StaysTrue, same_alike, Moves, moves_kept, located_known, come_kept, ready_is_alive}
use Rattle.l4_refines.proofs.Frames.Going.{Goes, one_more_told, home_is, sized_here, comes, now_facts, put_home}
use Rattle.l4_refines.proofs.Turns.Instructions.{IsPicked, running_is, running_found}
use Rattle.l4_refines.proofs.Sends.Deciding.{sender_unready}
use Rattle.l4_refines.proofs.Sends.Refusing.{nowhere_goes}
use Rattle.l4_refines.proofs.Sends.Queueing.{IsInHand, none_listed}
use Rattle.l4_refines.proofs.Sends.Delivering.{arrives_goes}

abbrev begun : Machine → ℕ → Send → Work → Work
begun m i send x = x ▷ does (comes_to i (begins send)) ▷ tells (Begin (last_name m (comes_to i (begins send) x.local) i))

begin_goes : (m : Machine) (cpu i : ℕ) (s : Scene) (w : World) (x : Work) (send : Send) → cpu < m.cpus → (e : Goes m cpu s w (i ∷ []) x) →
    IsPicked m cpu i s x e.now → send_of (act_of m (held m x.local i)) ≡ Some send → send.since ≡ x.local.clock →
    IsInHand m cpu i s w (begun m i send x) send
begin_goes m cpu i s w x send processor e r sends since =
    let now = e.now in
    let f : Thread → Thread = begins send in
    let y : Work = x ▷ does (comes_to i f) in
    let u : World = change now i f in
    let v : View = view m (amid cpu s x) now i in
    let after : View = view m (amid cpu s y) u i in
    let k : Kept = kept x.local i in
    let found_now = running_found m cpu i s w x e r in
    let running = running_is m cpu i s x now r in
    let z = sized_here m cpu i (i ∷ []) s now x r.here e.relates in
    let size : i < length x.local.threads = omega (arith, z.threads, r.here.within) in
    let c = comes m cpu i [] s now x f f r.here e.relates in
    let was = home_is m cpu i s x now r.here.home in
    let ready = r.ready in
    let next_k = ap (λ (t : Thread). t.context.begun) (get-changed f x.local.threads i opening_thread size) in
    let same = same_nat ((thread x.local i).context.begun + 1) in
    let possible : next m now (Begin (last_name m y.local i)) ≡ Some u = rw (found_now, ready, next_k, same, sends) refl in
    let low : send.since ≤ x.local.clock = omega arith in
    let good = begins_good x.local.clock send (thread x.local i) ready low running.good in
    let moves : Moves m i v after = record {
      elsewhere = λ p ne. same_alike (v.kept p) (after.kept p) (c.elsewhere p ne);
      notices = refl;
      stays_true = subst (λ a. StaysTrue a (at_home m i after)) (sym was) (subst (StaysTrue k) (sym c.here) (record {
        deleted = λ gone. ready_is_alive (thread x.local i).phase gone ready;
        begun = omega arith;
        causes = λ cause same old. absurd (omega arith);
      }));
    } in
    record {
      has = record {
        machine = r.here.machine;
        processor = processor;
        within = r.here.within;
        goes = record { starts = e.starts; now = u; reaches = one_more_told m w now u x.steps (Begin (last_name m y.local i)) e.reaches possible; relates = c.relates };
        at = record {
          kept = moves_kept m i v after r.known.kept moves (subst (IsKeptAtHome i) (sym c.here) (come_kept i f k good since (none_owed Sending (owed_beside x.local i) r.nothing_owed)));
          out = ap (λ (k : Kept). k.ready) c.here ∙ r.out;
          has = ap (λ (k : Kept). k.thread.send) c.here;
          order = ap (λ (k : Kept). k.thread.order) c.here ∙ running.order;
          quiet = running.free.quiet;
          agrees = subst (λ (a : Kept). Agrees m after.world a.thread) (sym c.here)
              (same_agrees after.world (f (thread x.local i)) (c.world ∙ ap f running.same));
          elsewhere = λ p q ne. ap (λ (k : Kept). k.listed q) (c.elsewhere p (λ h. ne (sym (h ∙ r.here.home)))) ∙ running.free.unplaced.listed p q;
          foreign = λ away. absurd (away r.here.home);
          no_other = λ p away ne. ap (λ (k : Kept). k.thread.send) (c.elsewhere p away) ∙ running.free.unplaced.stand_in p away;
        };
      };
      free = λ q. sym (ap (λ (k : Kept). k.listed q) (home_is m cpu i s y u r.here.home)) ∙ ap (λ (k : Kept). k.listed q) c.here
          ∙ sym (ap (λ (k : Kept). k.listed q) was) ∙ running.free.unplaced.listed (home m i) q;
    }

-- It goes to another processor.
posted_goes : (m : Machine) (cpu i r : ℕ) (s : Scene) (w : World) (x : Work) (send : Send) → IsInHand m cpu i s w x send → home m i ≡ cpu →
    destination_place m send.to ≡ Some r → (home m r ≡ cpu → ⊥) → Goes m cpu s w [] (posts_send m r i send x)
posted_goes m cpu i r s w x send h here to away =
    let e = h.has.goes in
    let at = h.has.at in
    let name : Name = last_name m x.local i in
    let a : Work = posts_send m r i send x in
    let v : View = view m (amid cpu s x) e.now i in
    let after : View = view m (amid cpu s a) e.now i in
    let p : Posted = posted cpu (home m r, record { stamp = x.local.stamp; content = SendLetter name (declared m r).id send.message (is_zero send.period) }) in
    let placed = h.has.machine.placed i h.has.within in
    let mail : after.mail ≡ v.mail ++ p ∷ [] =
    mail_here m cpu (home m r) i (SendLetter name (declared m r).id send.message (is_zero send.period)) s e.now x placed in
    let locator : locators after.mail ≡ p ∷ [] =
    ap locators mail ∙ filter_last (λ (q : Posted). is_locator q.letter.content) v.mail p refl ∙ ap (λ ps. ps ++ p ∷ []) at.quiet in
    let others : notices after.mail ≡ notices v.mail = ap notices mail ∙ filter_last_other (λ (q : Posted). not (is_locator q.letter.content)) v.mail p refl in
    let was = home_is m cpu i s x e.now here in
    let moves : Moves m i v after = record {
      elsewhere = λ c ne. same_alike (v.kept c) (after.kept c) refl;
      notices = others;
      stays_true = record { deleted = λ gone. gone; begun = omega arith; causes = λ cause same old. old };
    } in
    let keeps = moves_kept m i v after at.kept moves at.kept.at_home in
    let suits : Suits (at_home m i v).thread.phase (Some send) (at_home m i v).thread.order =
    subst (λ o. Suits (at_home m i v).thread.phase o (at_home m i v).thread.order) at.has at.kept.at_home.good.suits in
    let row : IsSent m i (seats m i after) p = record {
      goes = record { send = send; has = at.has; order = at.order; r = r; to = to; split = λ same. away (same ∙ here) };
      letter = ap (λ k. SendLetter (record { thread = (declared m i).id; k = k }) (declared m r).id send.message (is_zero send.period))
          (sym (ap (λ (k : Kept). k.thread.context.begun) was));
      from = sym here;
      to = refl;
      unplaced = record { listed = λ c q. none_listed m cpu i s w x send h c q; stand_in = λ c ne. at.no_other c ne (λ same. ne (sym (here ∙ same))) };
    } in
    record {
      starts = e.starts;
      now = e.now;
      reaches = e.reaches;
      relates = takes_in m i [] (amid cpu s a) e.now
          (letter_posted m cpu (home m r) i (SendLetter name (declared m r).id send.message (is_zero send.period)) (i ∷ []) s e.now x placed
          refl (first_about i []) e.relates)
          (record {
            known = located_known m i after p keeps locator row at.agrees;
            ready = at.out ∙ sym (sender_unready i (at_home m i v).thread.phase send (at_home m i v).thread.order suits);
          });
    }

-- An instruction that sends
pub begins_send_goes : (m : Machine) (cpu i : ℕ) (s : Scene) (w : World) (x : Work) (send : Send) → cpu < m.cpus → (e : Goes m cpu s w (i ∷ []) x) →
    IsPicked m cpu i s x e.now → send_of (act_of m (held m x.local i)) ≡ Some send → send.since ≡ x.local.clock → (send.to ≡ NilThread → ⊥) →
    Goes m cpu s w [] (begins_send m cpu i send x)
begins_send_goes m cpu i s w x send processor e r sends since not_nil = by (destination_place m send.to) refl
  where
    hand : IsInHand m cpu i s w (begun m i send x) send
    hand = begin_goes m cpu i s w x send processor e r sends since

    by : (o : Option ℕ) → destination_place m send.to ≡ o → Goes m cpu s w [] (send_goes_to m cpu i send o (begun m i send x))
    by None to = nowhere_goes m cpu i s w (begun m i send x) send hand.has
        (nowhere_free m (declared m i).id send.to hand.has.goes.now.owed to
        (now_facts m cpu s w (i ∷ []) (begun m i send x) hand.has.goes).owed_among) to not_nil
    by (Some q) to = split (is_own m cpu q) refl
      where
        split : (b : Bool) → (home m q == cpu) ≡ b →
            Goes m cpu s w [] (cond b (arrives m cpu q i (begun m i send x)) (posts_send m q i send (begun m i send x)))
        split true own = arrives_goes m cpu i q s w (begun m i send x) send hand (eqb-true (home m q) cpu own) (destination_within m send.to q to) to
            (own_free m i q send.to hand.has.goes.now.owed (r.here.machine.placed i r.here.within) to (eqb-true (home m q) cpu own ∙ sym r.here.home)
            (hand.has.goes.relates.owing.kept i r.here.within ∙ ap (λ o. cons_option o [])
            (ap (λ (l : Local). owed_beside l i) (put_home m cpu i s (begun m i send x).local r.here.home) ∙ r.nothing_owed)))
        split false other = posted_goes m cpu i q s w (begun m i send x) send hand r.here.home to (apart (home m q) cpu other)
