-- A deletion is told to other processors.
use Rattle.std.proofs.Common.{◌≡◌, ℕ, ◌+◌, ◌<◌, Bool, true, false, cond, Some, [], ◌∷◌, length, refl, ap, sym, ◌∙◌, subst, arith}
use Rattle.std.specs.Prelude.{◌==◌, slice_index_or}
use Rattle.std.specs.List.{AllByRecursion}
use Rattle.l4_model.specs.Words.{GlobalId}
use Rattle.l4_model.specs.Machine.{Machine, place_of}
use Rattle.l4_model.specs.World.{World, Deleted, is_deleted}
use Rattle.l4_model.proofs.Chains.{bind_then, some_is}
use Rattle.l4_core_model.specs.Letters.{GoneLetter, Letter}
use Rattle.l4_core_model.specs.Local.{Local, declared, thread, changes, readied, is_gone_now}
use Rattle.l4_core_model.specs.Acts.{Work, ◌▷◌, does, posts}
use Rattle.l4_core_model.specs.Turns.{next_untold, has_told}
use Rattle.l4_core_model.specs.Mail.{foreign_place, handled}
use Rattle.l4_core_model.proofs.Standing.{place_within}
use Rattle.l4_core_model.proofs.Changed.{length-changed}
use Rattle.l4_core_model.proofs.Choosing.{next_elsewhere}
use Rattle.l4_core_model.proofs.Apart.{same_or_apart}
use Rattle.l4_refines.proofs.Lists.{get_other_place}
use Rattle.l4_refines.proofs.Relation.Views.{Scene, Kept, View, kept, view, home, put, amid, subject, is_locator, notices, locators}
use Rattle.l4_refines.proofs.Relation.Rows.{seats, Agrees, learned, Row, IsKeptAtHome, IsNotice, IsNoticeOf, Matches, Seats}
use Rattle.l4_refines.proofs.Relation.Relates.{IsSized, RelatesExcept, beside}
use Rattle.l4_refines.proofs.Relation.Owing.{retarget_in}
use Rattle.l4_refines.proofs.Frames.Mail.{other_taken}
use Rattle.l4_refines.proofs.Frames.Places.{first_about, leaves_out, takes_in, Spares, local_changes, changes_spares}
use Rattle.l4_refines.proofs.Frames.Lists.{put_here}
use Rattle.l4_refines.proofs.Frames.Moves.{at_home, deleted_phase}
use Rattle.l4_refines.proofs.Frames.Going.{Goes, IsHere, home_is, put_other}
use Rattle.l4_refines.proofs.Letters.Noticing.{notice_goes}
use Rattle.l4_refines.proofs.Letters.Receiving.{without, IsLetter, at_work, foreign_place_is, kept_opened}
use Rattle.l4_refines.proofs.Frames.Locals.{changes_here}
use Rattle.l4_refines.proofs.Letters.Late.{noticed}

-- A processor takes it down: of an entry elsewhere only the phase changes.
record IsMarked (k after : Kept) : Type 0 where
  pub sent : after.thread.send ≡ k.thread.send
  pub begun : after.thread.context.begun ≡ k.thread.context.begun
  pub listed : after.listed ≡ k.listed
  pub ready : after.ready ≡ k.ready
  pub armed : after.armed ≡ k.armed

marked_matches : (m : Machine) (i : ℕ) (v after : View) → ((c : ℕ) → IsMarked (v.kept c) (after.kept c)) → at_home m i after ≡ at_home m i v →
    after.world ≡ v.world → after.mail ≡ v.mail → (at_home m i v).thread.phase ≡ Deleted → Matches m i v → Matches m i after
marked_matches m i v after marked same world mail gone h =
    let now : View = record v { kept = after.kept } in
    let k : Kept = at_home m i v in
    let order = ap (λ (k : Kept). k.thread.order) (sym same) in
    let seats_same : seats m i v ≡ seats m i now = λ d. record {
      order = order d;
      sent = λ c. sym (marked c).sent d;
      begun = λ c. sym (marked c).begun d;
      listed = λ c. sym (marked c).listed d;
    } in
    let with_home : (P : Kept → Type 0) → P k → P (at_home m i after) = λ P p. subst P (sym same) p in
    let matches : Matches m i now = record {
      known = record {
        agrees = with_home (λ k. Agrees m v.world (learned (locators v.mail) k.clock k.thread)) h.known.agrees;
        row = subst (λ (s : Seats). Row m i s (locators v.mail) (s.sent (home m i))) seats_same h.known.row;
        kept = record {
          at_home = with_home (IsKeptAtHome i) h.known.kept.at_home;
          elsewhere = λ c ne. let e = h.known.kept.elsewhere c ne in record {
            ready = (marked c).ready ∙ e.ready;
            armed = (marked c).armed ∙ e.armed;
            gone = λ is. ap (λ (k : Kept). is_deleted k.thread.phase) same ∙ ap is_deleted gone;
          };
          notices = with_home (λ k. AllByRecursion (IsNotice m i k) (notices v.mail)) h.known.kept.notices;
        };
      };
      ready = with_home (λ k. k.ready ≡ readied k.thread.phase i []) h.ready;
    } in
    subst (Matches m i) (λ d. record { world = sym world d; kept = after.kept; mail = sym mail d }) matches

-- A processor hears that a thread of another one is gone.
pub handles_gone : (m : Machine) (from cpu : ℕ) (letter : Letter) (s : Scene) (w : World) (x : Work) (id : GlobalId) → IsLetter m from cpu letter s w →
    letter.content ≡ GoneLetter id →
    handled m cpu (GoneLetter id) (at_work cpu letter s) ≡ Some x → Goes m cpu (without from cpu s) w [] x
handles_gone m from cpu letter s w x id h content is =
    bind_then (foreign_place m cpu id) _ x is λ i foreign rest.
    let at_i = foreign_place_is m cpu id i foreign in
    let lt = place_within m id i at_i.0 in
    let about : place_of m (subject letter.content) ≡ Some i = ap (λ c. place_of m (subject c)) content ∙ at_i.0 in
    let n = noticed m from cpu i letter s w h lt about (ap is_locator content) w.owed
    (other_taken m (beside s) from cpu letter s.mail w.owed h.first (ap retarget_in content) h.relates.owing) in
    let says = subst (IsNoticeOf m i (at_home m i (view m s w i)) (record { from = from; to = cpu; letter = letter })) content n.says in
    subst (Goes m cpu (without from cpu s) w []) (some_is _ x rest) (record { starts = h.starts; now = w; reaches = refl; relates = marked i lt at_i.1 n.relates says.0 })
  where
    y : Work
    y = at_work cpu letter s

    scene_now : Scene
    scene_now = without from cpu s

    marked : (i : ℕ) → i < length m.threads → (home m i ≡ cpu → ⊥) → RelatesExcept m (Matches m) [] (amid cpu scene_now y) w →
        (at_home m i (view m s w i)).thread.phase ≡ Deleted → RelatesExcept m (Matches m) [] (amid cpu scene_now (y ▷ does (changes i is_gone_now))) w
    marked i lt away rel gone =
        let z : Work = y ▷ does (changes i is_gone_now) in
        let v : View = view m (amid cpu scene_now y) w i in
        let after : View = view m (amid cpu scene_now z) w i in
        let sized = subst (IsSized m) (put_here cpu cpu y.local s.locals refl) (rel.sized cpu h.processor) in
        let size : i < length y.local.threads = omega (arith, sized.threads) in
        let old : v.kept cpu ≡ kept y.local i = ap (λ l. kept l i) (put_here cpu cpu y.local s.locals refl) in
        let new : after.kept cpu ≡ record (kept y.local i) { thread = is_gone_now (thread y.local i) } =
        ap (λ l. kept l i) (put_here cpu cpu z.local s.locals refl) ∙ changes_here y.local i is_gone_now size in
        let other = λ (c : ℕ) (ne : cpu ≡ c → ⊥). put_other cpu c i y.local z.local s.locals ne in
        let all : (c : ℕ) → IsMarked (v.kept c) (after.kept c) = λ c. same_or_apart (IsMarked (v.kept c) (after.kept c)) cpu c
        (λ e. subst (λ c. IsMarked (v.kept c) (after.kept c)) e
        (subst (λ k. IsMarked k (after.kept cpu)) (sym old)
        (subst (IsMarked (kept y.local i)) (sym new) (record { sent = refl; begun = refl; listed = refl; ready = refl; armed = refl }))))
        (λ ne. subst (IsMarked (v.kept c)) (sym (other c ne)) (record { sent = refl; begun = refl; listed = refl; ready = refl; armed = refl })) in
        takes_in m i [] (amid cpu scene_now z) w
        (local_changes m cpu (i ∷ []) scene_now w y (changes i is_gone_now) (changes_spares m i (i ∷ []) y.local is_gone_now (first_about i [])) refl
        (leaves_out m i [] (amid cpu scene_now y) w rel))
        (marked_matches m i v after all (other (home m i) (λ e. away (sym e))) refl refl
        (ap (λ (k : Kept). k.thread.phase) (kept_opened cpu letter.stamp i s (home m i)) ∙ gone) (rel.places i lt tt))

-- It is told to one more.

told_spares : (m : Machine) (to i : ℕ) (l : Local) → Spares m (i ∷ []) l (has_told to i l)
told_spares m to i l = record {
  sized = λ z. record {
    threads = z.threads;
    lists = z.lists;
    told = length-changed (λ n. to + 1) l.told i ∙ z.told;
    ready = z.ready;
    armed = z.armed;
    listed = z.listed;
  };
  clock = refl;
  owed = refl;
  kept = λ j out. ap (λ n. record (kept l j) { told = n }) (get_other_place (λ n. to + 1) l.told i j 0 (λ e. out.0 (sym e)));
}

-- Nothing is said of who was told.

abbrev with_told : (ℕ → ℕ) → View → View
with_told told v = record v { kept = λ cpu. record (v.kept cpu) { told = told cpu } }

matches_with_told : (m : Machine) (i : ℕ) (told : ℕ → ℕ) (v : View) → Matches m i v → Matches m i (with_told told v)
matches_with_told m i told v h = record {
  known = record {
    agrees = h.known.agrees;
    row = h.known.row;
    kept = record {
      at_home = h.known.kept.at_home;
      elsewhere = h.known.kept.elsewhere;
      notices = h.known.kept.notices;
    };
  };
  ready = h.ready;
}

-- The home of a deleted thread tells one processor more.
pub tells_gone_goes : (m : Machine) (cpu to i : ℕ) (s : Scene) (w : World) (x : Work) → IsHere m cpu i → cpu < m.cpus → Goes m cpu s w [] x →
    is_deleted (thread x.local i).phase ≡ true → next_untold m cpu (slice_index_or x.local.told i 0) ≡ Some to →
    Goes m cpu s w [] (x ▷ does (has_told to i) ▷ posts to (GoneLetter (declared m i).id))
tells_gone_goes m cpu to i s w x here processor e gone untold =
    let y : Work = x ▷ does (has_told to i) in
    let v : View = view m (amid cpu s y) e.now i in
    let rel = takes_in m i [] (amid cpu s y) e.now
    (local_changes m cpu (i ∷ []) s e.now x (has_told to i) (told_spares m to i x.local) refl (leaves_out m i [] (amid cpu s x) e.now e.relates))
    (subst (Matches m i) (sym seen)
    (matches_with_told m i (λ c. (kept (put cpu (has_told to i x.local) s.locals c) i).told) (view m (amid cpu s x) e.now i)
    (e.relates.places i here.within tt))) in
    let was : at_home m i v ≡ kept y.local i = home_is m cpu i s y e.now here.home in
    notice_goes m cpu to i (GoneLetter (declared m i).id) s w y (record { starts = e.starts; now = e.now; reaches = e.reaches; relates = rel }) here.within
    (here.machine.placed i here.within) refl refl (
      ap (λ (k : Kept). k.thread.phase) was
          ∙ deleted_phase (thread x.local i).phase gone,
      λ h. (next_elsewhere m cpu (slice_index_or x.local.told i 0) to untold).1 (h ∙ here.home),
    )
  where
    seen_at : (c : ℕ) (b : Bool) →
        kept (cond b (has_told to i x.local) (s.locals c)) i ≡ record
        (kept (cond b x.local (s.locals c)) i) { told = (kept (cond b (has_told to i x.local) (s.locals c)) i).told }
    seen_at c true = refl
    seen_at c false = refl

    seen : view m (amid cpu s (x ▷ does (has_told to i))) e.now i ≡ with_told (λ c. (kept (put cpu (has_told to i x.local) s.locals c) i).told)
        (view m (amid cpu s x) e.now i)
    seen = λ d. record (view m (amid cpu s x) e.now i) { kept = λ c. seen_at c (cpu == c) d }
