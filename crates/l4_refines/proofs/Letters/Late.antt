-- Letters that come late: a withdrawal, and that a thread is gone.
use Rattle.l4_model.specs.Still.{late}
use Rattle.l4_refines.proofs.Lists.{all_without, one_of}
use Rattle.std.proofs.Common.{◌≡◌, ℕ, ◌<◌, Bool, true, false, Some, List, [], ◌∷◌, ◌++◌, filter, length, refl, ap, sym, ◌∙◌, subst}
use Rattle.std.specs.Prelude.{not, IfSome}
use Rattle.std.specs.List.{AllByRecursion}
use Rattle.std.proofs.lemmas.Bool.{eqb-true}
use Rattle.std.proofs.lemmas.List.{append-nil}
use Rattle.std.proofs.lemmas.List.Elements.{filter-append}
use Rattle.l4_model.specs.Words.{GlobalId}
use Rattle.l4_model.specs.Machine.{Machine, place_of}
use Rattle.l4_model.specs.World.{World, Name, Owed}
use Rattle.l4_model.specs.Conditions.{has_passed}
use Rattle.l4_model.proofs.Chains.{bind_then, some_is, cond_keeps}
use Rattle.l4_core_model.specs.Plain as plain
use Rattle.l4_core_model.specs.Letters.{Cause, ByTimeout, ByCancel, ByDeletion, WithdrawLetter, Letter, refusal_of}
use Rattle.l4_core_model.specs.Local.{thread}
use Rattle.l4_core_model.specs.Acts.{Work, refuses}
use Rattle.l4_core_model.specs.Mail.{own_place, foreign_place, handled, waits_here}
use Rattle.l4_core_model.specs.Runs.{Posted, without_first}
use Rattle.l4_core_model.proofs.Standing.{place_within}
use Rattle.l4_core_model.proofs.Choosing.{both}
use Rattle.l4_core_model.proofs.Changed.{same_nat}
use Rattle.l4_refines.proofs.Relation.Views.{Scene, Kept, View, view, home, amid, subject, is_locator, notices, is_about, locators}
use Rattle.l4_refines.proofs.Relation.Rows.{seats, Agrees, learned, Row, IsCause, IsWithdrawal, IsNotice, IsNoticeOf, Matches}
use Rattle.l4_refines.proofs.Relation.Relates.{RelatesExcept, beside}
use Rattle.l4_refines.proofs.Relation.Owing.{Owing, retarget_in}
use Rattle.l4_refines.proofs.Frames.Places.{first_about, leaves_out, takes_in}
use Rattle.l4_refines.proofs.Frames.Mail.{letter_taken, other_taken, about_place, keeps_one, filter_skips}
use Rattle.l4_refines.proofs.Frames.Moves.{at_home}
use Rattle.l4_refines.proofs.Frames.Going.{Goes, opened_relates}
use Rattle.l4_refines.proofs.Sends.Finding.{held_is}
use Rattle.l4_refines.proofs.Turns.Ending.{IsListedSend, queued_here, refuses_timed_goes, cancels_goes, drops_goes}
use Rattle.l4_refines.proofs.Letters.Receiving.{without, IsLetter, at_work, foreign_place_is, kept_opened}

-- A late letter is taken out: what it says is true, and all else is as it was.

-- After a notice was taken out all is still related, and what it says is true.
pub record IsNoticed (m : Machine) (from cpu i : ℕ) (letter : Letter) (s : Scene) (w : World) (owed : List Owed) : Type 0 where
  pub relates : RelatesExcept m (Matches m) [] (amid cpu (without from cpu s) (at_work cpu letter s)) (record w { owed = owed })
  pub says : IsNotice m i (at_home m i (view m s w i)) (record { from = from; to = cpu; letter = letter })

pub noticed : (m : Machine) (from cpu i : ℕ) (letter : Letter) (s : Scene) (w : World) → IsLetter m from cpu letter s w → i < length m.threads →
    place_of m (subject letter.content) ≡ Some i → is_locator letter.content ≡ false → (owed : List Owed) →
    Owing m (beside s) (without_first from cpu s.mail) owed → IsNoticed m from cpu i letter s w owed
noticed m from cpu i letter s w h lt about late owed owing =
    let p : Posted = record { from = from; to = cpu; letter = letter } in
    let f = h.first in
    let mine : Posted → Bool = is_about m i in
    let locator : Posted → Bool = λ q. is_locator q.letter.content in
    let before : View = view m s w i in
    let after : View = view m (amid cpu (without from cpu s) (at_work cpu letter s)) w i in
    let matches = h.relates.places i lt tt in
    let here = about_place m i i p about ∙ same_nat i in
    let old : before.mail ≡ filter mine f.before ++ p ∷ filter mine f.after = ap (filter mine) f.is ∙ keeps_one mine f.before f.after p here in
    let new : after.mail ≡ filter mine f.before ++ filter mine f.after =
    ap (filter mine) (append-nil (without_first from cpu s.mail) ∙ f.left) ∙ filter-append mine f.before f.after in
    let same_words : locators after.mail ≡ locators before.mail =
    ap locators new ∙ sym (filter_skips locator (filter mine f.before) (filter mine f.after) p late) ∙ sym (ap locators old) in
    let old_notices : notices before.mail ≡ notices (filter mine f.before) ++ p ∷ notices (filter mine f.after) =
    ap notices old ∙ keeps_one (λ q. not (locator q)) (filter mine f.before) (filter mine f.after) p (rw late refl) in
    let new_notices : notices after.mail ≡ notices (filter mine f.before) ++ notices (filter mine f.after) =
    ap notices new ∙ filter-append (λ q. not (locator q)) (filter mine f.before) (filter mine f.after) in
    let k : Kept = at_home m i before in
    let was = subst (AllByRecursion (IsNotice m i k)) old_notices matches.known.kept.notices in
    let left : Matches m i (record before { mail = after.mail }) = record {
      known = record {
        agrees = subst (λ ps. Agrees m before.world (learned ps k.clock k.thread)) (sym same_words) matches.known.agrees;
        row = subst (λ ps. Row m i (seats m i before) ps k.thread.send) (sym same_words) matches.known.row;
        kept = record {
          at_home = matches.known.kept.at_home;
          elsewhere = matches.known.kept.elsewhere;
          notices = subst (AllByRecursion (IsNotice m i k)) (sym new_notices)
              (all_without (IsNotice m i k) (notices (filter mine f.before)) (notices (filter mine f.after)) p was);
        };
      };
      ready = matches.ready;
    } in
    let kept_same = λ (c : ℕ). kept_opened cpu letter.stamp i s c in
    record {
      relates = takes_in m i [] (amid cpu (without from cpu s) (at_work cpu letter s)) (record w { owed = owed })
          (opened_relates m cpu letter.stamp (i ∷ []) (without from cpu s) (record w { owed = owed })
          (letter_taken m from cpu i letter (i ∷ []) s w owed about (first_about i []) f owing (leaves_out m i [] s w h.relates)))
          (subst (Matches m i) (λ d. record { world = before.world; kept = λ c. sym (kept_same c) d; mail = after.mail }) left);
      says = one_of (IsNotice m i k) (notices (filter mine f.before)) (notices (filter mine f.after)) p was;
    }

-- A withdrawal

pub handles_withdraw : (m : Machine) (from cpu : ℕ) (letter : Letter) (s : Scene) (w : World) (x : Work) (name : Name) (receiver : GlobalId) (cause : Cause) →
    IsLetter m from cpu letter s w → letter.content ≡ WithdrawLetter name receiver cause →
    handled m cpu (WithdrawLetter name receiver cause) (at_work cpu letter s) ≡ Some x → Goes m cpu (without from cpu s) w [] x
handles_withdraw m from cpu letter s w x name receiver cause h content is =
    let y : Work = at_work cpu letter s in
    bind_then (own_place m cpu receiver) _ x is λ r own rest.
    bind_then (foreign_place m cpu name.thread) _ x rest λ i foreign rest.
    let at_i = foreign_place_is m cpu name.thread i foreign in
    let lt = place_within m name.thread i at_i.0 in
    let about : place_of m (subject letter.content) ≡ Some i = ap (λ c. place_of m (subject c)) content ∙ at_i.0 in
    let n = noticed m from cpu i letter s w h lt about (ap is_locator content) w.owed
    (other_taken m (beside s) from cpu letter s.mail w.owed h.first (ap retarget_in content) h.relates.owing) in
    let says : IsWithdrawal m i (at_home m i (view m s w i)).clock (at_home m i (view m s w i)).thread
    (record { from = from; to = cpu; letter = letter }) name receiver cause =
    subst (IsNoticeOf m i (at_home m i (view m s w i)) (record { from = from; to = cpu; letter = letter })) content n.says in
    let e : Goes m cpu (without from cpu s) w [] y = record { starts = h.starts; now = w; reaches = refl; relates = n.relates } in
    subst (Goes m cpu (without from cpu s) w []) (some_is _ x rest)
    (cond_keeps (Goes m cpu (without from cpu s) w []) (waits_here y.local i name.k) (refuses m cpu (refusal_of cause) i y) y
    (λ waits. let t = both (plain.is_queued y.local.lists i) _ waits in
    let k_same : at_home m i (view m (amid cpu (without from cpu s) y) w i) ≡ at_home m i (view m s w i) = kept_opened cpu letter.stamp i s (home m i) in
    withdrawn i lt (record { starts = h.starts; now = w; reaches = refl; relates = n.relates }) cause says (eqb-true (thread y.local i).context.begun name.k t.1) t.0)
    (λ other. e))
  where
    y : Work
    y = at_work cpu letter s

    withdrawn : (i : ℕ) → i < length m.threads → (e : Goes m cpu (without from cpu s) w [] y) → (cause : Cause) →
        IsWithdrawal m i (at_home m i (view m s w i)).clock (at_home m i (view m s w i)).thread
        (record { from = from; to = cpu; letter = letter }) name receiver cause →
        (thread y.local i).context.begun ≡ name.k → plain.is_queued y.local.lists i ≡ true →
        Goes m cpu (without from cpu s) w [] (refuses m cpu (refusal_of cause) i y)
    withdrawn i lt e cause says number queued =
        by cause (subst (λ o. IfSome o (IsCause cause (at_home m i v0).clock (at_home m i v0).thread)) has (says.true_cause number_is))
      where
        q : (r : ℕ) × IsListedSend m cpu r i (without from cpu s) w y
        q = queued_here m cpu i (without from cpu s) w y h.processor e h.machine lt queued

        l : IsListedSend m cpu q.0 i (without from cpu s) w y
        l = q.1

        v0 : View
        v0 = view m s w i

        v : View
        v = view m (amid cpu (without from cpu s) y) l.has.goes.now i

        same : at_home m i v ≡ at_home m i v0
        same = kept_opened cpu letter.stamp i s (home m i)

        has : (at_home m i v0).thread.send ≡ Some l.send
        has = sym (ap (λ (k : Kept). k.thread.send) same) ∙ l.has.at.has

        number_is : name.k ≡ (at_home m i v0).thread.context.begun
        number_is = sym number ∙ (held_is m cpu i l.send (without from cpu s) y l.has.goes.now l.has.at).begun_is
            ∙ ap (λ (k : Kept). k.thread.context.begun) same

        by : (c : Cause) → IsCause c (at_home m i v0).clock (at_home m i v0).thread l.send →
            Goes m cpu (without from cpu s) w [] (refuses m cpu (refusal_of c) i y)
        by ByTimeout why = refuses_timed_goes m cpu q.0 i (without from cpu s) w y l why.1
            (ap (λ (k : Kept). has_passed l.send.period l.send.since k.clock) same ∙ why.0)
        by ByCancel why = cancels_goes m cpu q.0 i (without from cpu s) w y l (ap (λ (k : Kept). k.thread.cancel_send) same ∙ why)
        by ByDeletion why = drops_goes m cpu q.0 i (without from cpu s) w y l (ap (λ (k : Kept). k.thread.phase) same ∙ why)
