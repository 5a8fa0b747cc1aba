-- A retarget is done: as a duty of the new partner's thread, or by a letter.
use Rattle.std.proofs.Common.{◌≡◌, ℕ, ◌<◌, true, Option, Some, None, List, [], ◌∷◌, ◌++◌, filter, length, refl, ap, sym, ◌∙◌, subst}
use Rattle.std.specs.Prelude.{is_some}
use Rattle.std.specs.List.{AllByRecursion, cons_option}
use Rattle.std.proofs.lemmas.Bool.{eqb-true}
use Rattle.l4_model.specs.Options.{if_some}
use Rattle.l4_model.specs.Machine.{Machine, place_of, is_place, is_declared}
use Rattle.l4_model.specs.World.{World, Owed, change, owed_of, others_owed}
use Rattle.l4_model.specs.Effects.{turns}
use Rattle.l4_model.specs.Steps.{Retarget, next}
use Rattle.l4_model.specs.Reached.{IsOwedAmong, WorldFacts}
use Rattle.l4_model.proofs.Chains.{bind_then, guard_then, some_is}
use Rattle.l4_model.proofs.Places.{and_true}
use Rattle.l4_core_model.specs.Letters.{RetargetLetter, Letter}
use Rattle.l4_core_model.specs.Local.{Local, owed_beside, keeps_beside}
use Rattle.l4_core_model.specs.Acts.{Work, ◌▷◌, does, retargets}
use Rattle.l4_core_model.specs.Mail.{own_place, foreign_place, handled}
use Rattle.l4_core_model.specs.Runs.{Posted, IsMachine, without_first}
use Rattle.l4_core_model.proofs.Standing.{place_within}
use Rattle.l4_refines.proofs.Lists.{one_of}
use Rattle.l4_refines.proofs.Relation.Views.{Scene, home, amid, subject, is_locator}
use Rattle.l4_refines.proofs.Relation.Rows.{Matches}
use Rattle.l4_refines.proofs.Relation.Owing.{home_of, is_at_one, goes_away, is_beside, retarget_in, retargets_in, Owing}
use Rattle.l4_refines.proofs.Relation.Relates.{RelatesExcept, beside}
use Rattle.l4_refines.proofs.Frames.Places.{leaves_out}
use Rattle.l4_refines.proofs.Frames.Lists.{put_here}
use Rattle.l4_refines.proofs.Frames.Going.{Goes, IsHere, one_more_told, put_home, now_facts}
use Rattle.l4_refines.proofs.Sends.Finding.{found_at_is}
use Rattle.l4_refines.proofs.Letters.Receiving.{without, IsLetter, at_work, own_place_is, foreign_place_is}
use Rattle.l4_refines.proofs.Letters.Late.{noticed}
use Rattle.l4_refines.proofs.Retargets.Others.{IsAmong, only_among, among_all, found_among}
use Rattle.l4_refines.proofs.Retargets.Owes.{beside_changes, owing_done, owing_received, letters_stand, at_place}
use Rattle.l4_refines.proofs.Retargets.Turning.{turns_relates}
use Rattle.l4_model.proofs.Worlds.{reached_facts}

-- What is true of all that are owed is true of it.
all_among : (P : Owed → Type 0) (o : Owed) (owed : List Owed) → IsAmong o owed → AllByRecursion P owed → P o
all_among P o owed h all = one_of P h.before h.after o (subst (AllByRecursion P) h.is all)

-- The originator turns in the world.
turn_possible : (m : Machine) (j : ℕ) (o : Owed) (s : Scene) (w : World) → IsMachine m → RelatesExcept m (Matches m) [] s w → j < length m.threads →
    place_of m o.originator ≡ Some j → owed_of w.owed o.send ≡ Some o →
    next m w (Retarget o.send) ≡ Some (change (record w { owed = others_owed w.owed o.send }) j (turns o))
turn_possible m j o s w machine rel lt at found =
    let there = found_at_is m j [] s w machine lt rel in
    rw (found, at, there) refl

-- The retarget that is kept beside a thread of this processor is done.
pub duty_retargets_goes : (m : Machine) (cpu r : ℕ) (o : Owed) (s : Scene) (w : World) (x : Work) → IsHere m cpu r → cpu < m.cpus → Goes m cpu s w [] x →
    owed_beside x.local r ≡ Some o → Goes m cpu s w [] (x ▷ does (keeps_beside r None) ▷ if_some (retargets o) (place_of m o.originator))
duty_retargets_goes m cpu r o s w x here processor e has = by (place_of m o.originator) refl declared
  where
    facts : WorldFacts m e.now
    facts = now_facts m cpu s w [] x e

    alone : filter (is_beside m r) e.now.owed ≡ o ∷ []
    alone = e.relates.owing.kept r here.within
        ∙ ap (λ o. cons_option o []) (ap (λ (l : Local). owed_beside l r) (put_home m cpu r s x.local here.home) ∙ has)

    among : IsAmong o e.now.owed × (is_beside m r o ≡ true)
    among = among_all (is_beside m r) o e.now.owed (only_among o (filter (is_beside m r) e.now.owed) alone)

    tests : (is_place (place_of m o.new_partner) r ≡ true) × (is_at_one m o ≡ true)
    tests = and_true (is_place (place_of m o.new_partner) r) (is_at_one m o) among.1

    there : place_of m o.new_partner ≡ Some r
    there = at_place m o r tests.0

    declared : is_some (place_of m o.originator) ≡ true
    declared = (all_among (IsOwedAmong m) o e.now.owed among.0 facts.owed_among).originator

    size : length x.local.owed ≡ length m.threads
    size = ap (λ (l : Local). length l.owed) (sym (put_here cpu cpu x.local s.locals refl)) ∙ e.relates.owing.sized cpu processor

    by : (p : Option ℕ) → place_of m o.originator ≡ p → is_some p ≡ true → Goes m cpu s w [] (x ▷ does (keeps_beside r None) ▷ if_some (retargets o) p)
    by None at some = cc
    by (Some j) at some =
        let lt = place_within m o.originator j at in
        let same : home_of m o.originator ≡ home_of m o.new_partner = eqb-true (home_of m o.originator) (home_of m o.new_partner) tests.1 in
        let first : home_of m o.originator ≡ home m j = rw at refl in
        let second : home_of m o.new_partner ≡ home m r = rw there refl in
        let here_j : IsHere m cpu j = record { machine = here.machine; within = lt; home = sym first ∙ same ∙ second ∙ here.home } in
        let y : Work = x ▷ does (keeps_beside r None) in
        let u : World = record e.now { owed = others_owed e.now.owed o.send } in
        let rel = beside_changes m cpu r None u.owed s e.now x here tt
        (owing_done m cpu r o e.now.owed s x here size facts.owed_once among.0 alone there tests.1 e.relates.owing) size e.relates in
        record {
          starts = e.starts;
          now = change u j (turns o);
          reaches = one_more_told m w e.now (change u j (turns o)) x.steps (Retarget o.send) e.reaches
              (turn_possible m j o (amid cpu s x) e.now here.machine e.relates lt at (found_among o e.now.owed facts.owed_once among.0));
          relates = turns_relates m cpu j o [] s u y here_j (rel.places j lt tt) (leaves_out m j [] (amid cpu s y) u rel);
        }

some_place : {P : Type 0} (p : Option ℕ) → is_some p ≡ true → ((r : ℕ) → p ≡ Some r → P) → P
some_place None h then = cc
some_place (Some r) h then = then r refl

-- The letter of one is handled.
pub handles_retarget : (m : Machine) (from cpu : ℕ) (letter : Letter) (s : Scene) (w : World) (x : Work) (o : Owed) → IsLetter m from cpu letter s w →
    letter.content ≡ RetargetLetter o → handled m cpu (RetargetLetter o) (at_work cpu letter s) ≡ Some x → Goes m cpu (without from cpu s) w [] x
handles_retarget m from cpu letter s w x o h content is =
    guard_then m.retargeting _ x is λ profile rest.
    bind_then (own_place m cpu o.originator) _ x rest λ j own rest.
    guard_then (is_declared m o.old_partner) _ x rest λ old rest.
    guard_then (is_some (foreign_place m cpu o.new_partner)) _ x rest λ foreign rest.
    some_place (foreign_place m cpu o.new_partner) foreign λ r foreign.
    let y : Work = at_work cpu letter s in
    let p : Posted = record { from = from; to = cpu; letter = letter } in
    let at_j = own_place_is m cpu o.originator j own in
    let at_r = foreign_place_is m cpu o.new_partner r foreign in
    let lt_j = place_within m o.originator j at_j.0 in
    let about : place_of m (subject letter.content) ≡ Some j = ap (λ c. place_of m (subject c)) content ∙ at_j.0 in
    let facts = reached_facts m h.starts.history w h.starts.is in
    let f = h.first in
    let retarget : retarget_in letter.content ≡ Some o = ap retarget_in content in
    let owing : Owing m (beside s) (f.before ++ p ∷ f.after) w.owed = subst (λ ps. Owing m (beside s) ps w.owed) f.is h.relates.owing in
    let stands = letters_stand m (beside s) f.before f.after w.owed p o retarget owing in
    let among = among_all (goes_away m) o w.owed (record { before = retargets_in f.before; after = retargets_in f.after; is = stands }) in
    let left : Owing m (beside s) (without_first from cpu s.mail) (others_owed w.owed o.send) =
    subst (λ ps. Owing m (beside s) ps (others_owed w.owed o.send)) (sym f.left)
    (owing_received m (beside s) f.before f.after w.owed p o retarget facts.owed_once owing) in
    let n = noticed m from cpu j letter s w h lt_j about (ap is_locator content) (others_owed w.owed o.send) left in
    let u : World = record w { owed = others_owed w.owed o.send } in
    let rel = n.relates in
    subst (Goes m cpu (without from cpu s) w []) (some_is _ x rest) (record {
      starts = h.starts;
      now = change u j (turns o);
      reaches = one_more_told m w w (change u j (turns o)) [] (Retarget o.send) refl
          (turn_possible m j o s w h.machine h.relates lt_j at_j.0 (found_among o w.owed facts.owed_once among.0));
      relates = turns_relates m cpu j o [] (without from cpu s) u y (record { machine = h.machine; within = lt_j; home = at_j.1 }) (rel.places j lt_j tt)
          (leaves_out m j [] (amid cpu (without from cpu s) y) u rel);
    })
