-- What the threads of a core run say of a letter under way.
use Rattle.std.proofs.Common.{◌≡◌, ℕ, ◌<◌, Bool, true, false, cond, Option, Some, None, List, [], ◌∷◌, ◌++◌, map, filter, length, refl, ap, sym, ◌∙◌, subst, append_assoc}
use Rattle.std.specs.Prelude.{not, ◌==◌}
use Rattle.std.specs.List.{AllByRecursion, cons_option}
use Rattle.std.proofs.lemmas.Bool.{eqb-true}
use Rattle.l4_model.specs.Machine.{Machine, place_of}
use Rattle.l4_model.specs.World.{World, Thread, Send, Owed, Phase, Ready, Sending, Receiving, Ordering, Ended, Deleted}
use Rattle.l4_core_model.specs.Letters.{Letter, Result, Delivered, Refused, TimedOut, Nobody, Cancelled, Dropped}
use Rattle.l4_core_model.specs.Local.{after_decision, was_delivered}
use Rattle.l4_core_model.specs.Runs.{Posted, Run, System, letters, is_between}
use Rattle.l4_core_model.proofs.Changed.{same_nat}
use Rattle.l4_core_model.proofs.Choosing.{both}
use Rattle.l4_core_model.proofs.Standing.{place_within}
use Rattle.l4_model.specs.Effects.{obeyed}
use Rattle.l4_refines.proofs.Lists.{one_of}
use Rattle.l4_refines.proofs.Law.{RunFacts}
use Rattle.l4_refines.proofs.Letters.Addressed.{IsAddressedTo}
use Rattle.l4_refines.proofs.Letters.Lawful.{placed}
use Rattle.l4_refines.proofs.Frames.Mail.{about_place, keeps_one}
use Rattle.l4_refines.proofs.Relation.Views.{View, Kept, view, scene, home, world_thread, subject, is_locator, is_about, locators, notices}
use Rattle.l4_refines.proofs.Relation.Owing.{retarget_of, retargets_in, goes_away}
use Rattle.l4_refines.proofs.Relation.Rows.{seats, Agrees, AgreesIn, learns, learned, Row, RowOf, IsNotice, Matches}
use Rattle.l4_refines.proofs.Relation.Whereabouts.{where_then}

abbrev pub seen_at : Machine → System → World → ℕ → View
seen_at m g w i = view m (scene g) w i

-- A thread as its home has it.
abbrev pub kept_home : Machine → System → World → ℕ → Kept
kept_home m g w i = (seen_at m g w i).kept (home m i)

-- The thread that the letter is about, and what is known of it.
pub record IsExplained (m : Machine) (g : System) (w : World) (p : Posted) : Type 0 where
  pub i : ℕ
  pub within : i < length m.threads
  pub about : place_of m (subject p.letter.content) ≡ Some i
  pub matches : Matches m i (seen_at m g w i)
  pub locator : is_locator p.letter.content ≡ true → RowOf m i (seats m i (seen_at m g w i)) p p.letter.content
      × Agrees m (world_thread w i) (learns p.letter.content (kept_home m g w i).clock (kept_home m g w i).thread)
  pub notice : is_locator p.letter.content ≡ false → IsNotice m i (kept_home m g w i) p
  pub unowed : w.owed ≡ [] → retarget_of p ≡ None

only_row : (m : Machine) (i : ℕ) (k : Kept) (v : View) (send : Option Send) (xs ys : List Posted) (p : Posted) →
    Row m i (seats m i v) (xs ++ p ∷ ys) send →
    Agrees m v.world (learned (xs ++ p ∷ ys) k.clock k.thread) →
    RowOf m i (seats m i v) p p.letter.content × Agrees m v.world (learns p.letter.content k.clock k.thread)
only_row m i k v send [] [] p h a = (h, a)
only_row m i k v send [] (y ∷ ys) p h a = absurd h
only_row m i k v send (x ∷ []) ys p h a = absurd h
only_row m i k v send (x ∷ z ∷ xs) ys p h a = absurd h

-- Where no retarget is under way, no letter is of one.
not_among : (before after : List Posted) (p : Posted) → retargets_in (before ++ p ∷ after) ≡ [] → retarget_of p ≡ None
not_among [] after p none = by (retarget_of p) none
  where
    by : (o : Option Owed) → cons_option o (retargets_in after) ≡ [] → o ≡ None
    by None none = refl
    by (Some o) none = cc
not_among (q ∷ before) after p none = by (retarget_of q) none (not_among before after p)
  where
    by : (o : Option Owed) → cons_option o (retargets_in (before ++ p ∷ after)) ≡ [] →
        (retargets_in (before ++ p ∷ after) ≡ [] → retarget_of p ≡ None) → retarget_of p ≡ None
    by None none rest = rest none
    by (Some o) none rest = cc

pub explained : (m : Machine) (r : Run) (f : RunFacts m r) (before after : List Posted) (p : Posted) →
    r.system.mail ≡ before ++ p ∷ after →
    IsExplained m r.system f.world p
explained m r f before after p is =
    let addressed = one_of (λ (p : Posted). IsAddressedTo m p.to p.letter.content) before after p
    (subst (AllByRecursion (λ (p : Posted). IsAddressedTo m p.to p.letter.content)) is f.addressed) in
    let at = placed m (subject p.letter.content) addressed.0 in
    let i = at.0 in
    let lt = place_within m (subject p.letter.content) i at.1 in
    let matches = f.relates.places i lt tt in
    let v = seen_at m r.system f.world i in
    let k = kept_home m r.system f.world i in
    let locates : Posted → Bool = λ q. is_locator q.letter.content in
    let other : Posted → Bool = λ q. not (is_locator q.letter.content) in
    let here = about_place m i i p at.1 ∙ same_nat i in
    let mail = ap (filter (is_about m i)) is ∙ keeps_one (is_about m i) before after p here in
    record {
      i = i;
      within = lt;
      about = at.1;
      matches = matches;
      locator = λ says.
          let rows = ap locators mail ∙ keeps_one locates (filter (is_about m i) before)
          (filter (is_about m i) after) p says in
          only_row m i k v k.thread.send (locators (filter (is_about m i) before))
          (locators (filter (is_about m i) after)) p
          (subst (λ ps. Row m i (seats m i v) ps k.thread.send) rows matches.known.row)
          (subst (λ ps. Agrees m v.world (learned ps k.clock k.thread)) rows matches.known.agrees);
      notice = λ late.
          let rows = ap notices mail ∙ keeps_one other (filter (is_about m i) before) (filter (is_about m i) after) p
          (rw late refl) in
          one_of (IsNotice m i k) (notices (filter (is_about m i) before)) (notices (filter (is_about m i) after)) p
          (subst (AllByRecursion (IsNotice m i k)) rows matches.known.kept.notices);
      unowed = λ none.
          not_among before after p
          (ap retargets_in (sym is) ∙ f.relates.owing.letters ∙ ap (filter (goes_away m)) none);
    }

-- What is true of each letter wherever it stands is true of all, and of those of a pair.

each_stands : (P : Posted → Type 0) (mail : List Posted) → ((before after : List Posted) (p : Posted) →
    mail ≡ before ++ p ∷ after → P p) → AllByRecursion P mail
each_stands P mail each = by [] mail refl
  where
    by : (before after : List Posted) → mail ≡ before ++ after → AllByRecursion P after
    by before [] is = tt
    by before (p ∷ ps) is = (each before ps p is, by (before ++ p ∷ []) ps (is ∙ sym (append_assoc before (p ∷ []) ps)))

all_between : (Q : Letter → Type 0) (from to : ℕ) (ps : List Posted) →
    AllByRecursion (λ (p : Posted). p.from ≡ from → p.to ≡ to → Q p.letter) ps →
    AllByRecursion Q (letters ps from to)
all_between Q from to [] all = tt
all_between Q from to (p ∷ ps) all = by (is_between from to p) refl (all_between Q from to ps all.1)
  where
    by : (b : Bool) → is_between from to p ≡ b → AllByRecursion Q (letters ps from to) →
        AllByRecursion Q (map (λ (q : Posted). q.letter) (cond b (p ∷ filter (is_between from to) ps)
        (filter (is_between from to) ps)))
    by true is rest = let at = both (p.from == from) (p.to == to) is in (
      all.0 (eqb-true p.from from at.0)
          (eqb-true p.to to at.1),
      rest,
    )
    by false is rest = rest

pub each_between : (m : Machine) (r : Run) (f : RunFacts m r) (Q : Letter → Type 0) (from to : ℕ) →
    ((p : Posted) → IsExplained m r.system f.world p → p.from ≡ from → p.to ≡ to → Q p.letter) →
    AllByRecursion Q (letters r.system.mail from to)
each_between m r f Q from to each =
    all_between Q from to r.system.mail
    (each_stands (λ (p : Posted). p.from ≡ from → p.to ≡ to →
    Q p.letter) r.system.mail (λ before after p is. each p (explained m r f before after p is)))

pub none_between : (Q : Letter → Type 0) (from to : ℕ) (ps : List Posted) → AllByRecursion Q (letters ps from to) →
    AllByRecursion (λ (p : Posted). p.from ≡ from → p.to ≡ to → Q p.letter) ps
none_between Q from to [] all = tt
none_between Q from to (p ∷ ps) all = by (is_between from to p) refl all (none_between Q from to ps)
  where
    by : (b : Bool) → is_between from to p ≡ b →
        AllByRecursion Q (map (λ (q : Posted). q.letter) (cond b (p ∷ filter (is_between from to) ps)
        (filter (is_between from to) ps))) →
        (AllByRecursion Q (letters ps from to) → AllByRecursion (λ (p : Posted). p.from ≡ from → p.to ≡ to →
        Q p.letter) ps) →
        AllByRecursion (λ (p : Posted). p.from ≡ from → p.to ≡ to → Q p.letter) (p ∷ ps)
    by true is all rest = ((λ a b. all.0), rest all.1)
    by false is all rest = (
      (λ a b.
          let yes : is_between from to p ≡ true = rw (
            ap (λ n. n == from) a ∙ same_nat from,
            ap (λ n. n == to) b
                ∙ same_nat to,
          ) refl in
          cc),
      rest all,
    )

-- A thread that home knows to be deleted is deleted.

deleted_there : (m : Machine) (world t : Thread) → Agrees m world t → t.phase ≡ Deleted → world.phase ≡ Deleted
deleted_there m world t a is = by t.phase is a.by_phase
  where
    by : (p : Phase) → p ≡ Deleted → AgreesIn p world t → world.phase ≡ Deleted
    by Deleted is a = a.deleted
    by Ready is a = cc
    by Sending is a = cc
    by (Receiving receive since) is a = cc
    by Ordering is a = cc
    by Ended is a = cc

stays_deleted : (result : Result) (clock : ℕ) (t : Thread) → t.phase ≡ Deleted →
    (after_decision result clock t).phase ≡ Deleted
stays_deleted Delivered clock t is = by t.send
  where
    by : (o : Option Send) → (was_delivered o clock t).phase ≡ Deleted
    by None = is
    by (Some send) = rw is refl
stays_deleted (Refused TimedOut) clock t is = rw is refl
stays_deleted (Refused Nobody) clock t is = rw is refl
stays_deleted (Refused Cancelled) clock t is = rw is refl
stays_deleted (Refused Dropped) clock t is = rw is refl

pub gone_in_world : (m : Machine) (i : ℕ) (v : View) → Matches m i v → (v.kept (home m i)).thread.phase ≡ Deleted →
    v.world.phase ≡ Deleted
gone_in_world m i v matches is =
    where_then m i v matches.known
    (λ quiet none row a. deleted_there m v.world t a is)
    (λ send quiet has row a. deleted_there m v.world t a is)
    (λ p at row a. deleted_there m v.world t a is)
    (λ p s result at content row a. deleted_there m v.world _ a (stays_deleted result (v.kept (home m i)).clock t is))
    (λ p at row a. deleted_there m v.world t a is)
    (λ p caller at content row a. deleted_there m v.world _ a done)
  where
    t : Thread
    t = (v.kept (home m i)).thread

    done : (obeyed t).phase ≡ Deleted
    done = rw is refl
