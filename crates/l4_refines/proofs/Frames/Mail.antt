-- A letter is posted, or taken out to be handled.
use Rattle.std.proofs.Common.{◌≡◌, ℕ, Bool, true, false, cond, Option, Some, None, List, [], ◌∷◌, ◌++◌, map, filter, refl, ap, sym, ◌∙◌, subst, append_assoc}
use Rattle.std.specs.Prelude.{◌==◌, not, slice_get}
use Rattle.std.proofs.lemmas.Bool.{eqb-true}
use Rattle.std.specs.List.{AllByRecursion}
use Rattle.std.proofs.lemmas.List.{map_push}
use Rattle.std.proofs.lemmas.List.Elements.{filter-append}
use Rattle.l4_model.specs.Machine.{Machine, place_of, is_place}
use Rattle.l4_model.specs.World.{World, Send, Owed}
use Rattle.l4_model.proofs.Chains.{some_is}
use Rattle.l4_core_model.specs.Letters.{Content, Letter}
use Rattle.l4_core_model.specs.Acts.{Work, ◌▷◌, posts}
use Rattle.l4_core_model.specs.Runs.{Posted, posted, is_between, letters, without_first}
use Rattle.l4_core_model.proofs.Changed.{same_nat}
use Rattle.l4_core_model.proofs.Fit.{NotIn}
use Rattle.l4_core_model.proofs.Choosing.{both}
use Rattle.l4_refines.proofs.Lists.{other_is, filter_last, filter_last_other}
use Rattle.l4_refines.proofs.Relation.Views.{Scene, View, view, amid, subject, is_locator, notices, is_about, locators}
use Rattle.l4_refines.proofs.Relation.Rows.{seats, Row}
use Rattle.l4_refines.proofs.Relation.Relates.{RelatesExcept, beside}
use Rattle.l4_refines.proofs.Relation.Owing.{Owing, retarget_in}
use Rattle.l4_refines.proofs.Frames.Owed.{owing_posted, owing_taken}
use Rattle.l4_refines.proofs.Frames.Places.{IsAbout}

-- The mail changes, but not that about other places.
-- What is owed may change with it.
mail_changes : {P : ℕ → View → Type 0} (m : Machine) (except : List ℕ) (s : Scene) (w : World) (mail : List Posted) (owed : List Owed) →
    Owing m (beside s) mail owed →
    ((j : ℕ) → NotIn j except → filter (is_about m j) mail ≡ filter (is_about m j) s.mail) →
    RelatesExcept m P except s w → RelatesExcept m P except (record s { mail = mail }) (record w { owed = owed })
mail_changes {P = P} m except s w mail owed owing same r = record {
  sized = r.sized;
  sized_world = record { threads = r.sized_world.threads; lists = r.sized_world.lists; clocks = r.sized_world.clocks };
  clocks = r.clocks;
  lists = r.lists;
  owing = owing;
  places = λ j lt out. subst (P j) (λ d. record (view m s w j) { mail = sym (same j out) d }) (r.places j lt out);
}

pub about_place : (m : Machine) (i j : ℕ) (p : Posted) → place_of m (subject p.letter.content) ≡ Some i → is_about m j p ≡ (i == j)
about_place m i j p is = ap (λ o. is_place o j) is

-- Posting

pub mail_posted : (cpu to : ℕ) (content : Content) (s : Scene) (x : Work) →
    (amid cpu s (x ▷ posts to content)).mail ≡ (amid cpu s x).mail ++ posted cpu (to, record { stamp = x.local.stamp; content = content }) ∷ []
mail_posted cpu to content s x =
    ap (λ ps. s.mail ++ ps) (map_push (posted cpu) x.letters (to, record { stamp = x.local.stamp; content = content }))
    ∙ sym (append_assoc s.mail (map (posted cpu) x.letters) _)

-- A letter that is of no retarget leaves what is owed.
pub still_owed : {P : ℕ → View → Type 0} (m : Machine) (cpu to : ℕ) (content : Content) (except : List ℕ) (s : Scene) (w : World) (x : Work) →
    retarget_in content ≡ None → RelatesExcept m P except (amid cpu s x) w → Owing m (beside (amid cpu s x)) (amid cpu s (x ▷ posts to content)).mail w.owed
still_owed m cpu to content except s w x other r =
    subst (λ mail. Owing m (beside (amid cpu s x)) mail w.owed) (sym (mail_posted cpu to content s x))
    (owing_posted m (beside (amid cpu s x)) (amid cpu s x).mail w.owed (posted cpu (to, record { stamp = x.local.stamp; content = content })) other r.owing)

-- Any letter is posted, with what is owed then.
pub any_posted : {P : ℕ → View → Type 0} (m : Machine) (cpu to i : ℕ) (content : Content) (except : List ℕ) (s : Scene) (w : World) (x : Work) (owed : List Owed) →
    Owing m (beside (amid cpu s x)) (amid cpu s (x ▷ posts to content)).mail owed → place_of m (subject content) ≡ Some i → IsAbout i except →
    RelatesExcept m P except (amid cpu s x) w → RelatesExcept m P except (amid cpu s (x ▷ posts to content)) (record w { owed = owed })
any_posted m cpu to i content except s w x owed owing is about r =
    mail_changes m except (amid cpu s x) w (amid cpu s (x ▷ posts to content)).mail owed owing
    (λ j out. ap (filter (is_about m j)) (mail_posted cpu to content s x)
    ∙ filter_last_other (is_about m j) (amid cpu s x).mail _
    (about_place m i j (posted cpu (to, record { stamp = x.local.stamp; content = content })) is ∙ other_is i j (about j out))) r

-- One that is of no retarget.
pub letter_posted : {P : ℕ → View → Type 0} (m : Machine) (cpu to i : ℕ) (content : Content) (except : List ℕ) (s : Scene) (w : World) (x : Work) →
    place_of m (subject content) ≡ Some i → retarget_in content ≡ None → IsAbout i except →
    RelatesExcept m P except (amid cpu s x) w → RelatesExcept m P except (amid cpu s (x ▷ posts to content)) w
letter_posted m cpu to i content except s w x is other about r =
    any_posted m cpu to i content except s w x w.owed (still_owed m cpu to content except s w x other r) is about r

pub mail_here : (m : Machine) (cpu to i : ℕ) (content : Content) (s : Scene) (w : World) (x : Work) → place_of m (subject content) ≡ Some i →
    (view m (amid cpu s (x ▷ posts to content)) w i).mail ≡ (view m (amid cpu s x) w i).mail ++ posted cpu
    (to, record { stamp = x.local.stamp; content = content }) ∷ []
mail_here m cpu to i content s w x is =
    ap (filter (is_about m i)) (mail_posted cpu to content s x)
    ∙ filter_last (is_about m i) (amid cpu s x).mail _
    (about_place m i i (posted cpu (to, record { stamp = x.local.stamp; content = content })) is ∙ same_nat i)

-- Taking out

-- The first letter of a pair stands somewhere, and the others stay.
pub record IsFirstLetter (from to : ℕ) (letter : Letter) (mail : List Posted) : Type 0 where
  pub before : List Posted
  pub after : List Posted
  pub is : mail ≡ before ++ record { from = from; to = to; letter = letter } ∷ after
  pub left : without_first from to mail ≡ before ++ after
  pub first : AllByRecursion (λ q. is_between from to q ≡ false) before

between_is : (from to : ℕ) (p : Posted) → is_between from to p ≡ true → p ≡ record { from = from; to = to; letter = p.letter }
between_is from to p h =
    let is = both (p.from == from) (p.to == to) h in
    let a = eqb-true p.from from is.0 in
    let b = eqb-true p.to to is.1 in
    λ d. record { from = a d; to = b d; letter = p.letter }

pub first_letter : (from to : ℕ) (letter : Letter) (mail : List Posted) → slice_get (letters mail from to) 0 ≡ Some letter → IsFirstLetter from to letter mail
first_letter from to letter [] h = cc
first_letter from to letter (p ∷ ps) h = by (is_between from to p) refl h (first_letter from to letter ps)
  where
    by : (b : Bool) → is_between from to p ≡ b →
        slice_get (map (λ (q : Posted). q.letter) (cond b (p ∷ filter (is_between from to) ps) (filter (is_between from to) ps))) 0 ≡ Some letter →
        (slice_get (letters ps from to) 0 ≡ Some letter → IsFirstLetter from to letter ps) → IsFirstLetter from to letter (p ∷ ps)
    by true is h rest = record {
      before = [];
      after = ps;
      is = ap (λ q. q ∷ ps) (between_is from to p is ∙ ap (λ l. record { from = from; to = to; letter = l }) (some_is p.letter letter h));
      left = rw is refl;
      first = tt;
    }
    by false is h rest = let f = rest h in record {
      before = p ∷ f.before;
      after = f.after;
      is = ap (λ qs. p ∷ qs) f.is;
      left = rw is (ap (λ qs. p ∷ qs) f.left);
      first = (is, f.first);
    }

pub filter_skips : {A : Type 0} (p : A → Bool) (xs ys : List A) (x : A) → p x ≡ false → filter p (xs ++ x ∷ ys) ≡ filter p (xs ++ ys)
filter_skips p xs ys x h = filter-append p xs (x ∷ ys) ∙ ap (λ zs. filter p xs ++ zs) (skip h) ∙ sym (filter-append p xs ys)
  where
    skip : p x ≡ false → filter p (x ∷ ys) ≡ filter p ys
    skip h = rw h refl

-- It takes an owed retarget along, or none.
pub letter_taken : {P : ℕ → View → Type 0} (m : Machine) (from to i : ℕ) (letter : Letter) (except : List ℕ) (s : Scene) (w : World) (owed : List Owed) →
    place_of m (subject letter.content) ≡ Some i → IsAbout i except → IsFirstLetter from to letter s.mail →
    Owing m (beside s) (without_first from to s.mail) owed →
    RelatesExcept m P except s w → RelatesExcept m P except (record s { mail = without_first from to s.mail }) (record w { owed = owed })
letter_taken m from to i letter except s w owed is about f owing r =
    mail_changes m except s w (without_first from to s.mail) owed owing
    (λ j out. ap (filter (is_about m j)) f.left
    ∙ sym (filter_skips (is_about m j) f.before f.after _
    (about_place m i j (record { from = from; to = to; letter = letter }) is ∙ other_is i j (about j out))) ∙ sym (ap (filter (is_about m j)) f.is)) r

-- A letter that is of no retarget leaves what is owed.
pub other_taken : (m : Machine) (kept_beside : ℕ → List (Option Owed)) (from to : ℕ) (letter : Letter) (mail : List Posted) (owed : List Owed) →
    IsFirstLetter from to letter mail → retarget_in letter.content ≡ None → Owing m kept_beside mail owed → Owing m kept_beside (without_first from to mail) owed
other_taken m kept_beside from to letter mail owed f none h =
    subst (λ ps. Owing m kept_beside ps owed) (sym f.left)
    (owing_taken m kept_beside f.before f.after owed (record { from = from; to = to; letter = letter }) none (subst (λ ps. Owing m kept_beside ps owed) f.is h))

-- Of its own thread, it was the letter that says where its send or order is, and no such letter is left.

-- A locator is taken out of the letters about its thread.
pub record IsTaken (p : Posted) (mail after : List Posted) : Type 0 where
  pub was : locators mail ≡ p ∷ []
  pub none_left : locators after ≡ []
  pub others : notices after ≡ notices mail

pub keeps_one : (p : Posted → Bool) (xs ys : List Posted) (x : Posted) → p x ≡ true → filter p (xs ++ x ∷ ys) ≡ filter p xs ++ x ∷ filter p ys
keeps_one p xs ys x h = filter-append p xs (x ∷ ys) ∙ ap (λ zs. filter p xs ++ zs) (keep h)
  where
    keep : p x ≡ true → filter p (x ∷ ys) ≡ x ∷ filter p ys
    keep h = rw h refl

only_locator : (m : Machine) (i : ℕ) (v : View) (send : Option Send) (xs ys : List Posted) (p : Posted) → Row m i (seats m i v) (xs ++ p ∷ ys) send →
    (xs ≡ []) × (ys ≡ [])
only_locator m i v send [] [] p h = (refl, refl)
only_locator m i v send [] (y ∷ ys) p h = absurd h
only_locator m i v send (x ∷ []) ys p h = absurd h
only_locator m i v send (x ∷ z ∷ xs) ys p h = absurd h

pub taken_here : (m : Machine) (from to i : ℕ) (letter : Letter) (mail : List Posted) (v : View) (send : Option Send) →
    place_of m (subject letter.content) ≡ Some i → is_locator letter.content ≡ true → IsFirstLetter from to letter mail →
    Row m i (seats m i v) (locators (filter (is_about m i) mail)) send →
    IsTaken (record { from = from; to = to; letter = letter }) (filter (is_about m i) mail) (filter (is_about m i) (without_first from to mail))
taken_here m from to i letter mail v send is says f row =
    let p : Posted = record { from = from; to = to; letter = letter } in
    let locator : Posted → Bool = λ q. is_locator q.letter.content in
    let here = about_place m i i p is ∙ same_nat i in
    let before = filter (is_about m i) f.before in
    let after = filter (is_about m i) f.after in
    let old = ap (filter (is_about m i)) f.is ∙ keeps_one (is_about m i) f.before f.after p here in
    let new = ap (filter (is_about m i)) f.left ∙ filter-append (is_about m i) f.before f.after in
    let at = ap locators old ∙ keeps_one locator before after p says in
    let none = only_locator m i v send (locators before) (locators after) p (subst (λ ps. Row m i (seats m i v) ps send) at row) in
    record {
      was = at ∙ (λ d. none.0 d ++ p ∷ none.1 d);
      none_left = ap locators new ∙ filter-append locator before after ∙ (λ d. none.0 d ++ none.1 d);
      others = ap notices new ∙ sym (ap notices old ∙ filter_skips (λ q. not (locator q)) before after p (rw says refl));
    }
