-- What is promised is kept by what a letter brings about. The letter is taken out last: what rested on it is then done.
use Rattle.std.proofs.Common.{◌≡◌, ℕ, ◌<◌, Some, List, [], ◌∷◌, ◌++◌, map, length, ap, sym, ◌∙◌, subst, inl, inr, ◌⊎◌}
use Rattle.std.specs.List.{AllByRecursion}
use Rattle.l4_model.specs.Words.{GlobalId}
use Rattle.l4_model.specs.Machine.{Machine, place_of}
use Rattle.l4_model.specs.World.{Name, Send, Deleted}
use Rattle.l4_model.proofs.Chains.{some_is}
use Rattle.l4_core_model.specs.Letters.{Content, Letter}
use Rattle.l4_core_model.specs.Local.{declared, destination_place}
use Rattle.l4_core_model.specs.Acts.{Work}
use Rattle.l4_core_model.specs.Runs.{Posted, posted, IsMachine}
use Rattle.l4_refines.proofs.Relation.Views.{Scene, home, amid}
use Rattle.l4_refines.proofs.Relation.Rows.{name_of}
use Rattle.l4_refines.proofs.Frames.Mail.{IsFirstLetter}
use Rattle.l4_refines.proofs.Letters.Receiving.{without}
use Rattle.l4_refines.proofs.Promises.Promised.{AnyOf, MayFollow, InOrder, IsAnswer, IsAnswerIn, IsGone, IsGoneIn, kept_at, phases, HasAnswer, HasHeard}
use Rattle.l4_refines.proofs.Promises.Acts.{StaysPromised}

-- Taking out

any_split : (P : Posted → Type 0) (xs ys zs : List Posted) (y : Posted) → AnyOf P ((xs ++ y ∷ ys) ++ zs) → P y ⊎ AnyOf P ((xs ++ ys) ++ zs)
any_split P [] ys zs y h = h
any_split P (x ∷ xs) ys zs y (inl h) = inr (inl h)
any_split P (x ∷ xs) ys zs y (inr h) = by (any_split P xs ys zs y h)
  where
    by : P y ⊎ AnyOf P ((xs ++ ys) ++ zs) → P y ⊎ AnyOf P (((x ∷ xs) ++ ys) ++ zs)
    by (inl h) = inl h
    by (inr h) = inr (inr h)

all_skip : (Q : Posted → Type 0) (xs ys zs : List Posted) (y : Posted) → AllByRecursion Q ((xs ++ y ∷ ys) ++ zs) → AllByRecursion Q ((xs ++ ys) ++ zs)
all_skip Q [] ys zs y h = h.1
all_skip Q (x ∷ xs) ys zs y h = (h.0, all_skip Q xs ys zs y h.1)

order_skip : (xs ys zs : List Posted) (y : Posted) → InOrder ((xs ++ y ∷ ys) ++ zs) → InOrder ((xs ++ ys) ++ zs)
order_skip [] ys zs y h = h.1
order_skip (x ∷ xs) ys zs y h = (all_skip (λ (q : Posted). MayFollow q.letter.content x.letter.content) xs ys zs y h.0, order_skip xs ys zs y h.1)

pub taken_any : (P : Posted → Type 0) (from cpu : ℕ) (letter : Letter) (s : Scene) (x : Work) → IsFirstLetter from cpu letter s.mail →
    AnyOf P (amid cpu s x).mail → P (record { from = from; to = cpu; letter = letter }) ⊎ AnyOf P (amid cpu (without from cpu s) x).mail
taken_any P from cpu letter s x f h =
    by (any_split P f.before f.after (map (posted cpu) x.letters) p (subst (λ ms. AnyOf P (ms ++ map (posted cpu) x.letters)) f.is h))
  where
    p : Posted
    p = record { from = from; to = cpu; letter = letter }

    by : P p ⊎ AnyOf P ((f.before ++ f.after) ++ map (posted cpu) x.letters) → P p ⊎ AnyOf P (amid cpu (without from cpu s) x).mail
    by (inl h) = inl h
    by (inr h) = inr (subst (λ ms. AnyOf P (ms ++ map (posted cpu) x.letters)) (sym f.left) h)

-- What rested on the letter
pub record IsSpent (m : Machine) (from cpu : ℕ) (letter : Letter) (s : Scene) (x : Work) : Type 0 where
  pub gone : (i c : ℕ) → i < length m.threads → IsGone (declared m i).id c (record { from = from; to = cpu; letter = letter }) →
      phases (amid cpu s x) i c ≡ Deleted
  pub answer : (i r : ℕ) (send : Send) → i < length m.threads → (kept_at (amid cpu s x) (home m i) i).thread.send ≡ Some send →
      destination_place m send.to ≡ Some r → (home m r ≡ home m i → ⊥) →
      IsAnswer (name_of m i (kept_at (amid cpu s x) (home m i) i).thread) (home m i) (home m r) (record { from = from; to = cpu; letter = letter }) →
      HasAnswer m i r (kept_at (amid cpu s x) (home m i) i) (amid cpu (without from cpu s) x).mail

-- Once what rested on it is done, the letter may go.
pub taken_keeps : (m : Machine) (from cpu : ℕ) (letter : Letter) (s : Scene) (x : Work) → IsFirstLetter from cpu letter s.mail → IsSpent m from cpu letter s x →
    StaysPromised m cpu s x → StaysPromised m cpu (without from cpu s) x
taken_keeps m from cpu letter s x f spent p = record {
  threads = p.threads;
  told_ones = p.told_ones;
  in_order = subst (λ ms. InOrder (ms ++ map (posted cpu) x.letters)) (sym f.left)
      (order_skip f.before f.after (map (posted cpu) x.letters) _ (subst (λ ms. InOrder (ms ++ map (posted cpu) x.letters)) f.is p.in_order));
  told = λ i lt c c_lt away below. told i lt c (p.told i lt c c_lt away below);
  calm = p.calm;
  armed = p.armed;
  answered = λ i lt out send r has to away ending.
      answered i r send lt has to away (taken_any _ from cpu letter s x f (p.answered i lt out send r has to away ending));
}
  where
    last : Posted
    last = record { from = from; to = cpu; letter = letter }

    told : (i : ℕ) → i < length m.threads → (c : ℕ) → HasHeard m i c (phases (amid cpu s x) i c) (amid cpu s x).mail →
        HasHeard m i c (phases (amid cpu s x) i c) (amid cpu (without from cpu s) x).mail
    told i lt c (inl h) = inl h
    told i lt c (inr h) = by (taken_any (IsGone (declared m i).id c) from cpu letter s x f h)
      where
        by : IsGone (declared m i).id c last ⊎ AnyOf (IsGone (declared m i).id c) (amid cpu (without from cpu s) x).mail →
            HasHeard m i c (phases (amid cpu s x) i c) (amid cpu (without from cpu s) x).mail
        by (inl mine) = inl (spent.gone i c lt mine)
        by (inr other) = inr other

    answered : (i r : ℕ) (send : Send) → i < length m.threads → (kept_at (amid cpu s x) (home m i) i).thread.send ≡ Some send →
        destination_place m send.to ≡ Some r → (home m r ≡ home m i → ⊥) →
        IsAnswer (name_of m i (kept_at (amid cpu s x) (home m i) i).thread) (home m i) (home m r) last
        ⊎ HasAnswer m i r (kept_at (amid cpu s x) (home m i) i) (amid cpu (without from cpu s) x).mail →
        HasAnswer m i r (kept_at (amid cpu s x) (home m i) i) (amid cpu (without from cpu s) x).mail
    answered i r send lt has to away (inl mine) = spent.answer i r send lt has to away mine
    answered i r send lt has to away (inr other) = other

-- On other letters nothing rests.
abbrev pub IsSilent : Content → Type 0
IsSilent c = ((s : Name) (a b : ℕ) (p : Posted) → IsAnswerIn s a b p c → ⊥) × ((id : GlobalId) (to : ℕ) (p : Posted) → IsGoneIn id to p c → ⊥)

pub silent_spent : (m : Machine) (from cpu : ℕ) (letter : Letter) (s : Scene) (x : Work) (c : Content) → letter.content ≡ c → IsSilent c →
    IsSpent m from cpu letter s x
silent_spent m from cpu letter s x c content silent =
    let p : Posted = record { from = from; to = cpu; letter = letter } in
    record {
      gone = λ i to lt h. absurd (silent.1 (declared m i).id to p (subst (IsGoneIn (declared m i).id to p) content h));
      answer = λ i r send lt has to away h.
          absurd (silent.0 (name_of m i (kept_at (amid cpu s x) (home m i) i).thread) (home m i) (home m r) p
          (subst (IsAnswerIn (name_of m i (kept_at (amid cpu s x) (home m i) i).thread) (home m i) (home m r) p) content h));
    }

pub same_place : (m : Machine) (i j : ℕ) (id : GlobalId) → place_of m id ≡ Some i → IsMachine m → j < length m.threads → (declared m j).id ≡ id → i ≡ j
same_place m i j id at machine lt same = some_is i j (sym at ∙ sym (ap (place_of m) same) ∙ machine.placed j lt)
