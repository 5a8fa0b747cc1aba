-- A letter that withdraws a send comes before any later send of that thread. For the numbers rise
-- along the letters of a thread that bring or withdraw sends, and from what has come of it.
use Rattle.std.proofs.Common.{◌≡◌, ℕ, zero, suc, ◌≤◌, Bool, true, false, cond, Some, List, [], ◌∷◌, ◌++◌, filter, map, refl, sym, ap, subst, ◌∙◌, arith}
use Rattle.std.specs.Prelude.{slice_get, ◌==◌, ◌&&◌}
use Rattle.std.specs.List.{AllByRecursion}
use Rattle.std.proofs.lemmas.Bool.{eqb-true}
use Rattle.l4_model.specs.Machine.{Machine, place_of}
use Rattle.l4_model.specs.World.{changed}
use Rattle.l4_model.proofs.Chains.{some_is}
use Rattle.l4_core_model.specs.Letters.{Content, DoneLetter, GoneLetter, Letter, OrderDoneLetter, OrderLetter, RetargetLetter, SendLetter, WithdrawLetter}
use Rattle.l4_core_model.specs.Runs.{Posted, is_between, letters, posted, without_first}
use Rattle.l4_core_model.proofs.Apart.{apart}
use Rattle.l4_core_model.proofs.Changed.{same_nat}
use Rattle.l4_refines.proofs.Lists.{all_join, get_other_place}
use Rattle.l4_refines.proofs.Relation.Views.{home}
use Rattle.l4_bisimilar.proofs.Counts.{IsNumbered, at}

-- The counts of each processor
abbrev pub Counting : Type 0
Counting = (cpu : ℕ) → List ℕ

-- A letter that brings a send or withdraws it comes from its thread's home, and names a send that
-- has begun there. One that withdraws it goes to a processor where no later one has come.
abbrev pub IsInTimeIn : Machine → Counting → Posted → Content → Type 0
IsInTimeIn m known p (SendLetter s receiver message zero_timeout) =
    (i : ℕ) → place_of m s.thread ≡ Some i → (p.from ≡ home m i) × (s.k ≤ at (known (home m i)) i)
IsInTimeIn m known p (WithdrawLetter s receiver cause) =
    (i : ℕ) → place_of m s.thread ≡ Some i →
    (p.from ≡ home m i)
    × ((p.to ≡ home m i → ⊥) × ((at (known p.to) i ≤ s.k) × (s.k ≤ at (known (home m i)) i)))
IsInTimeIn m known p _ = Unit {0}

abbrev pub IsInTime : Machine → Counting → Posted → Type 0
IsInTime m known p = IsInTimeIn m known p p.letter.content

-- A send that is withdrawn behind a send of its thread is no earlier one.
abbrev pub IsNoEarlier : Machine → (before after : Content) → Type 0
IsNoEarlier m (SendLetter s receiver message zero_timeout) (WithdrawLetter t other cause) =
    (i : ℕ) → place_of m s.thread ≡ Some i → place_of m t.thread ≡ Some i → s.k ≤ t.k
IsNoEarlier m _ _ = Unit {0}

abbrev pub Rises : Machine → Posted → Posted → Type 0
Rises m p q = IsNoEarlier m p.letter.content q.letter.content

abbrev pub AreRising : Machine → List Posted → Type 0
AreRising m [] = Unit {0}
AreRising m (p ∷ ps) = AllByRecursion (Rises m p) ps × AreRising m ps

pub record IsInNumber (m : Machine) (known : Counting) (mail : List Posted) : Type 0 where
  -- nowhere is a later send known than at home
  pub below : (cpu i : ℕ) → at (known cpu) i ≤ at (known (home m i)) i
  pub letters : AllByRecursion (IsInTime m known) mail
  pub order : AreRising m mail

-- The counts of one processor change.
abbrev pub with_counts : (cpu : ℕ) → List ℕ → Counting → Counting
with_counts cpu after known c = cond (cpu == c) after (known c)

all_map : {A : Type 0} (P Q : A → Type 0) → ((x : A) → P x → Q x) → (xs : List A) →
    AllByRecursion P xs → AllByRecursion Q xs
all_map P Q f [] h = tt
all_map P Q f (x ∷ xs) h = (f x h.0, all_map P Q f xs h.1)

-- Counts of a processor's own threads rise.
module _ (m : Machine) (cpu : ℕ) (known : Counting) (after : List ℕ)
    (own : (j : ℕ) → at (known cpu) j ≤ at after j)
    (other : (j : ℕ) → (home m j ≡ cpu → ⊥) → at after j ≡ at (known cpu) j) where
  abbrev grown : Counting
  grown = with_counts cpu after known

  up : (c j : ℕ) → at (known c) j ≤ at (cond (cpu == c) after (known c)) j
  up c j = by (cpu == c) refl
    where
      by : (b : Bool) → (cpu == c) ≡ b → at (known c) j ≤ at (cond b after (known c)) j
      by true is = subst (λ d. at (known d) j ≤ at after j) (eqb-true cpu c is) (own j)
      by false is = omega arith

  -- and elsewhere nothing does
  away : (c j : ℕ) → (c ≡ home m j → ⊥) → at (cond (cpu == c) after (known c)) j ≡ at (known c) j
  away c j ne = by (cpu == c) refl
    where
      by : (b : Bool) → (cpu == c) ≡ b → at (cond b after (known c)) j ≡ at (known c) j
      by true is =
          let same = eqb-true cpu c is in
          other j (λ e. ne (sym same ∙ sym e)) ∙ ap (λ d. at (known d) j) same
      by false is = refl

  grown_below : (n : IsInNumber m known []) → (c j : ℕ) →
      at (grown c) j ≤ at (grown (home m j)) j
  grown_below n c j = by (c == home m j) refl
    where
      by : (b : Bool) → (c == home m j) ≡ b → at (grown c) j ≤ at (grown (home m j)) j
      by true is =
          subst (λ d. at (grown d) j ≤ at (grown (home m j)) j) (sym (eqb-true c (home m j) is))
          (omega arith)
      by false is =
          let same : at (grown c) j ≡ at (known c) j = away c j (apart c (home m j) is) in
          let le = n.below c j in
          let more : at (known (home m j)) j ≤ at (grown (home m j)) j = up (home m j) j in
          omega arith

  grown_letter : (p : Posted) → IsInTime m known p → IsInTime m grown p
  grown_letter p h = by p.letter.content h
    where
      by : (c : Content) → IsInTimeIn m known p c → IsInTimeIn m grown p c
      by (SendLetter s receiver message zero_timeout) h = λ i place.
          let t = h i place in
          let more : at (known (home m i)) i ≤ at (grown (home m i)) i = up (home m i) i in
          (t.0, omega (arith, t.1))
      by (WithdrawLetter s receiver cause) h = λ i place.
          let t = h i place in
          let same : at (grown p.to) i ≡ at (known p.to) i = away p.to i t.1.0 in
          let more : at (known (home m i)) i ≤ at (grown (home m i)) i = up (home m i) i in
          (t.0, (t.1.0, (omega (arith, t.1.1.0), omega (arith, t.1.1.1))))
      by (DoneLetter s result) h = tt
      by (GoneLetter id) h = tt
      by (OrderLetter caller target what) h = tt
      by (OrderDoneLetter caller) h = tt
      by (RetargetLetter o) h = tt

  pub grows_in_number : (mail : List Posted) → IsInNumber m known mail →
      IsInNumber m (with_counts cpu after known) mail
  grows_in_number mail n = record {
    below = grown_below (record { below = n.below; letters = tt; order = tt });
    letters = all_map (IsInTime m known) (IsInTime m grown) grown_letter mail n.letters;
    order = n.order;
  }

-- A letter is taken.

all_taken : (P : Posted → Type 0) (from to : ℕ) (ps : List Posted) → AllByRecursion P ps →
    AllByRecursion P (without_first from to ps)
all_taken P from to [] a = tt
all_taken P from to (p ∷ ps) a = by (is_between from to p) (all_taken P from to ps a.1)
  where
    by : (b : Bool) → AllByRecursion P (without_first from to ps) →
        AllByRecursion P (cond b ps (p ∷ without_first from to ps))
    by true rest = a.1
    by false rest = (a.0, rest)

rising_taken : (m : Machine) (from to : ℕ) (ps : List Posted) → AreRising m ps →
    AreRising m (without_first from to ps)
rising_taken m from to [] a = tt
rising_taken m from to (p ∷ ps) a =
    by (is_between from to p) (all_taken (Rises m p) from to ps a.0) (rising_taken m from to ps a.1)
  where
    by : (b : Bool) → AllByRecursion (Rises m p) (without_first from to ps) →
        AreRising m (without_first from to ps) →
        AreRising m (cond b ps (p ∷ without_first from to ps))
    by true all rest = a.1
    by false all rest = (all, rest)

pub taken_in_number : (m : Machine) (known : Counting) (from to : ℕ) (mail : List Posted) →
    IsInNumber m known mail → IsInNumber m known (without_first from to mail)
taken_in_number m known from to mail n = record {
  below = n.below;
  letters = all_taken (IsInTime m known) from to mail n.letters;
  order = rising_taken m from to mail n.order;
}

-- The first letter of a pair brings a send, which then stands for its thread.

abbrev pub IsBrought : Machine → (place k : ℕ) → Content → Type 0
IsBrought m i k (SendLetter s receiver message zero_timeout) =
    (s.k ≡ k) × (place_of m s.thread ≡ Some i)
IsBrought m i k _ = ⊥

put_le : (cs : List ℕ) (i j k x : ℕ) → (i ≡ j → k ≤ x) → at cs j ≤ x →
    at (changed (λ n. k) cs i) j ≤ x
put_le [] i j k x here old = old
put_le (c ∷ cs) zero zero k x here old = here refl
put_le (c ∷ cs) zero (suc j) k x here old = old
put_le (c ∷ cs) (suc i) zero k x here old = old
put_le (c ∷ cs) (suc i) (suc j) k x here old =
    put_le cs i j k x (λ e. here (ap suc e)) old

module _ (m : Machine) (cpu from i k : ℕ) (known : Counting) (foreign : home m i ≡ cpu → ⊥)
    (came_from : from ≡ home m i) (begun : k ≤ at (known (home m i)) i) where
  abbrev stood : Counting
  stood = with_counts cpu (changed (λ n. k) (known cpu) i) known

  -- home keeps its own counts
  kept : (j : ℕ) → at (stood (home m j)) j ≡ at (known (home m j)) j
  kept j = by (cpu == home m j) refl
    where
      by : (b : Bool) → (cpu == home m j) ≡ b →
          at (cond b (changed (λ n. k) (known cpu) i) (known (home m j))) j
          ≡ at (known (home m j)) j
      by true is =
          let same = eqb-true cpu (home m j) is in
          get_other_place (λ n. k) (known cpu) i j 0
          (λ e. foreign (ap (home m) e ∙ sym same))
          ∙ ap (λ c. at (known c) j) same
      by false is = refl

  stood_le : (c j x : ℕ) → (cpu ≡ c → i ≡ j → k ≤ x) → at (known c) j ≤ x → at (stood c) j ≤ x
  stood_le c j x here old = by (cpu == c) refl
    where
      by : (b : Bool) → (cpu == c) ≡ b →
          at (cond b (changed (λ n. k) (known cpu) i) (known c)) j ≤ x
      by true is =
          let same = eqb-true cpu c is in
          put_le (known cpu) i j k x (here same)
          (subst (λ d. at (known d) j ≤ x) (sym same) old)
      by false is = old

  stood_below : ((c j : ℕ) → at (known c) j ≤ at (known (home m j)) j) → (c j : ℕ) →
      at (stood c) j ≤ at (stood (home m j)) j
  stood_below below c j =
      subst (λ n. at (stood c) j ≤ n) (sym (kept j))
      (stood_le c j (at (known (home m j)) j)
      (λ same e. subst (λ h. k ≤ at (known (home m h)) h) e begun) (below c j))

  -- A letter is in time where it withdraws no earlier send of this pair.
  abbrev WithdrawsNone : Posted → Content → Type 0
  WithdrawsNone p (WithdrawLetter s receiver cause) =
      p.from ≡ from → p.to ≡ cpu → place_of m s.thread ≡ Some i → k ≤ s.k
  WithdrawsNone p _ = Unit {0}

  stood_in : (p : Posted) (c : Content) → WithdrawsNone p c → IsInTimeIn m known p c →
      IsInTimeIn m stood p c
  stood_in p (SendLetter s receiver message zero_timeout) none h = λ j place.
      let t = h j place in
      let same : at (stood (home m j)) j ≡ at (known (home m j)) j = kept j in
      (t.0, omega (arith, t.1))
  stood_in p (WithdrawLetter s receiver cause) none h = λ j place.
      let t = h j place in
      let same : at (stood (home m j)) j ≡ at (known (home m j)) j = kept j in
      let le : at (stood p.to) j ≤ s.k =
      stood_le p.to j s.k
      (λ to e. none (t.0 ∙ ap (home m) (sym e) ∙ sym came_from) (sym to)
      (place ∙ ap (λ q. Some q) (sym e))) t.1.1.0 in
      (t.0, (t.1.0, (le, omega (arith, t.1.1.1))))
  stood_in p (DoneLetter s result) none h = tt
  stood_in p (GoneLetter id) none h = tt
  stood_in p (OrderLetter caller target what) none h = tt
  stood_in p (OrderDoneLetter caller) none h = tt
  stood_in p (RetargetLetter o) none h = tt

  -- Of letters of other pairs
  other_pair : (p : Posted) (c : Content) → is_between from cpu p ≡ false → WithdrawsNone p c
  other_pair p (WithdrawLetter s receiver cause) is = λ of to place.
      absurd (between (p.from == from) (p.to == cpu)
      (ap (λ n. n == from) of ∙ same_nat from) (ap (λ n. n == cpu) to ∙ same_nat cpu) is)
    where
      between : (a b : Bool) → a ≡ true → b ≡ true → (a && b) ≡ false → ⊥
      between a b p q r = cc
  other_pair p (SendLetter s receiver message zero_timeout) is = tt
  other_pair p (DoneLetter s result) is = tt
  other_pair p (GoneLetter id) is = tt
  other_pair p (OrderLetter caller target what) is = tt
  other_pair p (OrderDoneLetter caller) is = tt
  other_pair p (RetargetLetter o) is = tt

  -- Of letters behind the one that brings the send

  behind : (p : Posted) (b c : Content) → IsBrought m i k b → IsNoEarlier m b c → WithdrawsNone p c
  behind p (SendLetter s receiver message zero_timeout) (WithdrawLetter t other cause) is rises =
      λ of to place. subst (λ n. n ≤ t.k) is.0 (rises i is.1 place)
  behind p b (SendLetter t receiver message zero_timeout) is rises = tt
  behind p b (DoneLetter t result) is rises = tt
  behind p b (GoneLetter id) is rises = tt
  behind p b (OrderLetter caller target what) is rises = tt
  behind p b (OrderDoneLetter caller) is rises = tt
  behind p b (RetargetLetter o) is rises = tt
  behind p b c is rises = absurd is

  stood_letters : (letter : Letter) (mail : List Posted) → IsBrought m i k letter.content →
      slice_get (letters mail from cpu) 0 ≡ Some letter → AllByRecursion (IsInTime m known) mail →
      AreRising m mail → AllByRecursion (IsInTime m stood) (without_first from cpu mail)
  stood_letters letter [] is first all order = tt
  stood_letters letter (p ∷ ps) is first all order =
      by (is_between from cpu p) refl first (stood_letters letter ps is)
    where
      later : (qs : List Posted) → IsBrought m i k p.letter.content → AllByRecursion (Rises m p) qs →
          AllByRecursion (IsInTime m known) qs → AllByRecursion (IsInTime m stood) qs
      later [] is rises all = tt
      later (q ∷ qs) is rises all = (
        stood_in q q.letter.content
            (behind q p.letter.content q.letter.content is rises.0) all.0,
        later qs is rises.1 all.1,
      )

      by : (b : Bool) → is_between from cpu p ≡ b →
          slice_get (map (λ (q : Posted). q.letter)
          (cond b (p ∷ filter (is_between from cpu) ps) (filter (is_between from cpu) ps))) 0
          ≡ Some letter →
          (slice_get (letters ps from cpu) 0 ≡ Some letter → AllByRecursion (IsInTime m known) ps →
          AreRising m ps → AllByRecursion (IsInTime m stood) (without_first from cpu ps)) →
          AllByRecursion (IsInTime m stood) (cond b ps (p ∷ without_first from cpu ps))
      by true between here more =
          later ps (subst (λ (l : Letter). IsBrought m i k l.content) (sym (some_is p.letter letter here)) is)
          order.0 all.1
      by false between there more = (
        stood_in p p.letter.content (other_pair p p.letter.content between) all.0,
        more there all.1 order.1,
      )

  pub stands_in_number : (letter : Letter) (mail : List Posted) → IsBrought m i k letter.content →
      slice_get (letters mail from cpu) 0 ≡ Some letter → IsInNumber m known mail →
      IsInNumber m (with_counts cpu (changed (λ n. k) (known cpu) i) known)
      (without_first from cpu mail)
  stands_in_number letter mail is first n = record {
    below = stood_below n.below;
    letters = stood_letters letter mail is first n.letters n.order;
    order = rising_taken m from cpu mail n.order;
  }

-- Letters are posted.
module _ (m : Machine) (cpu : ℕ) (known : Counting) (now : List ℕ) (here : known cpu ≡ now) where
  abbrev IsNew : ℕ × Letter → Type 0
  IsNew p = IsNumbered m cpu now p.0 p.1.content

  at_home : (i : ℕ) → home m i ≡ cpu → at (known (home m i)) i ≡ at now i
  at_home i own = ap (λ c. at (known c) i) own ∙ ap (λ cs. at cs i) here

  in_time : ((c j : ℕ) → at (known c) j ≤ at (known (home m j)) j) → (to : ℕ) (letter : Letter)
      (c : Content) → IsNumbered m cpu now to c →
      IsInTimeIn m known (posted cpu (to, letter)) c
  in_time below to letter (SendLetter s receiver message zero_timeout) n = λ i place.
      let t = n i place in
      let same = at_home i t.1 in
      (sym t.1, omega (arith, t.0))
  in_time below to letter (WithdrawLetter s receiver cause) n = λ i place.
      let t = n i place in
      let same = at_home i t.1.0 in
      let le = below to i in
      (sym t.1.0, (λ e. t.1.1 (e ∙ t.1.0), (omega (arith, t.0), omega (arith, t.0))))
  in_time below to letter (DoneLetter s result) n = tt
  in_time below to letter (GoneLetter id) n = tt
  in_time below to letter (OrderLetter caller target what) n = tt
  in_time below to letter (OrderDoneLetter caller) n = tt
  in_time below to letter (RetargetLetter o) n = tt

  all_in_time : ((c j : ℕ) → at (known c) j ≤ at (known (home m j)) j) → (ls : List (ℕ × Letter)) →
      AllByRecursion IsNew ls → AllByRecursion (IsInTime m known) (map (posted cpu) ls)
  all_in_time below [] n = tt
  all_in_time below (l ∷ ls) n =
      (in_time below l.0 l.1 l.1.content n.0, all_in_time below ls n.1)

  -- A letter that is posted rises above those before it.
  above : (p : Posted) (b : Content) (to : ℕ) (c : Content) → IsInTimeIn m known p b →
      IsNumbered m cpu now to c → IsNoEarlier m b c
  above p (SendLetter s receiver message zero_timeout) to (WithdrawLetter t other cause) old n =
      λ i place there.
      let o = old i place in
      let w = n i there in
      let same = at_home i w.1.0 in
      omega (arith, o.1, w.0)
  above p (SendLetter s receiver message zero_timeout) to (SendLetter t other words timeout) old n = tt
  above p (SendLetter s receiver message zero_timeout) to (DoneLetter t result) old n = tt
  above p (SendLetter s receiver message zero_timeout) to (GoneLetter id) old n = tt
  above p (SendLetter s receiver message zero_timeout) to (OrderLetter caller target what) old n = tt
  above p (SendLetter s receiver message zero_timeout) to (OrderDoneLetter caller) old n = tt
  above p (SendLetter s receiver message zero_timeout) to (RetargetLetter o) old n = tt
  above p (DoneLetter s result) to c old n = tt
  above p (WithdrawLetter s receiver cause) to c old n = tt
  above p (GoneLetter id) to c old n = tt
  above p (OrderLetter caller target what) to c old n = tt
  above p (OrderDoneLetter caller) to c old n = tt
  above p (RetargetLetter o) to c old n = tt

  all_above : (p : Posted) (ls : List (ℕ × Letter)) → IsInTime m known p →
      AllByRecursion IsNew ls → AllByRecursion (Rises m p) (map (posted cpu) ls)
  all_above p [] old n = tt
  all_above p (l ∷ ls) old n =
      (above p p.letter.content l.0 l.1.content old n.0, all_above p ls old n.1)

  new_rising : ((c j : ℕ) → at (known c) j ≤ at (known (home m j)) j) → (ls : List (ℕ × Letter)) →
      AllByRecursion IsNew ls → AreRising m (map (posted cpu) ls)
  new_rising below [] n = tt
  new_rising below (l ∷ ls) n = (
    all_above (posted cpu l) ls (in_time below l.0 l.1 l.1.content n.0) n.1,
    new_rising below ls n.1,
  )

  rising_join : (ps : List Posted) (ls : List (ℕ × Letter)) → AllByRecursion IsNew ls →
      AllByRecursion (IsInTime m known) ps → AreRising m ps → AreRising m (map (posted cpu) ls) →
      AreRising m (ps ++ map (posted cpu) ls)
  rising_join [] ls n old rises new = new
  rising_join (p ∷ ps) ls n old rises new = (
    all_join (Rises m p) ps (map (posted cpu) ls) rises.0 (all_above p ls old.0 n),
    rising_join ps ls n old.1 rises.1 new,
  )

  pub posted_in_number : (mail : List Posted) (ls : List (ℕ × Letter)) → IsInNumber m known mail →
      AllByRecursion IsNew ls → IsInNumber m known (mail ++ map (posted cpu) ls)
  posted_in_number mail ls n new = record {
    below = n.below;
    letters = all_join (IsInTime m known) mail (map (posted cpu) ls) n.letters
        (all_in_time n.below ls new);
    order = rising_join mail ls new n.letters n.order (new_rising n.below ls new);
  }
