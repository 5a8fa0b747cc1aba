-- What a listener is told, place by place.
use Rattle.std.proofs.Common.{◌≡◌, ℕ, ◌+◌, ◌<◌, ◌≤◌, inl, inr, Bool, true, false, Option, Some, Result, Ok, Err, OnErr, List, [], ◌∷◌, ◌++◌, length, take, subst, refl, ap, sym, ◌∙◌, append_assoc, append-nil, arith}
use Rattle.std.specs.Prelude.{if◌then◌else◌, nat_lt}
use Rattle.std.proofs.Math.ListN.{drop, length-append}
use Rattle.std.proofs.Math.Seq.{take-append_seam}
use Rattle.std.proofs.lemmas.List.Elements.{filter-append}
use Rattle.std.proofs.lemmas.List.{take-append-drop, take_all, take_more}
use Rattle.l4_explore.specs.Tries.{Next, State}
use Rattle.l4_explore.specs.Search.{Offers, Seen, has_code, met, seen_at, seen_next, unseen, AreFound, AreWithin, IsExplored}
use Rattle.l4_explore.specs.Told.{ends_among, HasBegun, Hears}
use Rattle.l4_explore.specs.Inner.Told.{AreMore, IsToldOn}

-- Of an answer with an error nothing else is said.
pub on_err : {A E : Type 0} (r : Result A E) (P : Type 0) → P → OnErr r P
on_err (Ok x) P p = tt
on_err (Err e) P p = p

-- With one more place
ends_more : (found : List Seen) (place : ℕ) → place < length found →
    ends_among (take (place + 1) found)
    ≡ ends_among (take place found) ++ ends_among (seen_at found place ∷ [])
ends_more found place inside =
    ap ends_among (take_more found place unseen inside)
    ∙ filter-append (λ s. s.state.is_end) (take place found) (seen_at found place ∷ [])

-- Those among the first so many, and the others
ends_parted : (found : List Seen) (count : ℕ) →
    ends_among found ≡ ends_among (take count found) ++ ends_among (drop count found)
ends_parted found count =
    sym (ap ends_among (take-append-drop count found))
    ∙ filter-append (λ s. s.state.is_end) (take count found) (drop count found)

-- Who was told of the ends before one place was told of those before another.
abbrev pub GoesOn : {Of : Type 0} → (hears : (old new : Of) → Hears) → (old new : Of) →
    (found : List Seen) → (from place : ℕ) → (more : Bool) → Type 0
GoesOn {Of} hears old new found from place more =
    (start : Of) → hears start old (ends_among (take from found)) true →
    hears start new (ends_among (take place found)) more

module _ {Of : Type 0} (hears : (old new : Of) → Hears)
    (joined : (a b c : Of) (front back : List Seen) (more : Bool) → hears a b front true →
    hears b c back more → hears a c (front ++ back) more)
    (old : Of) (found : List Seen) (from place : ℕ) (inside : place < length found) (now new : Of)
    (more : Bool) (on : GoesOn hears old now found from place true)
    (heard : hears now new (ends_among (seen_at found place ∷ [])) more) where
  pub goes_on : GoesOn hears old new found from (place + 1) more
  goes_on start before =
      subst (λ ends. hears start new ends more) (sym (ends_more found place inside))
      (joined start now new (ends_among (take place found))
      (ends_among (seen_at found place ∷ [])) more (on start before) heard)

  -- It wants to hear of no more.
  pub told_enough : more ≡ false → IsToldOn hears old new found from more
  told_enough enough = record {
    count = place + 1;
    within = omega (arith, inside);
    all = λ is. cc;
    told = goes_on;
  }

-- It was told of all.
pub told_all : {Of : Type 0} (hears : (old new : Of) → Hears) (old new : Of) (found : List Seen)
    (from place : ℕ) → place ≡ length found → GoesOn hears old new found from place true →
    IsToldOn hears old new found from true
told_all hears old new found from place is on = record {
  count = place;
  within = omega (arith, is);
  all = λ _. is;
  told = on;
}

-- Of the first states it was told before the others.

take_none : (found : List Seen) → [] ≡ ends_among (take 0 found)
take_none [] = refl
take_none (s ∷ found) = refl

pub told_none : {Of : Type 0} (hears : (old new : Of) → Hears) (start now : Of)
    (found : List Seen) → hears start now [] true → hears start now (ends_among (take 0 found)) true
told_none hears start now found silent =
    subst (λ ends. hears start now ends true) (take_none found) silent

pub told_before : {Of : Type 0} (hears : (old new : Of) → Hears) (start now : Of)
    (found new : List Seen) (from : ℕ) → from ≡ length found → AreMore found new →
    hears start now (ends_among found) true → hears start now (ends_among (take from new)) true
told_before hears start now found new from is are told =
    subst (λ (xs : List Seen). hears start now (ends_among xs) true)
    (sym (ap (λ n. take n new) is ∙ ap (take (length found)) are.is
    ∙ take-append_seam found are.more))
    told

module _ {Of : Type 0} (hears : (old new : Of) → Hears) (start now new : Of) (found : List Seen)
    (from : ℕ) (more : Bool) (t : IsToldOn hears now new found from more)
    (before : hears start now (ends_among (take from found)) true) where
  pub told_whole : more ≡ true → hears start new (ends_among found) true
  told_whole is =
      subst (λ (xs : List Seen). hears start new (ends_among xs) true)
      (take_all t.count found (let all = t.all is in omega (arith, all)))
      (subst (λ b. hears start new (ends_among (take t.count found)) b) is (t.told start before))

  pub has_begun : (f : List ℕ → Option State) (offers : Offers) (asked depth : ℕ) → depth ≤ asked →
      IsExplored f offers found depth false → HasBegun f offers asked (hears start new) more
  has_begun f offers asked depth shallow explored =
      let front = ends_among (take t.count found) in
      let whole = ends_parted found t.count in
      record {
        found = found;
        depth = depth;
        shallow = shallow;
        explored = inr explored;
        count = length front;
        within = omega (arith, ap length whole, length-append front (ends_among (drop t.count found)));
        all = λ is. ap (λ xs. length (ends_among xs))
            (take_all t.count found (let all = t.all is in omega (arith, all)));
        told = subst (λ (xs : List Seen). hears start new xs more)
            (sym (ap (take (length front)) whole
            ∙ take-append_seam front (ends_among (drop t.count found))))
            (t.told start before);
      }

-- Memory was refused to the search.
pub not_begun : (f : List ℕ → Option State) (offers : Offers) (asked : ℕ) (hears : Hears) →
    hears [] true → (more : Bool) × HasBegun f offers asked hears more
not_begun f offers asked hears silent = (
  true,
  record {
    found = [];
    depth = 0;
    shallow = omega arith;
    explored = inl refl;
    count = 0;
    within = omega arith;
    all = λ _. refl;
    told = silent;
  },
)

pub begun : (f : List ℕ → Option State) (offers : Offers) (asked : ℕ) (hears : Hears)
    (found : List Seen) (depth : ℕ) → depth ≤ asked → IsExplored f offers found depth false →
    hears (ends_among found) true → (more : Bool) × HasBegun f offers asked hears more
begun f offers asked hears found depth shallow explored told = (
  true,
  record {
    found = found;
    depth = depth;
    shallow = shallow;
    explored = inr explored;
    count = length (ends_among found);
    within = omega arith;
    all = λ _. refl;
    told = subst (λ (xs : List Seen). hears xs true)
        (sym (take_all (length (ends_among found)) (ends_among found) (omega arith))) told;
  },
)

-- It may be told of each of them.
pub may_all : (M : Seen → Type 0) (f : List ℕ → Option State) (found : List Seen) (depth : ℕ) →
    AreFound f found → AreWithin found depth →
    ((s : Seen) → f s.schedule ≡ Some s.state → length s.schedule ≤ depth → M s) →
    (i : ℕ) → i < length found → M (seen_at found i)
may_all M f found depth all within may i inside =
    may (seen_at found i) (all.reached i inside) (within i inside)

-- What was found stays.

pub none_more : (found : List Seen) → AreMore found found
none_more found = record { more = []; is = sym (append-nil found) }

pub more_on : (first found new : List Seen) (from most : ℕ) (n : Next) (more : Bool) →
    AreMore first found → ◌≡◌ {A = List Seen × Bool} (new, more) (met found from most n) →
    AreMore first new
more_on first found new from most n more are is =
    by (has_code found n.state.code) (nat_lt (length found) most) is
  where
    grown : List Seen
    grown = found ++ seen_next found from n ∷ []

    by : (known room : Bool) → ◌≡◌ {A = List Seen × Bool} (new, more)
        (if known then (found, true) else if room then (grown, true) else (found, false)) →
        AreMore first new
    by true room e = record { more = are.more; is = ap (λ p. p.0) e ∙ are.is }
    by false true e = record {
      more = are.more ++ seen_next found from n ∷ [];
      is = ap (λ p. p.0) e ∙ ap (λ xs. xs ++ seen_next found from n ∷ []) are.is
          ∙ append_assoc first are.more (seen_next found from n ∷ []);
    }
    by false false e = record { more = are.more; is = ap (λ p. p.0) e ∙ are.is }
