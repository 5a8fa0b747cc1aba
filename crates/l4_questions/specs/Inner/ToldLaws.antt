-- Why what was told of endings, and then of others, was told of all.
use Rattle.std.proofs.Common.{◌≡◌, ℕ, ◌+◌, ◌≤◌, Bool, true, false, List, [], ◌∷◌, ◌++◌, length, map, take, refl, ap, ap₂, sym, subst, ◌∙◌, append_assoc, append-nil, arith}
use Rattle.std.specs.Prelude.{◌||◌, not, Option}
use Rattle.std.specs.Option.{option_copied}
use Rattle.std.proofs.Math.Seq.{take-append-add}
use Rattle.std.proofs.lemmas.List.{length-append, map-append}
use Rattle.std.proofs.lemmas.List.Elements.{filter-append}
use Rattle.l4_model.specs.Machine.{Machine}
use Rattle.l4_expect.specs.Expected.{Expected}
use Rattle.l4_explore.specs.Search.{Seen}
use Rattle.l4_questions.specs.Asked.{asked_of, is_asked}
use Rattle.l4_questions.specs.Beside.{Shown, shown_as}
use Rattle.l4_questions.specs.Endings.{Ending}
use Rattle.l4_questions.specs.Printed.{ending_text, numbered_text, unmet_of}
use Rattle.l4_questions.specs.Told.{MayAppend, Takes}
use Rattle.l4_questions.specs.Inner.Counted.{has_any}
use Rattle.l4_questions.specs.Inner.Telling.{text_behind, AreTold}
use Rattle.l4_questions.specs.Inner.Tellings.{Tells}
use Rattle.l4_questions.specs.declared.judged.Told.{Told}
use Rattle.l4_questions.specs.declared.question.Question.{Question}
use Rattle.l4_questions.specs.declared.telling.Asking.{Asking}
use Rattle.l4_questions.specs.declared.telling.Telling.{Telling}

pub appended_both : (a b c front back : List ℕ) (all : Bool) → MayAppend a b front true →
    MayAppend b c back all → MayAppend a c (front ++ back) all
appended_both a b c front back true one two =
    two ∙ ap (λ (x : List ℕ). x ++ back) one ∙ append_assoc a front back
appended_both a b c front back false one two = tt

-- The texts of both lists
numbered_both : (text_of : ℕ → Ending → List ℕ) (number : ℕ) (front back : List Ending) →
    numbered_text text_of number front ++ numbered_text text_of (number + length front) back
    ≡ numbered_text text_of number (front ++ back)
numbered_both text_of number [] back =
    let same : number + 0 ≡ number = omega arith in
    ap (λ n. numbered_text text_of n back) same
numbered_both text_of number (e ∷ front) back =
    let same : number + length (e ∷ front) ≡ number + 1 + length front = omega arith in
    append_assoc (text_of number e) (numbered_text text_of (number + 1) front)
    (numbered_text text_of (number + length (e ∷ front)) back)
    ∙ ap (λ n. text_of number e ++ (numbered_text text_of (number + 1) front ++ numbered_text text_of n back)) same
    ∙ ap (λ (text : List ℕ). text_of number e ++ text) (numbered_both text_of (number + 1) front back)

behind_both : (text_of : ℕ → Ending → List ℕ) (q : Question) (old new : ℕ) (front back : List Ending) →
    new ≡ old + length (asked_of q front) →
    text_behind text_of q old front ++ text_behind text_of q new back
    ≡ text_behind text_of q old (front ++ back)
behind_both text_of q old new front back is =
    let next : new + 1 ≡ old + 1 + length (asked_of q front) = omega (arith, is) in
    ap (λ n. text_behind text_of q old front ++ numbered_text text_of n (asked_of q back)) next
    ∙ numbered_both text_of (old + 1) (asked_of q front) (asked_of q back)
    ∙ ap (λ es. numbered_text text_of (old + 1) es) (sym (filter-append (is_asked q) front back))

any_both : {A : Type 0} (b : Bool) (front back : List A) →
    ((b || has_any front) || has_any back) ≡ (b || has_any (front ++ back))
any_both true front back = refl
any_both false [] back = refl
any_both false (x ∷ front) back = refl

module _ {T : Type 0} (takes : (old new : T) → Takes) (q : Question) (shown : Shown) (expected : Option (List Expected)) where
  pub told_none : ((x : T) → takes x x [] true) → (x : T) (t : Told) → t.is_refused ≡ false →
      AreTold (takes x x) q shown expected t t [] true
  told_none nothing x t whole = record {
    taken = nothing x;
    unmet = sym (append-nil t.unmet.items);
    count = omega arith;
    any = any_none t.is_any;
    whole = whole;
  }
    where
      any_none : (b : Bool) → b ≡ (b || false)
      any_none true = refl
      any_none false = refl

  pub told_both : ((a b c : T) (front back : List ℕ) (all : Bool) → takes a b front true → takes b c back all → takes a c (front ++ back) all) →
      (a b c : T) (x y z : Told) (front back : List Ending) (more : Bool) →
      AreTold (takes a b) q shown expected x y front true →
      AreTold (takes b c) q shown expected y z back more →
      AreTold (takes a c) q shown expected x z (front ++ back) more
  told_both joined a b c x y z front back true one two = record {
    taken = subst (λ ls. takes a c ls true) (behind_both (ending_text shown) q x.count y.count front back one.count)
        (joined a b c _ _ true one.taken two.taken);
    unmet = two.unmet ∙ ap (λ (u : List ℕ). u ++ text_behind (unmet_of expected) q y.count back) one.unmet
        ∙ append_assoc x.unmet.items _ _
        ∙ ap (λ (u : List ℕ). x.unmet.items ++ u) (behind_both (unmet_of expected) q x.count y.count front back one.count);
    count = let e = one.count in let f = two.count in
        let l = ap length (filter-append (is_asked q) front back) in
        let m = length-append (asked_of q front) (asked_of q back) in omega (arith, e, f, l, m);
    any = two.any ∙ ap (λ b. b || has_any back) one.any ∙ any_both x.is_any front back;
    whole = two.whole;
  }
  told_both joined a b c x y z front back false one two = record {
    count = length front + two.count;
    within = let w = two.within in let l = length-append front back in omega (arith, w, l);
    taken = subst (λ ls. takes a c ls (not z.is_refused))
        (behind_both (ending_text shown) q x.count y.count front (take two.count back) one.count
        ∙ ap (λ es. text_behind (ending_text shown) q x.count es) (sym (take-append-add front back two.count)))
        (joined a b c _ _ (not z.is_refused) one.taken two.taken);
  }

module _ {S T : Type 0} (ending : Machine → Seen → Ending) (takes : (old new : T) → Takes) where
  pub tells_none : ((x : T) → takes x x [] true) → (x : Telling S T) → Tells ending takes x x [] true
  tells_none nothing x = (
    record { teller = refl; told = refl; asking = refl },
    λ whole. told_none takes _ _ _ nothing x.teller.now x.told.now whole,
  )

  pub tells_both : ((a b c : T) (front back : List ℕ) (all : Bool) → takes a b front true → takes b c back all → takes a c (front ++ back) all) →
      (a b c : Telling S T) (front back : List Seen) (more : Bool) → Tells ending takes a b front true →
      Tells ending takes b c back more → Tells ending takes a c (front ++ back) more
  tells_both joined a b c front back more one two = (
    record {
      teller = two.0.teller ∙ one.0.teller;
      told = two.0.told ∙ one.0.told;
      asking = two.0.asking ∙ one.0.asking;
    },
    λ whole.
        let first = one.1 whole in
        let f = ending a.asking.now.machine.now in
        subst (λ es. AreTold (takes a.teller.now c.teller.now) a.asking.now.question.now
        (shown_as a.asking.now.beside.shown) (option_copied a.asking.now.beside.expected) a.told.now c.told.now es more)
        (sym (map-append f front back))
        (told_both takes _ _ _ joined a.teller.now b.teller.now c.teller.now a.told.now b.told.now c.told.now
        (map f front) (map f back) more first
        (subst (λ (asking : Asking). AreTold (takes b.teller.now c.teller.now) asking.question.now
        (shown_as asking.beside.shown) (option_copied asking.beside.expected) b.told.now c.told.now (map (ending asking.machine.now) back) more) one.0.asking
        (two.1 first.whole))),
  )
