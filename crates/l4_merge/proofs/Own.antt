-- Of the transitions of all processors, those of one.
use Rattle.std.proofs.Common.{◌≡◌, ℕ, Bool, true, false, cond, List, [], ◌∷◌, ◌++◌, refl, ap, ◌∙◌}
use Rattle.std.specs.Prelude.{filter, ◌==◌}
use Rattle.std.specs.List.{AllByRecursion}
use Rattle.std.proofs.lemmas.Bool.{eq-eqb, ne_eqb}
use Rattle.l4_core_model.specs.Letters.{Letter}
use Rattle.l4_core_model.proofs.Lists.{all-map}
use Rattle.l4_merge.specs.Transitions.{letter_of, Transition, posted_by, handled_by, letters_with}
use Rattle.l4_merge.proofs.Lists.{filter-none}
use Rattle.l4_merge.proofs.Mail.{letters_with-append}

-- In the order in which they stand among all.
abbrev pub own : (cpu : ℕ) → List Transition → List Transition
own cpu = filter (λ d. d.cpu == cpu)

pub own_first : (cpu : ℕ) (d : Transition) (ds : List Transition) → d.cpu ≡ cpu → own cpu (d ∷ ds) ≡ d ∷ own cpu ds
own_first cpu d ds same = ap (λ b. cond b (d ∷ own cpu ds) (own cpu ds)) (eq-eqb d.cpu cpu same)

pub own_all : (cpu : ℕ) (ds : List Transition) → AllByRecursion (λ d. d.cpu ≡ cpu) ds → own cpu ds ≡ ds
own_all cpu [] a = refl
own_all cpu (d ∷ ds) a = own_first cpu d ds a.0 ∙ ap (λ xs. d ∷ xs) (own_all cpu ds a.1)

pub own_none : (cpu : ℕ) (ds : List Transition) → AllByRecursion (λ d. d.cpu ≡ cpu → ⊥) ds → own cpu ds ≡ []
own_none cpu ds a =
    filter-none (λ (d : Transition). d.cpu == cpu) ds (all-map (λ (d : Transition). d.cpu ≡ cpu → ⊥) (λ d. (d.cpu == cpu) ≡ false) (λ d ne. ne_eqb d.cpu cpu ne) ds a)

-- The letters that they post and handle

-- Those of a transition, where it is of this processor.
abbrev pub if_own : (cpu : ℕ) → Transition → List Letter → List Letter
if_own cpu d ls = cond (d.cpu == cpu) ls []

pub posted_own : (from to : ℕ) (d : Transition) (ds : List Transition) →
    letters_with to (posted_by (own from (d ∷ ds))) ≡ if_own from d (letters_with to d.work.letters) ++ letters_with to (posted_by (own from ds))
posted_own from to d ds = by (d.cpu == from)
  where
    by : (b : Bool) → letters_with to (posted_by (cond b (d ∷ own from ds) (own from ds))) ≡
        cond b (letters_with to d.work.letters) [] ++ letters_with to (posted_by (own from ds))
    by true = letters_with-append to d.work.letters (posted_by (own from ds))
    by false = refl

pub handled_own : (from to : ℕ) (d : Transition) (ds : List Transition) →
    letters_with from (handled_by (own to (d ∷ ds))) ≡ if_own to d (letters_with from (letter_of d.event)) ++ letters_with from (handled_by (own to ds))
handled_own from to d ds = by (d.cpu == to)
  where
    by : (b : Bool) → letters_with from (handled_by (cond b (d ∷ own to ds) (own to ds))) ≡
        cond b (letters_with from (letter_of d.event)) [] ++ letters_with from (handled_by (own to ds))
    by true = letters_with-append from (letter_of d.event) (handled_by (own to ds))
    by false = refl
