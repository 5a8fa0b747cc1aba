-- The letters under way of a pair of processors, where letters are posted and where one is taken.
use Rattle.std.proofs.Common.{◌≡◌, ℕ, Bool, true, false, cond, ◌&&◌, List, [], ◌∷◌, ◌++◌, map, refl, ap, sym, ◌∙◌}
use Rattle.std.specs.Prelude.{filter, ◌==◌}
use Rattle.std.proofs.lemmas.Bool.{eqb-true}
use Rattle.std.proofs.lemmas.List.{map-append}
use Rattle.std.proofs.lemmas.List.Elements.{filter-append}
use Rattle.l4_core_model.specs.Letters.{Letter}
use Rattle.l4_core_model.specs.Runs.{Posted, is_between, letters, without_first, posted}
use Rattle.l4_merge.specs.Transitions.{letters_with}

pub letters_with-append : (cpu : ℕ) (xs ys : List (ℕ × Letter)) → letters_with cpu (xs ++ ys) ≡ letters_with cpu xs ++ letters_with cpu ys
letters_with-append cpu xs ys =
    ap (map (λ p. p.1)) (filter-append (λ p. p.0 == cpu) xs ys) ∙ map-append (λ p. p.1) (filter (λ p. p.0 == cpu) xs) (filter (λ p. p.0 == cpu) ys)

pub letters-append : (from to : ℕ) (xs ys : List Posted) → letters (xs ++ ys) from to ≡ letters xs from to ++ letters ys from to
letters-append from to xs ys =
    ap (map (λ p. p.letter)) (filter-append (is_between from to) xs ys)
    ∙ map-append (λ p. p.letter) (filter (is_between from to) xs) (filter (is_between from to) ys)

-- What one processor posts goes under way.

pub no_letters : (b : Bool) → ◌≡◌ {A = List Letter} [] (cond b [] [])
no_letters true = refl
no_letters false = refl

pub letters-posted : (cpu from to : ℕ) (ls : List (ℕ × Letter)) → letters (map (posted cpu) ls) from to ≡ cond (cpu == from) (letters_with to ls) []
letters-posted cpu from to [] = no_letters (cpu == from)
letters-posted cpu from to (l ∷ ls) = put (cpu == from) (l.0 == to) (letters-posted cpu from to ls)
  where
    more : List Posted
    more = filter (is_between from to) (map (posted cpu) ls)

    put : (b c : Bool) → letters (map (posted cpu) ls) from to ≡ cond b (letters_with to ls) [] →
        map (λ (p : Posted). p.letter) (cond (b && c) (posted cpu l ∷ more) more) ≡
        cond b (map (λ p. p.1) (cond c (l ∷ filter (λ p. p.0 == to) ls) (filter (λ p. p.0 == to) ls))) []
    put true true rest = ap (λ xs. l.1 ∷ xs) rest
    put true false rest = rest
    put false c rest = rest

-- The first one of a pair is taken.

pub letters-without_first : (from to : ℕ) (mail : List Posted) (l : Letter) (rest : List Letter) → letters mail from to ≡ l ∷ rest →
    letters (without_first from to mail) from to ≡ rest
letters-without_first from to [] l rest is = cc
letters-without_first from to (p ∷ ps) l rest is = by (is_between from to p) refl is (letters-without_first from to ps l rest)
  where
    kept : Bool → List Posted → List Letter
    kept b ps = map (λ (p : Posted). p.letter) (cond b (p ∷ filter (is_between from to) ps) (filter (is_between from to) ps))

    by : (b : Bool) → is_between from to p ≡ b → kept b ps ≡ l ∷ rest → (letters ps from to ≡ l ∷ rest → letters (without_first from to ps) from to ≡ rest) →
        letters (cond b ps (p ∷ without_first from to ps)) from to ≡ rest
    by true h is more = cc
    by false h is more = ap (λ b. kept b (without_first from to ps)) h ∙ more is

-- Those of all other pairs stay.
pub letters-without_other : (from to q p : ℕ) (mail : List Posted) → (from ≡ q → to ≡ p → ⊥) → letters (without_first from to mail) q p ≡ letters mail q p
letters-without_other from to q p [] other = refl
letters-without_other from to q p (x ∷ xs) other = by (is_between from to x) refl (letters-without_other from to q p xs other)
  where
    kept : Bool → List Posted → List Letter
    kept b xs = map (λ (p : Posted). p.letter) (cond b (x ∷ filter (is_between q p) xs) (filter (is_between q p) xs))

    not_both : is_between from to x ≡ true → is_between q p x ≡ false
    not_both h = both (x.from == from) (x.to == to) (x.from == q) (x.to == p) refl refl refl refl h
      where
        both : (a b c d : Bool) → (x.from == from) ≡ a → (x.to == to) ≡ b → (x.from == q) ≡ c → (x.to == p) ≡ d → (a && b) ≡ true → (c && d) ≡ false
        both true true true true s t u v h =
            absurd (other (sym (eqb-true x.from from s) ∙ eqb-true x.from q u) (sym (eqb-true x.to to t) ∙ eqb-true x.to p v))
        both true true true false s t u v h = refl
        both true true false d s t u v h = refl
        both true false c d s t u v h = cc
        both false b c d s t u v h = cc

    stays : (c : Bool) → letters (without_first from to xs) q p ≡ letters xs q p → kept c (without_first from to xs) ≡ kept c xs
    stays true rest = ap (λ ys. x.letter ∷ ys) rest
    stays false rest = rest

    by : (b : Bool) → is_between from to x ≡ b → letters (without_first from to xs) q p ≡ letters xs q p →
        letters (cond b xs (x ∷ without_first from to xs)) q p ≡ letters (x ∷ xs) q p
    by true h rest = ap (λ c. kept c xs) (sym (not_both h))
    by false h rest = stays (is_between q p x) rest
