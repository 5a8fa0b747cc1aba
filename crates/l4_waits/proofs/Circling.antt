-- A circle is found exactly where there is one.
use Rattle.std.proofs.Common.{◌≡◌, ℕ, zero, suc, ◌<◌, ◌≤◌, eqb, Bool, true, false, cond, Option, Some, None, List, [], ◌∷◌, length, refl, ap, sym, ◌∙◌, subst, arith}
use Rattle.std.proofs.lemmas.Bool.{eqb-true}
use Rattle.std.proofs.lemmas.Bool.Decides.{nat_tests}
use Rattle.std.proofs.lemmas.Map.Keys.{IsDistinct-cons}
use Rattle.std.proofs.lemmas.Map.Steps.{length-le_from_distinct_below}
use Rattle.std.specs.Prelude.{◌==◌, nat_lt, ◌↔◌, ◌||◌}
use Rattle.std.specs.List.{AllByRecursion, IsDistinct, list_any}
use Rattle.std.specs.Option.{option_map}
use Rattle.l4_model.proofs.Chains.{some_is}
use Rattle.l4_waits.proofs.Ways.{way_first, way_on}
use Rattle.l4_waits.specs.Circles.{next_at, way_back, circle_at, Leads, IsCircle}

abbrev AreAbove : ℕ → List ℕ → Type 0
AreAbove first others = AllByRecursion (λ i. first < i) others

-- A way that is found leads back.
found_leads : (nexts : List (Option ℕ)) (first left from : ℕ) (others : List ℕ) (at : Option ℕ) → next_at nexts from ≡ at → way_back nexts first left at ≡ Some others →
    Leads nexts others from first × AreAbove first others
found_leads nexts first zero from others at here found = cc
found_leads nexts first (suc left) from others None here found = cc
found_leads nexts first (suc left) from others (Some i) here found =
    by (i == first) refl (nat_lt first i) refl (way_back nexts first left (next_at nexts i)) refl found (λ is behind. found_leads nexts first left i is (next_at nexts i) refl behind)
  where
    by : (same : Bool) → (i == first) ≡ same → (above : Bool) → nat_lt first i ≡ above → (rest : Option (List ℕ)) → way_back nexts first left (next_at nexts i) ≡ rest →
        cond same (Some []) (cond above (option_map (λ is. i ∷ is) rest) None) ≡ Some others →
        ((is : List ℕ) → way_back nexts first left (next_at nexts i) ≡ Some is → Leads nexts is i first × AreAbove first is) →
        Leads nexts others from first × AreAbove first others
    by true same above up rest behind found further =
        subst (λ is. Leads nexts is from first × AreAbove first is) (some_is [] others found) (here ∙ ap Some (eqb-true i first same), tt)
    by false same false up rest behind found further = cc
    by false same true up None behind found further = cc
    by false same true up (Some is) behind found further =
        let on = further is behind in
        subst (λ is. Leads nexts is from first × AreAbove first is) (some_is (i ∷ is) others found) ((here, on.0), (grind (arith, nat_tests), on.1))

-- A way that leads back is found, in enough steps.
leads_found : (nexts : List (Option ℕ)) (first : ℕ) (others : List ℕ) (left from : ℕ) (at : Option ℕ) → next_at nexts from ≡ at → Leads nexts others from first → AreAbove first others → length others < left →
    way_back nexts first left at ≡ Some others
leads_found nexts first [] zero from at here leads above lt = absurd (omega (arith, lt))
leads_found nexts first [] (suc left) from at here leads above lt =
    subst (λ a. way_back nexts first (suc left) a ≡ Some []) (sym leads ∙ here) (way_first nexts first left)
leads_found nexts first (i ∷ others) zero from at here leads above lt = absurd (omega (arith, lt))
leads_found nexts first (i ∷ others) (suc left) from at here leads above lt =
    subst (λ a. way_back nexts first (suc left) a ≡ Some (i ∷ others)) (sym leads.0 ∙ here)
    (way_on nexts first left i above.0 ∙ ap (option_map (λ is. i ∷ is)) (leads_found nexts first others left i (next_at nexts i) refl leads.1 above.1 (omega (arith, lt))))

-- A circle has no more places than there are.

next_within : (nexts : List (Option ℕ)) (i j : ℕ) → next_at nexts i ≡ Some j → i < length nexts
next_within [] i j e = cc
next_within (x ∷ nexts) zero j e = omega arith
next_within (x ∷ nexts) (suc i) j e = omega (arith, next_within nexts i j e)

or_cases : (a b : Bool) → (a || b) ≡ true → (P : Type 0) → (a ≡ true → P) → (b ≡ true → P) → P
or_cases true b h P left right = left refl
or_cases false b h P left right = right h

begins : (nexts : List (Option ℕ)) (along : List ℕ) (from to : ℕ) → Leads nexts along from to → from < length nexts
begins nexts [] from to leads = next_within nexts from to leads
begins nexts (i ∷ along) from to leads = next_within nexts from i leads.0

are_within : (nexts : List (Option ℕ)) (along : List ℕ) (from to : ℕ) → Leads nexts along from to → (q : ℕ) → list_any (eqb q) (from ∷ along) ≡ true → q < length nexts
are_within nexts [] from to leads q h =
    or_cases (eqb q from) false h (q < length nexts) (λ e. subst (λ n. n < length nexts) (sym (eqb-true q from e)) (begins nexts [] from to leads)) (λ e. cc)
are_within nexts (i ∷ along) from to leads q h =
    or_cases (eqb q from) (list_any (eqb q) (i ∷ along)) h (q < length nexts) (λ e. subst (λ n. n < length nexts) (sym (eqb-true q from e)) (begins nexts (i ∷ along) from to leads)) (are_within nexts along i to leads.1 q)

-- There is one way back from a place.
one_way : (nexts : List (Option ℕ)) (first : ℕ) (xs ys : List ℕ) (from : ℕ) → Leads nexts xs from first → Leads nexts ys from first → AreAbove first xs → AreAbove first ys → xs ≡ ys
one_way nexts first [] [] from a b up vp = refl
one_way nexts first [] (y ∷ ys) from a b up vp = let e : y ≡ first = some_is y first (sym b.0 ∙ a) in absurd (omega (arith, e, vp.0))
one_way nexts first (x ∷ xs) [] from a b up vp = let e : x ≡ first = some_is x first (sym a.0 ∙ b) in absurd (omega (arith, e, up.0))
one_way nexts first (x ∷ xs) (y ∷ ys) from a b up vp =
    let e : x ≡ y = some_is x y (sym a.0 ∙ b.0) in
    let rest : Leads nexts ys x first = subst (λ z. Leads nexts ys z first) (sym e) b.1 in
    ap (λ z. z ∷ xs) e ∙ ap (λ zs. y ∷ zs) (one_way nexts first xs ys x a.1 rest up.1 vp.1)

-- Where a place comes twice, a shorter way leads back from it.
record Shorter (nexts : List (Option ℕ)) (first i : ℕ) (xs : List ℕ) : Type 0 where
  along : List ℕ
  leads : Leads nexts along i first
  above : AreAbove first along
  fewer : length along < length xs

shorter : (nexts : List (Option ℕ)) (first i : ℕ) (xs : List ℕ) (from : ℕ) → Leads nexts xs from first → AreAbove first xs → list_any (eqb i) xs ≡ true → Shorter nexts first i xs
shorter nexts first i [] from leads above h = cc
shorter nexts first i (x ∷ xs) from leads above h =
    or_cases (eqb i x) (list_any (eqb i) xs) h (Shorter nexts first i (x ∷ xs))
    (λ e. record { along = xs; leads = subst (λ n. Leads nexts xs n first) (sym (eqb-true i x e)) leads.1; above = above.1; fewer = omega arith })
    (λ e. let s = shorter nexts first i xs x leads.1 above.1 e in record { along = s.along; leads = s.leads; above = s.above; fewer = omega (arith, s.fewer) })

none_again : (nexts : List (Option ℕ)) (first i : ℕ) (xs : List ℕ) → Leads nexts xs i first → AreAbove first xs → list_any (eqb i) xs ≡ true → ⊥
none_again nexts first i xs leads above h =
    let s = shorter nexts first i xs i leads above h in
    let e : length xs ≡ length s.along = ap length (one_way nexts first xs s.along i leads s.leads above s.above) in
    omega (arith, e, s.fewer)

none_of : (i : ℕ) (xs : List ℕ) → (list_any (eqb i) xs ≡ true → ⊥) → AllByRecursion (λ y. eqb i y ≡ false) xs
none_of i [] never = tt
none_of i (x ∷ xs) never = by (eqb i x) refl (list_any (eqb i) xs) refl (none_of i xs)
  where
    by : (a : Bool) → eqb i x ≡ a → (b : Bool) → list_any (eqb i) xs ≡ b → ((list_any (eqb i) xs ≡ true → ⊥) → AllByRecursion (λ y. eqb i y ≡ false) xs) →
        AllByRecursion (λ y. eqb i y ≡ false) (x ∷ xs)
    by true e b f rest = absurd (never (rw e refl))
    by false e true f rest = absurd (never (rw (e, f) refl))
    by false e false f rest = (e, rest (λ h. cc))

are_distinct : (nexts : List (Option ℕ)) (first : ℕ) (xs : List ℕ) (from : ℕ) → Leads nexts xs from first → AreAbove first xs → IsDistinct eqb xs
unfolding IsDistinct
are_distinct nexts first [] from leads above = tt
are_distinct nexts first (x ∷ xs) from leads above = (none_of x xs (none_again nexts first x xs leads.1 above.1), are_distinct nexts first xs x leads.1 above.1)

first_apart : (first : ℕ) (xs : List ℕ) → AreAbove first xs → AllByRecursion (λ y. eqb first y ≡ false) xs
first_apart first [] above = tt
first_apart first (x ∷ xs) above = (grind (arith, nat_tests, above.0), first_apart first xs above.1)

few : (nexts : List (Option ℕ)) (first : ℕ) (others : List ℕ) → Leads nexts others first first → AreAbove first others → length others < length nexts
few nexts first others leads above =
    let distinct : IsDistinct eqb (first ∷ others) = IsDistinct-cons eqb first others (first_apart first others above) (are_distinct nexts first others first leads above) in
    let most : length (first ∷ others) ≤ length nexts = length-le_from_distinct_below (first ∷ others) (length nexts) distinct (are_within nexts others first first leads) in
    omega (arith, most)

others_are : (first : ℕ) (o : Option (List ℕ)) (others : List ℕ) → option_map (λ is. first ∷ is) o ≡ Some (first ∷ others) → o ≡ Some others
others_are first None others h = cc
others_are first (Some is) others h = cc

pub circles_exactly : (nexts : List (Option ℕ)) (first : ℕ) (others : List ℕ) → (circle_at nexts first ≡ Some (first ∷ others)) ↔ IsCircle nexts first others
circles_exactly nexts first others = (to, from)
  where
    to : circle_at nexts first ≡ Some (first ∷ others) → IsCircle nexts first others
    to found =
        let way = others_are first (way_back nexts first (length nexts) (next_at nexts first)) others found in
        let both = found_leads nexts first (length nexts) first others (next_at nexts first) refl way in
        record { leads_back = both.0; earliest = both.1 }

    from : IsCircle nexts first others → circle_at nexts first ≡ Some (first ∷ others)
    from c =
        ap (option_map (λ is. first ∷ is))
        (leads_found nexts first others (length nexts) first (next_at nexts first) refl c.leads_back c.earliest (few nexts first others c.leads_back c.earliest))
