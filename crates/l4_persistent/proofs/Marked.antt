-- The aims that are computed are all aims.
use Rattle.std.proofs.Common.{◌≡◌, ℕ, zero, suc, ◌+◌, ◌≤◌, ◌⊎◌, inl, inr, Bool, true, false, Option, Some, None, List, [], ◌∷◌, map, length, refl, ap, sym, ◌∙◌, arith}
use Rattle.std.specs.Prelude.{slice_get, ◌==◌, ◌||◌, unwrap_or}
use Rattle.std.specs.List.{list_any}
use Rattle.std.proofs.lemmas.Bool.{eqb-true}
use Rattle.std.proofs.lemmas.List.{length-map}
use Rattle.l4_model.specs.Machine.{Machine, Instr, End}
use Rattle.l4_model.specs.World.{is_in}
use Rattle.l4_core_model.specs.Local.{declared}
use Rattle.l4_persistent.specs.Inner.Posts.{Aim, At, AtLast, has_aim, places_behind, instruction_of, AreAims, is_marked, marked_on, marked_round, marked_rounds, aims_of}

or_left : (a b : Bool) → a ≡ true → (a || b) ≡ true
or_left true b h = refl
or_left false b h = cc

or_right : (a b : Bool) → b ≡ true → (a || b) ≡ true
or_right true b h = refl
or_right false b h = h

-- One of these passes a test.
any_of : (p : ℕ → Bool) (next : ℕ) (xs : List ℕ) → is_in next xs ≡ true → p next ≡ true → list_any p xs ≡ true
any_of p next [] h passes = cc
any_of p next (x ∷ xs) h passes = by (next == x) refl h (any_of p next xs)
  where
    by : (b : Bool) → (next == x) ≡ b → (b || is_in next xs) ≡ true →
        (is_in next xs ≡ true → p next ≡ true → list_any p xs ≡ true) → (p x || list_any p xs) ≡ true
    by true is h rest = or_left (p x) (list_any p xs) (ap p (sym (eqb-true next x is)) ∙ passes)
    by false is h rest = or_right (p x) (list_any p xs) (rest h passes)

-- How many are marked

abbrev count : List Bool → ℕ
count [] = 0
count (true ∷ bs) = suc (count bs)
count (false ∷ bs) = count bs

count_most : (bs : List Bool) → count bs ≤ length bs
count_most [] = omega arith
count_most (true ∷ bs) = omega (arith, count_most bs)
count_most (false ∷ bs) = omega (arith, count_most bs)

count_none : {A : Type 0} (xs : List A) → count (map (λ x. false) xs) ≡ 0
count_none [] = refl
count_none (x ∷ xs) = count_none xs

-- What was marked stays so, and where nothing is new, nothing changes.

-- One list has a mark wherever another has one.
abbrev Grows : List Bool → List Bool → Type 0
Grows [] [] = Unit {0}
Grows [] (c ∷ cs) = ⊥
Grows (b ∷ bs) [] = ⊥
Grows (b ∷ bs) (c ∷ cs) = (b ≡ true → c ≡ true) × Grows bs cs

grown : (bs cs : List Bool) → Grows bs cs → (bs ≡ cs) ⊎ (suc (count bs) ≤ count cs)
grown [] [] g = inl refl
grown [] (c ∷ cs) g = absurd g
grown (b ∷ bs) [] g = absurd g
grown (b ∷ bs) (c ∷ cs) g = by b c g.0 (grown bs cs g.1)
  where
    by : (b c : Bool) → (b ≡ true → c ≡ true) → (bs ≡ cs) ⊎ (suc (count bs) ≤ count cs) →
        (b ∷ bs ≡ c ∷ cs) ⊎ (suc (count (b ∷ bs)) ≤ count (c ∷ cs))
    by true true marks (inl same) = inl (ap (λ xs. true ∷ xs) same)
    by true true marks (inr more) = inr (omega (arith, more))
    by true false marks rest = let mark = marks refl in cc
    by false true marks (inl same) = let e = ap count same in inr (omega (arith, e))
    by false true marks (inr more) = inr (omega (arith, more))
    by false false marks (inl same) = inl (ap (λ xs. false ∷ xs) same)
    by false false marks (inr more) = inr more

round_grows : (m : Machine) (aim : Aim) (all : List Bool) (k : ℕ) (is : List Instr) (bs : List Bool) →
    length bs ≡ length is → Grows bs (marked_on m aim all k is bs)
round_grows m aim all k [] [] h = tt
round_grows m aim all k [] (b ∷ bs) h = absurd (omega (arith, h))
round_grows m aim all k (i ∷ is) [] h = absurd (omega (arith, h))
round_grows m aim all k (i ∷ is) (b ∷ bs) h = (
  or_left b (has_aim m i aim || list_any (is_marked all) (places_behind i k)),
  round_grows m aim all (k + 1) is bs (omega (arith, h)),
)

length_grows : (bs cs : List Bool) → Grows bs cs → length cs ≡ length bs
length_grows [] [] g = refl
length_grows [] (c ∷ cs) g = absurd g
length_grows (b ∷ bs) [] g = absurd g
length_grows (b ∷ bs) (c ∷ cs) g = ap suc (length_grows bs cs g.1)

module _ (m : Machine) (aim : Aim) (script : List Instr) where
  abbrev next : List Bool → List Bool
  next = marked_round m aim script

  -- Once a round marks nothing, none does.
  settles : (rounds : ℕ) (bs : List Bool) → next bs ≡ bs → next (marked_rounds m aim script rounds bs)
      ≡ marked_rounds m aim script rounds bs
  settles zero bs same = same
  settles (suc rounds) bs same = settles rounds (next bs) (ap next same)

  pub rounds_sized : (rounds : ℕ) (bs : List Bool) → length bs ≡ length script →
      length (marked_rounds m aim script rounds bs) ≡ length script
  rounds_sized zero bs size = size
  rounds_sized (suc rounds) bs size = rounds_sized rounds (next bs)
      (length_grows bs (next bs) (round_grows m aim bs 0 script bs size) ∙ size)

  settled : (rounds : ℕ) (bs : List Bool) → length bs ≡ length script → length script ≤ rounds + count bs →
      next (marked_rounds m aim script rounds bs) ≡ marked_rounds m aim script rounds bs
  settled zero bs size enough = by (grown bs (next bs) (round_grows m aim bs 0 script bs size))
    where
      by : (bs ≡ next bs) ⊎ (suc (count bs) ≤ count (next bs)) → next bs ≡ bs
      by (inl same) = sym same
      by (inr more) = absurd (omega (
        arith,
        more,
        enough,
        count_most (next bs),
        length_grows bs (next bs) (round_grows m aim bs 0 script bs size),
        size,
      ))
  settled (suc rounds) bs size enough = by (grown bs (next bs) (round_grows m aim bs 0 script bs size)) (λ more.
      settled rounds (next bs) (length_grows bs (next bs) (round_grows m aim bs 0 script bs size)
      ∙ size) (omega (arith, more, enough)))
    where
      by : (bs ≡ next bs) ⊎ (suc (count bs) ≤ count (next bs)) →
          (suc (count bs) ≤ count (next bs) → next (marked_rounds m aim script rounds (next bs))
          ≡ marked_rounds m aim script rounds (next bs)) →
          next (marked_rounds m aim script rounds (next bs)) ≡ marked_rounds m aim script rounds (next bs)
      by (inl same) rest = settles rounds (next bs) (ap next (sym same))
      by (inr more) rest = rest more

-- At each place

-- What is found at a place is what a round leaves there, if it leaves all as it is.
at_place : (m : Machine) (aim : Aim) (all : List Bool) (k : ℕ) (is : List Instr) (bs : List Bool) →
    length bs ≡ length is → marked_on m aim all k is bs ≡ bs → (j : ℕ) (i : Instr) →
    slice_get is j ≡ Some i → (has_aim m i aim || list_any (is_marked all) (places_behind i (k + j))) ≡ true →
    is_marked bs j ≡ true
at_place m aim all k [] bs size same j i at new = cc
at_place m aim all k (x ∷ is) [] size same j i at new = absurd (omega (arith, size))
at_place m aim all k (x ∷ is) (b ∷ bs) size same zero i at new =
    let here : (b || (has_aim m x aim || list_any (is_marked all) (places_behind x k))) ≡ b = cc in
    let one : x ≡ i = cc in
    let place : k + 0 ≡ k = omega arith in
    let marks : (has_aim m x aim || list_any (is_marked all) (places_behind x k)) ≡ true =
    ap (λ n. has_aim m x aim || list_any (is_marked all) (places_behind x n)) (sym place)
    ∙ ap (λ (i : Instr). has_aim m i aim || list_any (is_marked all) (places_behind i (k + 0))) one ∙ new in
    sym here ∙ or_right b (has_aim m x aim || list_any (is_marked all) (places_behind x k)) marks
at_place m aim all k (x ∷ is) (b ∷ bs) size same (suc j) i at new =
    let rest : marked_on m aim all (k + 1) is bs ≡ bs = cc in
    let place : k + suc j ≡ (k + 1) + j = omega arith in
    at_place m aim all (k + 1) is bs (omega (arith, size)) rest j i at
    (ap (λ n. has_aim m i aim || list_any (is_marked all) (places_behind i n)) (sym place) ∙ new)

no_aim : (m : Machine) (aim : Aim) → has_aim m End aim ≡ true → ⊥
no_aim m (At cpu) h = cc
no_aim m AtLast h = cc

behind_end : (next k : ℕ) → is_in next (k ∷ []) ≡ true → next ≡ k
behind_end next k h = by (next == k) refl h
  where
    by : (b : Bool) → (next == k) ≡ b → (b || false) ≡ true → next ≡ k
    by true is h = eqb-true next k is
    by false is h = cc

abbrev marks_of : Machine → ℕ → Aim → List Bool
marks_of m i aim = marked_rounds m aim (declared m i).script (length (declared m i).script)
    (map (λ instr. false) (declared m i).script)

pub are_aims : (m : Machine) → AreAims m (aims_of m)
are_aims m = record { here = here; behind = behind }
  where
    same : (i : ℕ) (aim : Aim) → marked_round m aim (declared m i).script (marks_of m i aim) ≡ marks_of m i aim
    same i aim =
        let script = (declared m i).script in
        settled m aim script (length script) (map (λ instr. false) script) (length-map script (λ instr. false))
        (omega (arith, count_none script))

    sized : (i : ℕ) (aim : Aim) → length (marks_of m i aim) ≡ length (declared m i).script
    sized i aim =
        let script = (declared m i).script in
        rounds_sized m aim script (length script) (map (λ instr. false) script) (length-map script (λ instr. false))

    here : (i k : ℕ) (aim : Aim) → has_aim m (instruction_of m i k) aim ≡ true → is_marked (marks_of m i aim) k ≡ true
    here i k aim h = by (slice_get (declared m i).script k) refl h
      where
        by : (o : Option Instr) → slice_get (declared m i).script k ≡ o → has_aim m (unwrap_or o End) aim ≡ true →
            is_marked (marks_of m i aim) k ≡ true
        by None at h = absurd (no_aim m aim h)
        by (Some x) at h = at_place m aim (marks_of m i aim) 0 (declared m i).script (marks_of m i aim) (sized i aim)
            (same i aim) k x at
            (or_left (has_aim m x aim) (list_any (is_marked (marks_of m i aim)) (places_behind x (0 + k))) h)

    behind : (i k later : ℕ) (aim : Aim) → is_in later (places_behind (instruction_of m i k) k) ≡ true →
        is_marked (marks_of m i aim) later ≡ true → is_marked (marks_of m i aim) k ≡ true
    behind i k later aim h marked = by (slice_get (declared m i).script k) refl h
      where
        by : (o : Option Instr) → slice_get (declared m i).script k ≡ o →
            is_in later (places_behind (unwrap_or o End) k) ≡ true → is_marked (marks_of m i aim) k ≡ true
        by None at h = ap (is_marked (marks_of m i aim)) (sym (behind_end later k h)) ∙ marked
        by (Some x) at h =
            let place : 0 + k ≡ k = omega arith in
            at_place m aim (marks_of m i aim) 0 (declared m i).script (marks_of m i aim) (sized i aim)
            (same i aim) k x at
            (or_right (has_aim m x aim) (list_any (is_marked (marks_of m i aim)) (places_behind x (0 + k)))
            (any_of (is_marked (marks_of m i aim)) later (places_behind x (0 + k))
            (ap (λ n. is_in later (places_behind x n)) place ∙ h) marked))
