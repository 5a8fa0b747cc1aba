-- What is known of threads, one after the other.
use Rattle.std.proofs.Common.{◌≡◌, ℕ, zero, suc, ◌+◌, ◌<◌, ◌≤◌, ◌⊎◌, inl, inr, Bool, true, false, ◌||◌, ◌&&◌, List, [], ◌∷◌, ◌++◌, length, refl, ap, sym, ◌∙◌, arith}
use Rattle.std.specs.Prelude.{slice_index_or}
use Rattle.std.proofs.lemmas.Bool.{cases_lt}
use Rattle.l4_model.specs.Machine.{Machine, most_instructions}
use Rattle.l4_model.specs.World.{Thread, is_alive}
use Rattle.l4_persistent.specs.Inner.Posts.{Aim, At, AtLast, aims_of, goes_on_at, may_aim, names}
use Rattle.l4_sets.specs.Inner.Aimed.{is_aimed, IsBelow}
use Rattle.l4_sets.specs.Inner.Sets.{has, most}
use Rattle.l4_sets.specs.declared.aims.Aimed.{Aimed}

pub or_left : (a b : Bool) → a ≡ true → (a || b) ≡ true
or_left true b h = refl
or_left false b h = cc

pub or_right : (a b : Bool) → b ≡ true → (a || b) ≡ true
or_right true b h = refl
or_right false b h = h

-- What is so of the elements of a list, and of one more
pub each_more : {A : Type 0} (P : ℕ → A → Type 0) (d : A) (xs : List A) (x : A) →
    ((i : ℕ) → i < length xs → P i (slice_index_or xs i d)) → P (length xs) x → (i : ℕ) →
    i < length xs + 1 → P i (slice_index_or (xs ++ x ∷ []) i d)
each_more P d [] x h last zero l = last
each_more P d [] x h last (suc i) l = absurd (omega (arith, l))
each_more P d (y ∷ ys) x h last zero l = h 0 (omega arith)
each_more P d (y ∷ ys) x h last (suc i) l =
    each_more (λ i. P (suc i)) d ys x (λ i l. h (suc i) (omega (arith, l))) last i (omega (arith, l))

-- What the threads of a processor ask, and one more of them
pub with_one : (old other new place : ℕ) (own : ℕ → Bool) (asks : ℕ → ℕ → Bool) →
    ((cpu : ℕ) → has new cpu ≡ (has old cpu || has other cpu)) →
    ((i to : ℕ) → i < place → own i ≡ true → to < most → asks i to ≡ true → has old to ≡ true) →
    ((to : ℕ) → to < most → asks place to ≡ true → has other to ≡ true) → (i to : ℕ) →
    i < place + 1 → own i ≡ true → to < most → asks i to ≡ true → has new to ≡ true
with_one old other new place own asks union known one i to inside is below h =
    union to ∙ by (cases_lt i place)
  where
    by : (i < place) ⊎ (place ≤ i) → (has old to || has other to) ≡ true
    by (inl less) = or_left (has old to) (has other to) (known i to less is below h)
    by (inr least) =
        let same : i ≡ place = omega (arith, inside, least) in
        or_right (has old to) (has other to) (one to below (ap (λ i. asks i to) (sym same) ∙ h))

-- .. or one that is not of the processor
pub without : (old place : ℕ) (own : ℕ → Bool) (asks : ℕ → ℕ → Bool) → own place ≡ false →
    ((i to : ℕ) → i < place → own i ≡ true → to < most → asks i to ≡ true → has old to ≡ true) →
    (i to : ℕ) → i < place + 1 → own i ≡ true → to < most → asks i to ≡ true → has old to ≡ true
without old place own asks foreign known i to inside is below h = by (cases_lt i place)
  where
    by : (i < place) ⊎ (place ≤ i) → has old to ≡ true
    by (inl less) = known i to less is below h
    by (inr least) =
        let same : i ≡ place = omega (arith, inside, least) in
        let no : own i ≡ false = ap own same ∙ foreign in cc

-- Whom a thread may post to by its script
pub aimed_there : (m : Machine) (cpu place at : ℕ) (t : Thread) (aimed : Aimed) →
    ((at ≡ goes_on_at t) ⊎ ((most_instructions ≤ at) × (most_instructions ≤ goes_on_at t))) →
    ((aim : Aim) → IsBelow aim → aims_of m place at aim ≡ true → is_aimed aimed aim ≡ true) →
    ((k : ℕ) (aim : Aim) → aims_of m place k aim ≡ true → k < most_instructions) → cpu < most →
    (is_alive t.phase && may_aim m (aims_of m) cpu place t) ≡ true →
    ((has aimed.at cpu ≡ true) ⊎ ((aimed.at_last ≡ true) × (names m cpu t.context.from ≡ true)))
aimed_there m cpu place at t aimed next known short below h =
    by (is_alive t.phase) (aims_of m place (goes_on_at t) (At cpu))
    (aims_of m place (goes_on_at t) AtLast) (names m cpu t.context.from) refl refl refl h
  where
    there : (aim : Aim) → IsBelow aim → aims_of m place (goes_on_at t) aim ≡ true →
        is_aimed aimed aim ≡ true
    there aim small is = from next
      where
        from : ((at ≡ goes_on_at t) ⊎ ((most_instructions ≤ at) × (most_instructions ≤ goes_on_at t))) →
            is_aimed aimed aim ≡ true
        from (inl same) = known aim small (ap (λ k. aims_of m place k aim) same ∙ is)
        from (inr past) = absurd (omega (arith, past.1, short (goes_on_at t) aim is))

    by : (alive a b c : Bool) → aims_of m place (goes_on_at t) (At cpu) ≡ a →
        aims_of m place (goes_on_at t) AtLast ≡ b → names m cpu t.context.from ≡ c →
        (alive && (a || (b && c))) ≡ true →
        ((has aimed.at cpu ≡ true) ⊎ ((aimed.at_last ≡ true) × (names m cpu t.context.from ≡ true)))
    by true true b c at_cpu at_last named h = inl (there (At cpu) below at_cpu)
    by true false true true at_cpu at_last named h = inr (there AtLast tt at_last, named)
    by true false true false at_cpu at_last named h = cc
    by true false false c at_cpu at_last named h = cc
    by false a b c at_cpu at_last named h = cc

-- Inside of a list it is the same whatever stands past its end.
pub any_end : {A : Type 0} (xs : List A) (i : ℕ) (d e : A) → i < length xs →
    slice_index_or xs i d ≡ slice_index_or xs i e
any_end [] i d e l = absurd (omega (arith, l))
any_end (x ∷ xs) zero d e l = refl
any_end (x ∷ xs) (suc i) d e l = any_end xs i d e (omega (arith, l))
