-- All of a set that leads on, listed one by one.
use Rattle.std.proofs.Common.{◌≡◌, ℕ, suc, ◌+◌, ◌<◌, ◌≤◌, ◌⊎◌, inl, inr, Bool, true, Option, None, Some, List, [], ◌∷◌, ◌++◌, ap, sym, ◌∙◌, arith}
use Rattle.std.proofs.lemmas.Bool.{cases_lt}
use Rattle.l4_model.proofs.Chains.{some_is}
use Rattle.l4_explore.specs.Tries.{State, Next, LeadOn}
use Rattle.l4_persistent.specs.Inner.Ends.{IsOffered}
use Rattle.l4_endings.specs.Inner.Tried.{AreUpTo}

module _ (f : List ℕ → Option State) (inside : ℕ → Bool) (s : List ℕ) where
  pub none_yet : AreUpTo f inside s 0 0 []
  none_yet e is least less = absurd (omega (arith, less))

  below_next : (n e : ℕ) → e < n + 1 → (e < n) ⊎ (e ≡ n)
  below_next n e less = by (cases_lt e n)
    where
      by : (e < n) ⊎ (n ≤ e) → (e < n) ⊎ (e ≡ n)
      by (inl l) = inl l
      by (inr le) = inr (omega (arith, less, le))

  -- One that is not inside, or does not lead on
  pub skipped : (from n : ℕ) (xs : List Next) → AreUpTo f inside s from n xs →
      (inside n ≡ true → f (s ++ n ∷ []) ≡ None) → AreUpTo f inside s from (n + 1) xs
  skipped from n [] all none = λ e is least less. by e is least (below_next n e less)
    where
      by : (e : ℕ) → inside e ≡ true → from ≤ e → (e < n) ⊎ (e ≡ n) → f (s ++ e ∷ []) ≡ None
      by e is least (inl l) = all e is least l
      by e is least (inr same) =
          ap (λ k. f (s ++ k ∷ [])) same ∙ none (ap inside (sym same) ∙ is)
  skipped from n (x ∷ xs) all none = (
    (omega (arith, all.0.0), all.0.1),
    all.1,
    all.2,
    skipped (x.entry + 1) n xs all.3 none,
  )

  -- One that does
  pub listed : (from n : ℕ) (xs : List Next) (state : State) → from ≤ n → inside n ≡ true →
      AreUpTo f inside s from n xs → f (s ++ n ∷ []) ≡ Some state →
      AreUpTo f inside s from (n + 1) (xs ++ record { entry = n; state = state } ∷ [])
  listed from n [] state least in_set all leads = (
    (omega arith, in_set),
    record { later = least; leads = leads },
    all,
    λ e is from less. absurd (omega (arith, from, less)),
  )
  listed from n (x ∷ xs) state least in_set all leads = (
    (omega (arith, all.0.0), all.0.1),
    all.1,
    all.2,
    listed (x.entry + 1) n xs state (omega (arith, all.0.0)) in_set all.3 leads,
  )

  pub lead_on : (from below : ℕ) (xs : List Next) → AreUpTo f inside s from below xs →
      LeadOn f s from xs
  lead_on from below [] all = tt
  lead_on from below (x ∷ xs) all = (all.1, lead_on (x.entry + 1) below xs all.3)

  -- Each that is inside and leads on is offered.
  pub is_offered : (from below : ℕ) (xs : List Next) → AreUpTo f inside s from below xs → (e : ℕ)
      (state : State) → inside e ≡ true → from ≤ e → e < below → f (s ++ e ∷ []) ≡ Some state →
      IsOffered xs (record { entry = e; state = state })
  is_offered from below [] all e state is least less leads =
      let none = sym (all e is least less) ∙ leads in cc
  is_offered from below (x ∷ xs) all e state is least less leads =
      by (cases_lt e x.entry) (cases_lt x.entry e)
      (λ after. is_offered (x.entry + 1) below xs all.3 e state is after less leads)
    where
      by : (e < x.entry) ⊎ (x.entry ≤ e) → (x.entry < e) ⊎ (e ≤ x.entry) →
          (x.entry + 1 ≤ e → IsOffered xs (record { entry = e; state = state })) →
          IsOffered (x ∷ xs) (record { entry = e; state = state })
      by (inl before) b rest = let none = sym (all.2 e is least before) ∙ leads in cc
      by (inr a) (inl after) rest =
          let later = rest (omega (arith, after)) in
          record { place = suc later.place; is = later.is }
      by (inr a) (inr b) rest =
          let same : x.entry ≡ e = omega (arith, a, b) in
          let one = some_is x.state state (sym all.1.leads ∙ ap (λ k. f (s ++ k ∷ [])) same ∙ leads) in
          record { place = 0; is = λ i. Some (record { entry = same i; state = one i }) }
