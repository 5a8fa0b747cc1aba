-- Chains of codes.
use Rattle.std.proofs.Common.{◌≡◌, ℕ, zero, suc, ◌<◌, ◌≤◌, Bool, true, false, cond, ◌⊎◌, inl, inr, List, [], ◌∷◌, ◌++◌, length, get_or, nat_eq, refl, sym, ap, subst, ◌∙◌, arith}
use Rattle.std.proofs.Math.ListN.{get_or-append}
use Rattle.std.proofs.lemmas.Bool.{eqb-true, eqb-false, cases_lt}
use Rattle.std.proofs.Math.Nat.{eq-or-lt_of_le}
use Rattle.l4_explore.specs.Inner.Codes.{code_at, bucket_of}
use Rattle.l4_explore.specs.Inner.Table.{last_in, AreChains, IsTable}
use Rattle.l4_explore.proofs.Trying.{below_or_last}

module _ (count : ℕ) (codes : List (List ℕ)) (bucket : ℕ) where
  abbrev pub at : ℕ → ℕ
  at place = bucket_of count (code_at codes place)

  abbrev pub last : ℕ → ℕ
  last below = last_in count codes bucket below

  -- The last place below a number is below it..
  pub last_lower : (below : ℕ) → 0 < below → last below < below
  last_lower zero some = absurd (omega arith)
  last_lower (suc k) some = by (nat_eq (at k) bucket) (rest k (last_lower k))
    where
      rest : (k : ℕ) → (0 < k → last k < k) → last k < suc k
      rest zero old = omega arith
      rest (suc j) old = let l = old (omega arith) in omega arith

      by : (b : Bool) → last k < suc k → cond b k (last k) < suc k
      by true l = omega arith
      by false l = l

  -- .. in the bucket ..
  pub last_there : (below : ℕ) → 0 < last below → at (last below) ≡ bucket
  last_there zero some = absurd (omega arith)
  last_there (suc k) some = by (nat_eq (at k) bucket) refl (last_there k) some
    where
      by : (b : Bool) → nat_eq (at k) bucket ≡ b → (0 < last k → at (last k) ≡ bucket) →
          0 < cond b k (last k) → at (cond b k (last k)) ≡ bucket
      by true e old some = eqb-true (at k) bucket e
      by false e old some = old some

  -- .. and none between them is.
  pub last_passed : (below i : ℕ) → last below < i → i < below → at i ≡ bucket → ⊥
  last_passed zero i l m e = omega arith
  last_passed (suc k) i l m e = by (nat_eq (at k) bucket) refl (last_passed k i) l
    where
      by : (b : Bool) → nat_eq (at k) bucket ≡ b → (last k < i → i < k → at i ≡ bucket → ⊥) →
          cond b k (last k) < i → ⊥
      by true is old l = omega arith
      by false is old l = other (below_or_last k i (omega arith))
        where
          other : (i < k) ⊎ (i ≡ k) → ⊥
          other (inl m) = old l m e
          other (inr same) = eqb-false (at k) bucket is (ap at (sym same) ∙ e)

-- One more code changes none of the chains so far.
last_in-more : (count : ℕ) (codes : List (List ℕ)) (code : List ℕ) (bucket below : ℕ) →
    below ≤ length codes →
    last_in count (codes ++ code ∷ []) bucket below ≡ last_in count codes bucket below
last_in-more count codes code bucket zero l = refl
last_in-more count codes code bucket (suc k) l =
    ap (λ (c : List ℕ). cond (nat_eq (bucket_of count c) bucket) k
    (last_in count (codes ++ code ∷ []) bucket k))
    (get_or-append codes (code ∷ []) [] k (omega arith))
    ∙ ap (cond (nat_eq (bucket_of count (code_at codes k)) bucket) k)
    (last_in-more count codes code bucket k (omega arith))

module _ (codes : List (List ℕ)) (code : List ℕ) (lasts befores : List ℕ)
    (each : length befores ≡ length codes)
    (are : AreChains codes lasts befores (length codes)) where
  pub chains_kept : AreChains (codes ++ code ∷ []) lasts (befores ++ 0 ∷ []) (length codes)
  chains_kept = record {
    last = λ bucket l. are.last bucket l
        ∙ sym (last_in-more (length lasts) codes code bucket (length codes) (omega arith));
    before = λ place l.
        get_or-append befores (0 ∷ []) 0 place (omega (arith, each))
        ∙ are.before place l
        ∙ sym (last_in-more (length lasts) codes code
        (bucket_of (length lasts) (code_at codes place)) place (omega arith))
        ∙ ap (λ (c : List ℕ). last_in (length lasts) (codes ++ code ∷ [])
        (bucket_of (length lasts) c) place) (sym (get_or-append codes (code ∷ []) [] place l));
  }

-- On the way down a chain: the place is in the bucket of the code, or the first; no place above it
-- has the code.
pub record IsComeTo (count : ℕ) (codes : List (List ℕ)) (code : List ℕ) (place : ℕ) : Type 0 where
  pub inside : place < length codes
  pub in_bucket : 0 < place → bucket_of count (code_at codes place) ≡ bucket_of count code
  pub passed : (i : ℕ) → place < i → i < length codes → code_at codes i ≡ code → ⊥

module _ (codes : List (List ℕ)) (lasts befores code : List ℕ) (t : IsTable codes lasts befores) where
  abbrev count : ℕ
  count = length lasts

  abbrev the_bucket : ℕ
  the_bucket = bucket_of count code

  abbrev IsAt : ℕ → Type 0
  IsAt place = IsComeTo count codes code place

  last_come_to : IsAt (last_in count codes the_bucket (length codes))
  last_come_to = record {
    inside = last_lower count codes the_bucket (length codes) t.some;
    in_bucket = last_there count codes the_bucket (length codes);
    passed = λ i l m e. last_passed count codes the_bucket (length codes) i l m
        (ap (bucket_of count) e);
  }

  pub come_to_last : the_bucket < length lasts → IsAt (get_or lasts the_bucket 0)
  come_to_last l = subst IsAt (sym (t.chains.last the_bucket l)) last_come_to

  module _ (place : ℕ) (a : IsAt place) (some : 0 < place) where
    is_before : get_or befores place 0 ≡ last_in count codes the_bucket place
    is_before = t.chains.before place a.inside
        ∙ ap (λ b. last_in count codes b place) (a.in_bucket some)

    pub before_lower : get_or befores place 0 < place
    before_lower = let l = last_lower count codes the_bucket place some in omega (arith, l, is_before)

    before_come_to : (code_at codes place ≡ code → ⊥) →
        IsAt (last_in count codes the_bucket place)
    before_come_to other = record {
      inside = let l = last_lower count codes the_bucket place some in omega (arith, l, a.inside);
      in_bucket = last_there count codes the_bucket place;
      passed = λ i l m e. by i l m e (cases_lt i place);
    }
      where
        by : (i : ℕ) → last_in count codes the_bucket place < i → i < length codes →
            code_at codes i ≡ code → (i < place) ⊎ (place ≤ i) → ⊥
        by i l m e (inl n) = last_passed count codes the_bucket place i l n (ap (bucket_of count) e)
        by i l m e (inr n) = at_or_above (eq-or-lt_of_le n)
          where
            at_or_above : (place ≡ i) ⊎ (place < i) → ⊥
            at_or_above (inl is) = other (ap (code_at codes) is ∙ e)
            at_or_above (inr above) = a.passed i above m e

    pub come_to_before : (code_at codes place ≡ code → ⊥) → IsAt (get_or befores place 0)
    come_to_before other = subst IsAt (sym is_before) (before_come_to other)
