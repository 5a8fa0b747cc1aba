-- Where a search ends, what it has found is what it says.
use Rattle.std.proofs.Common.{◌≡◌, ℕ, ◌+◌, ◌-◌, ◌<◌, ◌≤◌, Bool, true, false, ◌⊎◌, inl, inr, List, [], ◌∷◌, ◌++◌, length, zero, suc, Option, None, Some, refl, sym, ap, ◌∙◌, arith}
use Rattle.std.proofs.Math.Nat.{eq-or-lt_of_le}
use Rattle.std.proofs.lemmas.Bool.{cases_lt}
use Rattle.std.proofs.Math.ListN.{length-append}
use Rattle.l4_explore.specs.Orders.{IsBefore}
use Rattle.l4_explore.specs.Tries.{State}
use Rattle.l4_explore.specs.Search.{Seen, seen_at, depth_of, AreFound, AreWithin, IsCutByDepth, IsCutByStates, IsExplored, IsGoneOn, IsSearched, IsStopped, Offers}
use Rattle.l4_explore.proofs.Orders.{before_length}

-- None is deeper than the last one.
pub within_last : (found : List Seen) →
    ((i j : ℕ) → i < j → j < length found →
    IsBefore (seen_at found i).schedule (seen_at found j).schedule) →
    AreWithin found (depth_of found)
within_last found rising i l = by (eq-or-lt_of_le {n = i} {m = length found - 1} (omega arith))
  where
    by : (i ≡ length found - 1) ⊎ (i < length found - 1) →
        length (seen_at found i).schedule ≤ depth_of found
    by (inl e) =
        let same = ap (λ j. length (seen_at found j).schedule) e in omega (arith, same)
    by (inr m) =
        before_length (seen_at found i).schedule (seen_at found (length found - 1)).schedule
        (rising i (length found - 1) m (omega arith))

-- Nor is an earlier one deeper than a later one.
no_deeper : (f : List ℕ → Option State) (found : List Seen) (i j : ℕ) → AreFound f found → i ≤ j →
    j < length found → length (seen_at found i).schedule ≤ length (seen_at found j).schedule
no_deeper f found i j all le l = by (eq-or-lt_of_le le)
  where
    by : (i ≡ j) ⊎ (i < j) →
        length (seen_at found i).schedule ≤ length (seen_at found j).schedule
    by (inl e) = let same = ap (λ k. length (seen_at found k).schedule) e in omega (arith, same)
    by (inr m) =
        before_length (seen_at found i).schedule (seen_at found j).schedule (all.rising i j m l)

-- A search that was not carried to its end has found what one finds that is cut.
pub cut_early : (f : List ℕ → Option State) (offers : Offers) (found : List Seen)
    (next reached : ℕ) → AreFound f found → ((i : ℕ) → i < next → IsGoneOn offers found i) →
    length (seen_at found next).schedule ≡ reached → AreWithin found (reached + 1) →
    IsExplored f offers found reached false
cut_early f offers found next reached all gone_on same near = record {
  all = all;
  gone_on = λ i l why. by i l why (cases_lt i next);
  near = near;
}
  where
    by : (i : ℕ) → i < length found →
        (length (seen_at found i).schedule < reached) ⊎ (false ≡ true) →
        (i < next) ⊎ (next ≤ i) → IsGoneOn offers found i
    by i l why (inl less) = gone_on i less
    by i l (inl short) (inr le) =
        let d = no_deeper f found next i all le l in absurd (omega (arith, d, short, same))
    by i l (inr whole) (inr le) = cc

-- All states that were found are nearly as near as the one that comes next.
pub near_next : (f : List ℕ → Option State) (offers : Offers) (found : List Seen) (next : ℕ) →
    IsSearched f offers found next → next < length found →
    AreWithin found (length (seen_at found next).schedule + 1)
near_next f offers found next s inside i l =
    let schedule = (seen_at found next).schedule in
    let near = before_length (seen_at found i).schedule (schedule ++ 0 ∷ []) (s.before i 0 inside l) in
    omega (arith, near, length-append schedule (0 ∷ []))

-- Whether or not all choices of a state were met, the search has gone on from those before it.
pub gone_before : (f : List ℕ → Option State) (offers : Offers) (found : List Seen) (next : ℕ)
    (all : Bool) → (all ≡ true → IsSearched f offers found (next + 1)) →
    (all ≡ false → IsStopped f offers found next) → (i : ℕ) → i < next → IsGoneOn offers found i
gone_before f offers found next true searched stopped i less =
    let s = searched refl in s.gone_on i (omega (arith, less))
gone_before f offers found next false searched stopped i less =
    let s = stopped refl in s.gone_on i less

module _ (f : List ℕ → Option State) (offers : Offers) (found : List Seen) (next depth : ℕ) where
  -- None is left that was not gone on from.
  pub exhausted : IsSearched f offers found next → length found ≤ next → depth ≡ depth_of found →
      IsExplored f offers found depth true
  exhausted s none deepest = record {
    all = s.all;
    gone_on = λ i l why. s.gone_on i (omega (arith, l, none));
    near = λ i l. let w = within_last found s.all.rising i l in omega (arith, w, deepest);
  }

  -- The next one is as deep as it was to go.
  module _ (s : IsSearched f offers found next) (inside : next < length found)
      (full : depth ≤ length (seen_at found next).schedule)
      (deep : AreWithin found depth) where
    pub cut_by_depth : IsExplored f offers found depth false
    cut_by_depth = record {
      all = s.all;
      gone_on = λ i l why. by i l why (cases_lt i next);
      near = λ i l. let d = deep i l in omega (arith, d);
    }
      where
        by : (i : ℕ) → i < length found →
            (length (seen_at found i).schedule < depth) ⊎ (false ≡ true) →
            (i < next) ⊎ (next ≤ i) → IsGoneOn offers found i
        by i l why (inl less) = s.gone_on i less
        by i l (inl short) (inr le) =
            let d = no_deeper f found next i s.all le l in absurd (omega (arith, d, short, full))
        by i l (inr whole) (inr le) = cc

    pub is_cut_by_depth : IsCutByDepth found depth depth
    is_cut_by_depth = record {
      all = refl;
      deep =
          let d = deep (length found - 1) (omega (arith, inside)) in
          let n = no_deeper f found next (length found - 1) s.all (omega (arith, inside))
          (omega (arith, inside)) in
          omega (arith, d, n, full);
    }

  -- There is one more than are wanted.
  module _ (most reached : ℕ) (s : IsStopped f offers found next) (all : AreFound f found)
      (same : length (seen_at found next).schedule ≡ reached) where
    pub cut_by_states : AreWithin found (reached + 1) → IsExplored f offers found reached false
    cut_by_states near = cut_early f offers found next reached all s.gone_on same near

    pub is_cut_by_states : reached < depth → length found ≡ most →
        IsCutByStates f offers found depth most reached
    is_cut_by_states shallow full = record {
      shallow = shallow;
      full = full;
      place = next;
      far = same;
      stopped = s;
    }

-- Nothing is deeper than it was to go where the one that was tried is not as deep.
pub deep_enough : (found : List Seen) (near depth : ℕ) → near < depth → AreWithin found (near + 1) →
    AreWithin found depth
deep_enough found near depth l w i m = let d = w i m in omega arith

-- No schedule of those that were tried is longer than that of the last of them.
pub all_shallow : (f : List ℕ → Option State) (offers : Offers) (found : List Seen)
    (next depth : ℕ) → IsSearched f offers found (next + 1) →
    length (seen_at found next).schedule < depth → (i : ℕ) → i < next + 1 →
    length (seen_at found i).schedule < depth
all_shallow f offers found next depth s short i l =
    let d = no_deeper f found i next s.all (omega arith) (omega (arith, s.within)) in
    omega (arith, d, short)

-- At first the opening state alone is found, and none was gone on from.
module _ (f : List ℕ → Option State) (offers : Offers) (opening : State)
    (is : f [] ≡ Some opening) where
  abbrev one : List Seen
  one = record { state = opening; schedule = [] } ∷ []

  state_in : Option State → State
  state_in (Some state) = state
  state_in None = opening

  pub opening_searched : IsSearched f offers one 0
  unfolding state_in
  opening_searched = record {
    all = record {
      opening = λ state leads. record {
        place = 0;
        inside = omega arith;
        is = ap state_in (sym is ∙ leads);
        early = inl refl;
      };
      reached = reached;
      once = λ i j l m e. omega (arith, l, m);
      rising = λ i j l m. absurd (omega (arith, l, m));
    };
    within = omega arith;
    gone_on = λ i l. absurd (omega (arith, l));
    before = λ j e l m. before j e m;
  }
    where
      reached : (i : ℕ) → i < 1 → f (seen_at one i).schedule ≡ Some (seen_at one i).state
      reached zero l = is
      reached (suc i) l = absurd (omega (arith, l))

      before : (j e : ℕ) → j < 1 → IsBefore (seen_at one j).schedule (e ∷ [])
      before zero e l = inl (omega arith)
      before (suc j) e l = absurd (omega (arith, l))

  pub opening_within : (depth : ℕ) → AreWithin one depth
  opening_within depth zero l = omega arith
  opening_within depth (suc i) l = absurd (omega (arith, l))
