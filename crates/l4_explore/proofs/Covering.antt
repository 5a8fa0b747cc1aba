-- Where the choices of each state are all entries that lead on, what was found is all that schedules
-- lead to, up to where a search has come.
use Rattle.std.proofs.Common.{◌≡◌, ℕ, ◌+◌, ◌<◌, ◌≤◌, Bool, true, false, ◌⊎◌, inl, inr, List, [], ◌∷◌, ◌++◌, length, Option, None, Some, refl, sym, ap, subst, ◌∙◌, arith, append-nil}
use Rattle.std.proofs.Math.ListN.{length-append}
use Rattle.std.proofs.Math.Nat.{eq-or-lt_of_le}
use Rattle.std.proofs.lemmas.Bool.{cases_lt}
use Rattle.l4_explore.specs.Orders.{IsBefore, IsNotAfter}
use Rattle.l4_explore.specs.Tries.{State, Next, AreSchedules, AreNexts, LeadOn}
use Rattle.l4_explore.specs.Search.{Seen, seen_at, AreMet, IsFound, IsGoneOn, IsStopped, IsExplored, IsCut, IsCutByDepth, IsCutByStates}
use Rattle.l4_explore.specs.Inner.States.{AreAllEntries, AreAllStates, IsFull, AreCut}
use Rattle.l4_explore.proofs.Orders.{before_append, before_never, before_not_after, not_after_append, not_after_last, not_after_length, not_after_trans}
use Rattle.l4_explore.proofs.Listed.{by_end, found_later}
use Rattle.l4_explore.proofs.Exploring.{within_last}

-- All entries that lead on lead on.
pub nexts_lead_on : (f : List ℕ → Option State) (s : List ℕ) (from : ℕ) (cs : List Next) →
    AreNexts f s from cs → LeadOn f s from cs
nexts_lead_on f s from [] a = tt
nexts_lead_on f s from (n ∷ ns) a = (
  record { later = a.0.later; leads = a.0.leads },
  nexts_lead_on f s (n.entry + 1) ns a.1,
)

-- An entry that leads on from a found state leads to a found state.
abbrev IsTried : (List ℕ → Option State) → List Seen → (i e : ℕ) → Type 0
IsTried f found i e =
    (s : List ℕ) (state : State) → f s ≡ Some (seen_at found i).state →
    f (s ++ e ∷ []) ≡ Some state → IsFound found state ((seen_at found i).schedule ++ e ∷ [])

module _ (f : List ℕ → Option State) (found : List Seen) (s : List ℕ) (e : ℕ) (state : State)
    (leads : f (s ++ e ∷ []) ≡ Some state) where
  abbrev Here : Type 0
  Here = IsFound found state (s ++ e ∷ [])

  -- It is among the choices that were met, or behind them.
  among : (cs left : List Next) (from : ℕ) →
      ((later : ℕ) → AreNexts f s later left → later ≤ e → IsFound found state (s ++ e ∷ [])) →
      AreNexts f s from (cs ++ left) → from ≤ e → AreMet found s cs →
      IsFound found state (s ++ e ∷ [])
  among [] left from behind nexts l m = behind from nexts l
  among (n ∷ ns) left from behind nexts l m =
      by (cases_lt e n.entry) (among ns left (n.entry + 1) behind nexts.1)
    where
      same : n.entry ≡ e → IsFound found state (s ++ e ∷ [])
      same is =
          let at : f (s ++ e ∷ []) ≡ Some n.state =
          subst (λ k. f (s ++ k ∷ []) ≡ Some n.state) is nexts.0.leads in
          let one : n.state ≡ state = cc in
          subst (λ k. IsFound found state (s ++ k ∷ [])) is
          (subst (λ (b : State). IsFound found b (s ++ n.entry ∷ [])) one m.0)

      by : (e < n.entry) ⊎ (n.entry ≤ e) →
          (n.entry + 1 ≤ e → AreMet found s ns → IsFound found state (s ++ e ∷ [])) →
          IsFound found state (s ++ e ∷ [])
      by (inl less) rest = let no = nexts.0.first e l less in cc
      by (inr le) rest = elim (eq-or-lt_of_le le) [
        | inl is ↦ same is
        | inr less ↦ rest (omega (arith, less)) m.1
      ]

module _ (f : List ℕ → Option State) (found : List Seen) (i : ℕ)
    (at : f (seen_at found i).schedule ≡ Some (seen_at found i).state) where
  -- Of a state that the search went on from, all entries were tried.
  all_tried : IsGoneOn (AreAllEntries f) found i → (e : ℕ) → IsTried f found i e
  all_tried g e s state leads more =
      let here = g.offered.stands s e state (leads ∙ sym at) more in
      among f found (seen_at found i).schedule e state here g.choices [] 0
      (λ later none l. let no = none e l in cc)
      (subst (AreNexts f (seen_at found i).schedule 0) (sym (append-nil g.choices))
      g.offered.nexts) (omega arith) g.all_met

  -- Of the state at which it stopped, those below the one at which it stopped.
  some_tried : (p : IsStopped f (AreAllEntries f) found i) → (e : ℕ) → e < p.one_more.entry →
      IsTried f found i e
  some_tried p e less s state leads more =
      let here = p.offered.stands s e state (leads ∙ sym at) more in
      among f found (seen_at found i).schedule e state here p.first (p.one_more ∷ p.others) 0
      (λ later nexts l. let no = nexts.0.first e l less in cc)
      p.offered.nexts (omega arith) p.all_met

-- Some schedules are after all that were found.
module _ (f : List ℕ → Option State) (laws : AreSchedules f) (found : List Seen)
    (opening : (state : State) → f [] ≡ Some state → IsFound found state [])
    (once : (i j : ℕ) → i < length found → j < length found →
    (seen_at found i).state.code ≡ (seen_at found j).state.code → i ≡ j)
    (After : List ℕ → Type 0)
    (after_more : (s : List ℕ) (e : ℕ) → After s → After (s ++ e ∷ []))
    (tried : (i e : ℕ) (s : List ℕ) → i < length found → IsNotAfter (seen_at found i).schedule s →
    IsTried f found i e ⊎ After (s ++ e ∷ []))
    (late : (i : ℕ) (s : List ℕ) → i < length found → After s →
    IsBefore (seen_at found i).schedule s) where
  -- From a state that was found by a schedule that is no later, one entry more.
  onward : (xs : List ℕ) (x : ℕ) (c state : State) (r : IsFound found c xs) →
      IsTried f found r.place x → f xs ≡ Some c → f (xs ++ x ∷ []) ≡ Some state → IsFound found state (xs ++ x ∷ [])
  onward xs x c state r t e leads =
      found_later found state _ _ (not_after_append (seen_at found r.place).schedule xs x r.early)
      (t xs state (e ∙ sym (ap (λ (a : State). Some a) r.is)) leads)

  abbrev LeadsOrAfter : List ℕ → Type 0
  LeadsOrAfter xs = (state : State) → f xs ≡ Some state → IsFound found state xs ⊎ After xs

  step : (xs : List ℕ) (x : ℕ) → LeadsOrAfter xs → LeadsOrAfter (xs ++ x ∷ [])
  step xs x rest state leads = by (f xs) refl
    where
      at : (c : State) (r : IsFound found c xs) → f xs ≡ Some c →
          IsTried f found r.place x ⊎ After (xs ++ x ∷ []) →
          IsFound found state (xs ++ x ∷ []) ⊎ After (xs ++ x ∷ [])
      at c r e (inl t) = inl (onward xs x c state r t e leads)
      at c r e (inr after) = inr after

      by : (o : Option State) → f xs ≡ o →
          IsFound found state (xs ++ x ∷ []) ⊎ After (xs ++ x ∷ [])
      by None e = let no = laws.begins xs x e in cc
      by (Some c) e = elim (rest c e) [
        | inl r ↦ at c r e (tried r.place x xs r.inside r.early)
        | inr after ↦ inr (after_more xs x after)
      ]

  found_or_after : (xs : List ℕ) → LeadsOrAfter xs
  found_or_after = by_end LeadsOrAfter (λ state leads. inl (opening state leads)) step

  -- A state that was found by a schedule that leads there is found by an earlier one or that.
  early_one : (i : ℕ) (s : List ℕ) → i < length found → IsFound found (seen_at found i).state s →
      IsNotAfter (seen_at found i).schedule s
  early_one i s l r =
      subst (λ j. IsNotAfter (seen_at found j).schedule s)
      (once r.place i r.inside l (ap (λ (a : State). a.code) r.is)) r.early

  -- the first schedule that leads there
  first_one : (i : ℕ) (s : List ℕ) → i < length found → f s ≡ Some (seen_at found i).state →
      IsNotAfter (seen_at found i).schedule s
  first_one i s l leads = elim (found_or_after s (seen_at found i).state leads) [
    | inl r ↦ early_one i s l r
    | inr after ↦ inr (late i s l after)
  ]

  unless_after : (s : List ℕ) (state : State) → f s ≡ Some state → (After s → ⊥) →
      IsFound found state s
  unless_after s state leads never = elim (found_or_after s state leads) [
    | inl r ↦ r
    | inr after ↦ absurd (never after)
  ]

module _ (f : List ℕ → Option State) (laws : AreSchedules f) (found : List Seen) (depth : ℕ)
    (is_whole : Bool) (ex : IsExplored f (AreAllEntries f) found depth is_whole) where
  -- Where the search is whole, none is after.
  all_of_whole : is_whole ≡ true → AreAllStates f found depth is_whole
  all_of_whole whole = record {
    complete = λ s state leads short. all_found s state leads;
    whole = λ w. all_found;
    reached = ex.all.reached;
    first = first_one f laws found ex.all.opening ex.all.once (λ s. ⊥) (λ s e never. never) tried
        (λ i s l never. absurd never);
    once = ex.all.once;
    rising = ex.all.rising;
  }
    where
      tried : (i e : ℕ) (s : List ℕ) → i < length found →
          IsNotAfter (seen_at found i).schedule s → IsTried f found i e ⊎ ⊥
      tried i e s l early =
          inl (all_tried f found i (ex.all.reached i l) (ex.gone_on i l (inr whole)) e)

      all_found : (s : List ℕ) (state : State) → f s ≡ Some state → IsFound found state s
      all_found s state leads =
          unless_after f laws found ex.all.opening ex.all.once (λ s. ⊥) (λ s e never. never) tried
          (λ i s l never. absurd never) s state leads (λ never. never)

  -- Where it is cut at a depth, longer schedules are.
  module _ (asked : ℕ) (cut : IsCutByDepth found asked depth) where
    abbrev IsLong : List ℕ → Type 0
    IsLong s = depth < length s

    long_more : (s : List ℕ) (e : ℕ) → IsLong s → IsLong (s ++ e ∷ [])
    long_more s e l = omega (arith, l, length-append s (e ∷ []))

    tried_or_long : (i e : ℕ) (s : List ℕ) → i < length found →
        IsNotAfter (seen_at found i).schedule s → IsTried f found i e ⊎ IsLong (s ++ e ∷ [])
    tried_or_long i e s l early = by (cases_lt (length (seen_at found i).schedule) depth)
      where
        by : (length (seen_at found i).schedule < depth)
            ⊎ (depth ≤ length (seen_at found i).schedule) →
            IsTried f found i e ⊎ (depth < length (s ++ e ∷ []))
        by (inl less) = inl
            (all_tried f found i (ex.all.reached i l) (ex.gone_on i l (inl less)) e)
        by (inr le) = inr
            (let m = not_after_length (seen_at found i).schedule s early in
            omega (arith, le, m, length-append s (e ∷ [])))

    late_long : (i : ℕ) (s : List ℕ) → i < length found → IsLong s →
        IsBefore (seen_at found i).schedule s
    late_long i s l long =
        let w = within_last found ex.all.rising i l in inl (omega (arith, w, long, cut.all, cut.deep))

    all_to_depth : is_whole ≡ false → AreAllStates f found depth is_whole
    all_to_depth not_whole = record {
      complete = λ s state leads short.
          unless_after f laws found ex.all.opening ex.all.once IsLong long_more tried_or_long late_long
          s state leads (λ l. omega (arith, l, short));
      whole = λ h. cc;
      reached = ex.all.reached;
      first = first_one f laws found ex.all.opening ex.all.once IsLong long_more tried_or_long late_long;
      once = ex.all.once;
      rising = ex.all.rising;
    }

  -- Where it is cut at a number of states, those that are not before the one left out are.
  module _ (asked most : ℕ) (cut : IsCutByStates f (AreAllEntries f) found asked most depth) where
    abbrev place : ℕ
    place = cut.place

    abbrev limit : List ℕ
    limit = (seen_at found cut.place).schedule ++ cut.stopped.one_more.entry ∷ []

    abbrev IsPast : List ℕ → Type 0
    IsPast s = IsNotAfter limit s

    past_more : (s : List ℕ) (e : ℕ) → IsPast s → IsPast (s ++ e ∷ [])
    past_more s e after = inr
        (inl (let m = not_after_length limit s after in
        omega (arith, m, length-append s (e ∷ []))))

    tried_or_past : (i e : ℕ) (s : List ℕ) → i < length found →
        IsNotAfter (seen_at found i).schedule s → IsTried f found i e ⊎ IsPast (s ++ e ∷ [])
    tried_or_past i e s l early = by (cases_lt i cut.place)
      where
        Answer : ℕ → Type 0
        Answer i = IsTried f found i e ⊎ IsNotAfter limit (s ++ e ∷ [])

        at_place : i ≡ cut.place → (e < cut.stopped.one_more.entry) ⊎ (cut.stopped.one_more.entry ≤ e) →
            IsTried f found i e ⊎ IsNotAfter limit (s ++ e ∷ [])
        at_place is (inl less) = inl (subst (λ j. IsTried f found j e) (sym is)
            (some_tried f found cut.place (ex.all.reached cut.place cut.stopped.inside) cut.stopped e
            less))
        at_place is (inr le) = inr
            (not_after_trans _ _ _
            (not_after_last (seen_at found cut.place).schedule cut.stopped.one_more.entry e le)
            (not_after_append (seen_at found cut.place).schedule s e
            (subst (λ j. IsNotAfter (seen_at found j).schedule s) is early)))

        by : (i < cut.place) ⊎ (cut.place ≤ i) →
            IsTried f found i e ⊎ IsNotAfter limit (s ++ e ∷ [])
        by (inl less) = inl
            (all_tried f found i (ex.all.reached i l) (cut.stopped.gone_on i less) e)
        by (inr le) = elim (eq-or-lt_of_le le) [
          | inl is ↦ at_place (sym is) (cases_lt e cut.stopped.one_more.entry)
          | inr less ↦ inr (inr
              (before_append (seen_at found cut.place).schedule s cut.stopped.one_more.entry e
              (before_not_after _ _ _ (ex.all.rising cut.place i less l) early)))
        ]

    late_past : (i : ℕ) (s : List ℕ) → i < length found → IsPast s →
        IsBefore (seen_at found i).schedule s
    late_past i s l after = before_not_after _ _ _ (cut.stopped.before i l) after

    all_to_number : is_whole ≡ false → AreAllStates f found depth is_whole
    all_to_number not_whole = record {
      complete = λ s state leads short.
          unless_after f laws found ex.all.opening ex.all.once IsPast past_more tried_or_past late_past
          s state leads (λ after. let m = not_after_length limit s after in
          omega (
            arith,
            m,
            short,
            cut.far,
            length-append (seen_at found cut.place).schedule (cut.stopped.one_more.entry ∷ []),
          ));
      whole = λ h. cc;
      reached = ex.all.reached;
      first = first_one f laws found ex.all.opening ex.all.once IsPast past_more tried_or_past late_past;
      once = ex.all.once;
      rising = ex.all.rising;
    }

    -- What was left out, though all before it was found.
    is_full : IsFull f found asked most depth
    is_full = record {
      shallow = cut.shallow;
      full = cut.full;
      schedule = limit;
      long = length-append (seen_at found cut.place).schedule (cut.stopped.one_more.entry ∷ [])
          ∙ ap (λ n. n + 1) cut.far;
      one_more = record {
        state = cut.stopped.one_more.state;
        leads = cut.stopped.leads;
        new = λ i l e. cut.stopped.new i l (ap (λ (a : State). a.code) e);
        before = λ s other leads b.
            unless_after f laws found ex.all.opening ex.all.once IsPast past_more tried_or_past late_past
            s other leads (λ after. before_never s (before_not_after _ _ _ b after));
      };
    }

  pub all_states : (asked most : ℕ) →
      (is_whole ≡ false → IsCut f (AreAllEntries f) found asked most depth) →
      AreAllStates f found depth is_whole
  all_states asked most cut = by is_whole refl
    where
      why : is_whole ≡ false → IsCut f (AreAllEntries f) found asked most depth →
          AreAllStates f found depth is_whole
      why not_whole (inl c) = all_to_depth asked c not_whole
      why not_whole (inr c) = all_to_number asked most c not_whole

      by : (b : Bool) → is_whole ≡ b → AreAllStates f found depth is_whole
      by true e = all_of_whole e
      by false e = why e (cut e)

  pub are_cut : (asked most : ℕ) → IsCut f (AreAllEntries f) found asked most depth →
      AreCut f found asked most depth
  are_cut asked most (inl c) = inl c
  are_cut asked most (inr c) = inr (is_full asked most c)
