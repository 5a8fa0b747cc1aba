-- One choice after the other is tried.
use Rattle.std.proofs.Common.{◌≡◌, ℕ, zero, suc, ◌+◌, ◌<◌, ◌≤◌, Bool, true, false, cond, ◌⊎◌, inl, inr, List, [], ◌∷◌, ◌++◌, length, take, Option, Some, refl, sym, ap, subst, ◌∙◌, arith, nat_lt, append-nil, append_assoc}
use Rattle.std.proofs.Math.ListN.{length-append}
use Rattle.std.proofs.lemmas.Bool.{cases_lt, ltb-true, ltb-false}
use Rattle.std.proofs.lemmas.List.{take-append-le}
use Rattle.l4_explore.specs.Orders.{IsBefore}
use Rattle.l4_explore.specs.Tries.{State, AreCoded, Next, LeadsOn, LeadOn}
use Rattle.l4_explore.specs.Search.{Seen, seen_at, has_code, seen_next, met, AreMet, AreWithin, IsFound, IsGoneOn, IsSearched, IsStopped, AreFound, Offers}
use Rattle.l4_explore.proofs.Orders.{before_length, before_trans, before_append, before_last}
use Rattle.l4_explore.proofs.Listed.{seen_at-old, seen_at-new, found_in_more, place_of_code, no_place}

only : (P : ℕ → Type 0) → P 0 → (j : ℕ) → j < 1 → P j
only P p zero h = p
only P p (suc j) h = absurd (omega arith)

-- Below one more than a number: below it, or that number.
pub below_or_last : (n i : ℕ) → i < n + 1 → (i < n) ⊎ (i ≡ n)
below_or_last n i h = elim (cases_lt i n) [ inl l ↦ inl l | inr g ↦ inr (omega arith) ]

-- Choices that are met

pub met_too : (found : List Seen) (s : List ℕ) (cs : List Next) (n : Next) → AreMet found s cs →
    IsFound found n.state (s ++ n.entry ∷ []) → AreMet found s (cs ++ n ∷ [])
met_too found s [] n m f = (f, tt)
met_too found s (c ∷ cs) n m f = (m.0, met_too found s cs n m.1 f)

met_in_more : (found : List Seen) (one : Seen) (s : List ℕ) (cs : List Next) → AreMet found s cs →
    AreMet (found ++ one ∷ []) s cs
met_in_more found one s [] m = tt
met_in_more found one s (c ∷ cs) m =
    (found_in_more found one c.state (s ++ c.entry ∷ []) m.0, met_in_more found one s cs m.1)

-- The choices of the state at `next` were tried that have entries below `from`: all found states are
-- before the others.
pub record IsTrying (f : List ℕ → Option State) (offers : Offers) (found : List Seen)
    (next from : ℕ) : Type 0 where
  pub all : AreFound f found
  pub inside : next < length found
  pub gone_on : (i : ℕ) → i < next → IsGoneOn offers found i
  pub before : (j e : ℕ) → j < length found → from ≤ e →
      IsBefore (seen_at found j).schedule ((seen_at found next).schedule ++ e ∷ [])

module _ (f : List ℕ → Option State) (offers : Offers) where
  -- The state at the beginning alone.
  pub opened : (state : State) → f [] ≡ Some state →
      IsSearched f offers (record { state = state; schedule = [] } ∷ []) 0
  opened state e =
      let found : List Seen = record { state = state; schedule = [] } ∷ [] in
      record {
        all = record {
          opening = λ other e'. record { place = 0; inside = omega arith; is = cc; early = inl refl };
          reached = only (λ i. f (seen_at found i).schedule ≡ Some (seen_at found i).state) e;
          once = λ i j l m same. omega arith;
          rising = λ i j l m. absurd (omega arith);
        };
        within = omega arith;
        gone_on = λ i l. absurd (omega arith);
        before = λ j e l m. only (λ i. IsBefore (seen_at found i).schedule (e ∷ []))
            (inl (omega arith)) j m;
      }

  -- A next one.
  begun : (found : List Seen) (next : ℕ) → IsSearched f offers found next → next < length found →
      IsTrying f offers found next 0
  begun found next s inside = record {
    all = s.all;
    inside = inside;
    gone_on = s.gone_on;
    before = λ j e l m. s.before j e inside l;
  }

  -- None of what was found is deeper by more than one.
  near : (found : List Seen) (next from : ℕ) → IsTrying f offers found next from →
      AreWithin found (length (seen_at found next).schedule + 1)
  near found next from t j l =
      let b = before_length (seen_at found j).schedule _ (t.before j from l (omega arith)) in
      omega (arith, b, length-append (seen_at found next).schedule (from ∷ []))

  -- All choices were tried.
  ended : (found : List Seen) (next from : ℕ) → IsTrying f offers found next from →
      IsGoneOn offers found next → IsSearched f offers found (next + 1)
  ended found next from t gone = record {
    all = t.all;
    within = omega (arith, t.inside);
    gone_on = λ i l. by i (below_or_last next i l);
    before = λ j e l m.
        let next_one = t.all.rising next (next + 1) (omega arith) l in
        before_trans _ _ _ (t.before j from m (omega arith))
        (before_append (seen_at found next).schedule
        (seen_at found (next + 1)).schedule from e next_one);
  }
    where
      by : (i : ℕ) → (i < next) ⊎ (i ≡ next) → IsGoneOn offers found i
      by i (inl l) = t.gone_on i l
      by i (inr is) = subst (IsGoneOn offers found) (sym is) gone

  -- Entries are passed over.
  passed : (found : List Seen) (next from to : ℕ) → IsTrying f offers found next from → from ≤ to →
      IsTrying f offers found next to
  passed found next from to t later = record {
    all = t.all;
    inside = t.inside;
    gone_on = t.gone_on;
    before = λ j e l m. t.before j e l (omega arith);
  }

  -- An entry that leads to what was found.
  there : AreCoded f → (found : List Seen) (next entry : ℕ) (state : State) →
      IsTrying f offers found next entry →
      f ((seen_at found next).schedule ++ entry ∷ []) ≡ Some state →
      has_code found state.code ≡ true →
      IsFound found state ((seen_at found next).schedule ++ entry ∷ [])
  there coded found next entry state t leads known =
      let at = place_of_code found state.code known in
      record {
        place = at.place;
        inside = at.inside;
        is = coded _ _ _ _ (t.all.reached at.place at.inside) leads at.is;
        early = inr (t.before at.place entry at.inside (omega arith));
      }

  -- An entry that leads to what was not found yet.
  module _ (found : List Seen) (next entry : ℕ) (state : State)
      (t : IsTrying f offers found next entry)
      (leads : f ((seen_at found next).schedule ++ entry ∷ []) ≡ Some state)
      (new : has_code found state.code ≡ false) where
    abbrev another : Seen
    another = record { state = state; schedule = (seen_at found next).schedule ++ entry ∷ [] }

    abbrev more_found : List Seen
    more_found = found ++ another ∷ []

    long : length more_found ≡ length found + 1
    long = length-append found (another ∷ [])

    -- What is true of each that was found and of the new one is true of each.
    each : (Q : Seen → Type 0) → ((i : ℕ) → i < length found → Q (seen_at found i)) → Q another →
        (i : ℕ) → i < length more_found →
        Q (seen_at more_found i)
    each Q olds one i l = by (below_or_last (length found) i (omega (arith, long)))
      where
        by : (i < length found) ⊎ (i ≡ length found) → Q (seen_at more_found i)
        by (inl m) = subst Q (sym (seen_at-old found another i m)) (olds i m)
        by (inr is) = subst Q (sym (ap (seen_at more_found) is ∙ seen_at-new found another)) one

    old_code : (i : ℕ) → i < length found →
        (seen_at more_found i).state.code ≡ (seen_at found i).state.code
    old_code i l = ap (λ (s : Seen). s.state.code) (seen_at-old found another i l)

    new_code : (i : ℕ) → i ≡ length found → (seen_at more_found i).state.code ≡ state.code
    new_code i is = ap (λ (s : Seen). s.state.code)
        (ap (seen_at more_found) is ∙ seen_at-new found another)

    once : (i j : ℕ) → i < length more_found → j < length more_found →
        (seen_at more_found i).state.code ≡ (seen_at more_found j).state.code → i ≡ j
    once i j l m e = by (below_or_last (length found) i (omega (arith, long)))
        (below_or_last (length found) j (omega (arith, long)))
      where
        by : (i < length found) ⊎ (i ≡ length found) → (j < length found) ⊎ (j ≡ length found) →
            i ≡ j
        by (inl a) (inl b) = t.all.once i j a b (sym (old_code i a) ∙ e ∙ old_code j b)
        by (inl a) (inr b) = absurd
            (no_place found state.code new i a (sym (old_code i a) ∙ e ∙ new_code j b))
        by (inr a) (inl b) = absurd
            (no_place found state.code new j b (sym (old_code j b) ∙ sym e ∙ new_code i a))
        by (inr a) (inr b) = a ∙ sym b

    rising : (i j : ℕ) → i < j → j < length more_found →
        IsBefore (seen_at more_found i).schedule (seen_at more_found j).schedule
    rising i j l m = by (below_or_last (length found) j (omega (arith, long)))
      where
        by : (j < length found) ⊎ (j ≡ length found) →
            IsBefore (seen_at more_found i).schedule (seen_at more_found j).schedule
        by (inl b) = rw (seen_at-old found another i (omega arith), seen_at-old found another j b)
            (t.all.rising i j l b)
        by (inr b) =
            rw (seen_at-old found another i (omega arith), b, seen_at-new found another)
            (t.before i entry (omega arith) (omega arith))

    -- What was gone on from stays so.
    still : (i : ℕ) → i < length found → IsGoneOn offers found i → IsGoneOn offers more_found i
    still i l g =
        let is = seen_at-old found another i l in
        record {
          choices = g.choices;
          offered = rw (take-append-le i found (another ∷ []) (omega arith), is) g.offered;
          all_met = rw is (met_in_more found another (seen_at found i).schedule g.choices g.all_met);
        }

    pub old_next : seen_at more_found next ≡ seen_at found next
    old_next = seen_at-old found another next t.inside

    pub same_before : take next more_found ≡ take next found
    same_before = let l = t.inside in take-append-le next found (another ∷ []) (omega arith)

    pub here : IsFound more_found state ((seen_at found next).schedule ++ entry ∷ [])
    here = record {
      place = length found;
      inside = omega (arith, long);
      is = ap (λ (s : Seen). s.state) (seen_at-new found another);
      early = inl (ap (λ (s : Seen). s.schedule) (seen_at-new found another));
    }

    pub met_new : IsTrying f offers more_found next (entry + 1)
    met_new = record {
      all = record {
        opening = λ other e. found_in_more found another other [] (t.all.opening other e);
        reached = each (λ s. f s.schedule ≡ Some s.state) t.all.reached leads;
        once = once;
        rising = rising;
      };
      inside = omega (arith, long, t.inside);
      gone_on = λ i l. still i (omega (arith, t.inside)) (t.gone_on i l);
      before = λ j e l m. rw old_next
          (each (λ s. IsBefore s.schedule ((seen_at found next).schedule ++ e ∷ []))
          (λ i k. t.before i e k (omega arith))
          (before_last (seen_at found next).schedule entry e (omega arith)) j l);
    }

-- One choice more leads to a state.

-- It is found now, ..
pub record IsMet (f : List ℕ → Option State) (offers : Offers) (old new : List Seen)
    (next : ℕ) (n : Next) : Type 0 where
  pub trying : IsTrying f offers new next (n.entry + 1)
  pub is_found : IsFound new n.state ((seen_at old next).schedule ++ n.entry ∷ [])
  pub still_met : (s : List ℕ) (cs : List Next) → AreMet old s cs → AreMet new s cs
  pub same_before : take next new ≡ take next old

-- .. or there is no room for it.
pub record IsNotMet (f : List ℕ → Option State) (offers : Offers) (old new : List Seen)
    (next most : ℕ) (n : Next) : Type 0 where
  pub same : new ≡ old
  pub trying : IsTrying f offers old next n.entry
  pub new_state : has_code old n.state.code ≡ false
  pub full : length old ≡ most

abbrev pub Goes : (List ℕ → Option State) → Offers → (old new : List Seen) → (next most : ℕ) →
    Next → Bool → Type 0
Goes f offers old new next most n true = IsMet f offers old new next n
Goes f offers old new next most n false = IsNotMet f offers old new next most n

-- What is met on the way from a state.
pub record HasMet (f : List ℕ → Option State) (offers : Offers) (old new : List Seen)
    (next most : ℕ) (n : Next) (more : Bool) : Type 0 where
  pub few : length new ≤ most
  pub same : seen_at new next ≡ seen_at old next
  pub goes : Goes f offers old new next most n more

module _ (f : List ℕ → Option State) (offers : Offers) (coded : AreCoded f) (found : List Seen)
    (next from most : ℕ) (n : Next)
    (t : IsTrying f offers found next from)
    (is : LeadsOn f (seen_at found next).schedule from n) (few : length found ≤ most) where
  at_entry : IsTrying f offers found next n.entry
  at_entry = passed f offers found next from n.entry t is.later

  abbrev Pair : Type 0
  Pair = List Seen × Bool

  abbrev Has : Pair → Type 0
  Has p = HasMet f offers found p.0 next most n p.1

  after : (known room : Bool) → has_code found n.state.code ≡ known →
      nat_lt (length found) most ≡ room →
      Has (cond known (found, true)
      (cond room (found ++ seen_next found next n ∷ [], true) (found, false)))
  after true room e r = record {
    few = few;
    same = refl;
    goes = record {
      trying = passed f offers found next n.entry (n.entry + 1) at_entry (omega arith);
      is_found = there f offers coded found next n.entry n.state at_entry is.leads e;
      still_met = λ s cs m. m;
      same_before = refl;
    };
  }
  after false true e r = record {
    few = omega (
      arith,
      length-append found (seen_next found next n ∷ []),
      ltb-true (length found) most r,
    );
    same = old_next f offers found next n.entry n.state at_entry is.leads e;
    goes = record {
      trying = met_new f offers found next n.entry n.state at_entry is.leads e;
      is_found = here f offers found next n.entry n.state at_entry is.leads e;
      still_met = λ s cs m. met_in_more found (seen_next found next n) s cs m;
      same_before = same_before f offers found next n.entry n.state at_entry is.leads e;
    };
  }
  after false false e r = record {
    few = few;
    same = refl;
    goes = record {
      same = refl;
      trying = at_entry;
      new_state = e;
      full = omega (arith, few, ltb-false (length found) most r);
    };
  }

  has_met : (new : List Seen) (more : Bool) →
      ◌≡◌ {A = List Seen × Bool} (new, more) (met found next most n) →
      HasMet f offers found new next most n more
  has_met new more h = subst Has (sym h)
      (after (has_code found n.state.code) (nat_lt (length found) most) refl refl)

-- Of the choices of the next one these are left to be tried.
pub record GoingOn (f : List ℕ → Option State) (offers : Offers) (found : List Seen) (next : ℕ)
    (opening : Seen) (left : List Next) : Type 0 where
  pub same : seen_at found next ≡ opening
  pub from : ℕ
  pub trying : IsTrying f offers found next from
  pub leads : LeadOn f opening.schedule from left
  pub tried : List Next
  pub offered : offers (take next found) opening (tried ++ left)
  pub all_met : AreMet found opening.schedule tried

module _ (f : List ℕ → Option State) (offers : Offers) (coded : AreCoded f) (next most : ℕ)
    (seen : Seen) where
  pub begin : (found : List Seen) (left : List Next) → IsSearched f offers found next →
      next < length found → seen_at found next ≡ seen → LeadOn f seen.schedule 0 left →
      offers (take next found) seen left → GoingOn f offers found next seen left
  begin found left s inside same leads offered = record {
    same = same;
    from = 0;
    trying = begun f offers found next s inside;
    leads = leads;
    tried = [];
    offered = offered;
    all_met = tt;
  }

  -- One of them is tried.
  pub one_tried : (found new : List Seen) (n : Next) (left ns : List Next) (more : Bool) →
      GoingOn f offers found next seen left → left ≡ n ∷ ns →
      length found ≤ most → ◌≡◌ {A = List Seen × Bool} (new, more) (met found next most n) →
      HasMet f offers found new next most n more
  one_tried found new n left ns more g is few h =
      let leads : LeadOn f seen.schedule g.from (n ∷ ns) =
      subst (LeadOn f seen.schedule g.from) is g.leads in
      has_met f offers coded found next g.from most n g.trying
      (subst (λ (s : Seen). LeadsOn f s.schedule g.from n) (sym g.same) leads.0) few new more h

  pub goes_on : (found new : List Seen) (n : Next) (left ns : List Next) →
      GoingOn f offers found next seen left → left ≡ n ∷ ns →
      HasMet f offers found new next most n true → GoingOn f offers new next seen ns
  goes_on found new n left ns g is m =
      let leads : LeadOn f seen.schedule g.from (n ∷ ns) =
      subst (LeadOn f seen.schedule g.from) is g.leads in
      record {
        same = m.same ∙ g.same;
        from = n.entry + 1;
        trying = m.goes.trying;
        leads = leads.1;
        tried = g.tried ++ n ∷ [];
        offered = rw (m.goes.same_before, append_assoc g.tried (n ∷ []) ns)
            (subst (λ ks. offers (take next found) seen (g.tried ++ ks)) is g.offered);
        all_met = met_too new seen.schedule g.tried n
            (m.goes.still_met seen.schedule g.tried g.all_met)
            (subst (λ (s : Seen). IsFound new n.state (s.schedule ++ n.entry ∷ [])) g.same
            m.goes.is_found);
      }

  -- None is left.
  pub all_tried : (found : List Seen) (left : List Next) → GoingOn f offers found next seen left →
      left ≡ [] → IsSearched f offers found (next + 1)
  all_tried found left g is =
      ended f offers found next g.from g.trying
      (record {
        choices = g.tried;
        offered = rw g.same
            (subst (offers (take next found) seen)
            (ap (λ ks. g.tried ++ ks) is ∙ append-nil g.tried) g.offered);
        all_met = rw g.same g.all_met;
      })

  -- There is no room for one of them.
  pub stopped : (found new : List Seen) (n : Next) (left ns : List Next) →
      GoingOn f offers found next seen left → left ≡ n ∷ ns →
      HasMet f offers found new next most n false → IsStopped f offers new next
  stopped found new n left ns g is m =
      let leads : LeadOn f seen.schedule g.from (n ∷ ns) =
      subst (LeadOn f seen.schedule g.from) is g.leads in
      subst (λ (found : List Seen). IsStopped f offers found next) (sym m.goes.same)
      (record {
        inside = g.trying.inside;
        gone_on = g.trying.gone_on;
        first = g.tried;
        one_more = n;
        others = ns;
        offered = rw g.same
            (subst (λ ks. offers (take next found) seen (g.tried ++ ks)) is g.offered);
        all_met = rw g.same g.all_met;
        leads = rw g.same leads.0.leads;
        new = no_place found n.state.code m.goes.new_state;
        before = λ i l. m.goes.trying.before i n.entry l (omega arith);
      })

  pub going_found : (found : List Seen) (left : List Next) → GoingOn f offers found next seen left →
      AreFound f found
  going_found found left g = g.trying.all

  pub stopped_found : (found new : List Seen) (n : Next) →
      HasMet f offers found new next most n false → AreFound f new
  stopped_found found new n m = subst (AreFound f) (sym m.goes.same) m.goes.trying.all

  pub going_near : (found : List Seen) (left : List Next) → GoingOn f offers found next seen left →
      AreWithin found (length seen.schedule + 1)
  going_near found left g =
      subst (λ (s : Seen). AreWithin found (length s.schedule + 1)) g.same
      (near f offers found next g.from g.trying)

  pub stopped_near : (found new : List Seen) (n : Next) → seen_at found next ≡ seen →
      HasMet f offers found new next most n false → AreWithin new (length seen.schedule + 1)
  stopped_near found new n same m =
      subst (λ (found : List Seen). AreWithin found (length seen.schedule + 1)) (sym m.goes.same)
      (subst (λ (s : Seen). AreWithin found (length s.schedule + 1)) same
      (near f offers found next n.entry m.goes.trying))

  pub stopped_full : (found new : List Seen) (n : Next) →
      HasMet f offers found new next most n false → length new ≡ most
  stopped_full found new n m = ap length m.goes.same ∙ m.goes.full

pub no_items : {A : Type 0} (xs : List A) → length xs ≡ 0 → xs ≡ []
no_items [] h = refl
no_items (x ∷ xs) h = absurd (omega arith)
