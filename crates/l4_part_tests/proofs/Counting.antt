-- Two counters that go up by themselves.
use Rattle.std.proofs.Common.{◌≡◌, ℕ, zero, suc, ◌+◌, ◌<◌, ◌≤◌, Bool, true, false, cond, nat_lt, Option, None, Some, List, [], ◌∷◌, ◌++◌, length, get_or, map, refl, sym, ap, ◌∙◌, arith, inl}
use Rattle.std.proofs.lemmas.Bool.{ltb-false}
use Rattle.l4_explore.specs.Tries.{State, Next, LeadOn}
use Rattle.std.proofs.Common.{Result, Ok, Err}
use Rattle.std.specs.Prelude.{IfOk}
use Rattle.l4_explore.specs.declared.search.Explored.{Explored}
use Rattle.l4_explore.proofs.Nearing.{all_ends}
use Rattle.l4_explore.specs.Search.{Seen, IsExplored}
use Rattle.l4_explore.specs.Inner.Ends.{AreAllEnds, AreEnough, AreKept}
use Rattle.l4_explore.specs.Inner.Views.{next_from}
use Rattle.l4_explore.specs.declared.tries.Choice.{Choice}
use Rattle.l4_part_tests.specs.Inner.Coded.{guarded, is_at}
use Rattle.l4_part_tests.specs.Inner.Counters.{after, at, state_after, EndsIn}

passes : (l : ℕ) (o : Option State) → l < 2 → cond (nat_lt l 2) o None ≡ o
passes l o less = by (nat_lt l 2) refl
  where
    by : (b : Bool) → nat_lt l 2 ≡ b → cond b o None ≡ o
    by true e = refl
    by false e = let le = ltb-false l 2 e in absurd (omega (arith, le, less))

-- One entry more
behind : (s t : List ℕ) (l r : ℕ) (a : State) (j k : ℕ) → after l r s ≡ Some a → a ≡ at j k →
    after l r (s ++ t) ≡ after j k t
behind [] t l r a j k h is =
    let here : at l r ≡ a = cc in
    let e : ◌≡◌ {A = List ℕ} (l ∷ r ∷ []) (j ∷ k ∷ []) = ap (λ (c : State). c.code) (here ∙ is) in
    let one : l ≡ j = cc in
    let two : r ≡ k = cc in
    ap (λ n. after n r t) one ∙ ap (λ n. after j n t) two
behind (zero ∷ s) t l r a j k h is =
    let g = guarded l (after (l + 1) r s) a h in
    passes l (after (l + 1) r (s ++ t)) g.0 ∙ behind s t (l + 1) r a j k g.1 is
behind (suc zero ∷ s) t l r a j k h is =
    let g = guarded r (after l (r + 1) s) a h in
    passes r (after l (r + 1) (s ++ t)) g.0 ∙ behind s t l (r + 1) a j k g.1 is
behind (suc (suc e) ∷ s) t l r a j k h is = cc

module _ (s : List ℕ) (a : State) (l r : ℕ) (leads : state_after s ≡ Some a) (is : a ≡ at l r) where
  pub left_leads : l < 2 → LeadOn state_after s 0 (record { entry = 0; state = at (l + 1) r } ∷ [])
  left_leads less = (
    record {
      later = omega arith;
      leads = behind s (0 ∷ []) 0 0 a l r leads is ∙ passes l (Some (at (l + 1) r)) less;
    },
    tt,
  )

  pub right_leads : r < 2 →
      LeadOn state_after s 0 (record { entry = 1; state = at l (r + 1) } ∷ [])
  right_leads less = (
    record {
      later = omega arith;
      leads = behind s (1 ∷ []) 0 0 a l r leads is ∙ passes r (Some (at l (r + 1))) less;
    },
    tt,
  )

-- A way to the end, one entry shorter
record IsShorter (l r : ℕ) (end : State) (entries : ℕ) : Type 0 where
  schedule : List ℕ
  leads : after l r schedule ≡ Some end
  long : entries ≡ suc (length schedule)

-- While the left one is below 2, each way to the end may begin with it.
left_first : (s : List ℕ) (l r : ℕ) (end : State) → l < 2 → after l r s ≡ Some end →
    end ≡ at 2 2 → IsShorter (l + 1) r end (length s)
left_first [] l r end less h rest =
    let here : at l r ≡ end = cc in
    let e : ◌≡◌ {A = List ℕ} (l ∷ r ∷ []) (2 ∷ 2 ∷ []) =
    ap (λ (c : State). c.code) (here ∙ rest) in
    let one : l ≡ 2 = cc in
    absurd (omega (arith, one, less))
left_first (zero ∷ s) l r end less h rest = record {
  schedule = s;
  leads = (guarded l (after (l + 1) r s) end h).1;
  long = refl;
}
left_first (suc zero ∷ s) l r end less h rest =
    let g = guarded r (after l (r + 1) s) end h in
    let i = left_first s l (r + 1) end less g.1 rest in
    record {
      schedule = 1 ∷ i.schedule;
      leads = passes r (after (l + 1) (r + 1) i.schedule) g.0 ∙ i.leads;
      long = ap suc i.long;
    }
left_first (suc (suc e) ∷ s) l r end less h rest = cc

-- Behind that the right one goes up alone.
right_next : (s : List ℕ) (l r n : ℕ) (end : State) → 2 ≤ l → after l r s ≡ Some end →
    length s ≡ n + 1 → (r < 2) × IsShorter l (r + 1) end (length s)
right_next [] l r n end le h long = absurd (omega (arith, long))
right_next (zero ∷ s) l r n end le h long =
    let less = (guarded l (after (l + 1) r s) end h).0 in absurd (omega (arith, le, less))
right_next (suc zero ∷ s) l r n end le h long =
    let g = guarded r (after l (r + 1) s) end h in
    (g.0, record { schedule = s; leads = g.1; long = refl })
right_next (suc (suc e) ∷ s) l r n end le h long = cc

module _ (before : List Seen) (seen : Seen) (l r : ℕ) (is : seen.state ≡ at l r) where
  -- The same counters
  counters : (j k : ℕ) → seen.state ≡ at j k → (s : List ℕ) (end : State) →
      after j k s ≡ Some end → after l r s ≡ Some end
  counters j k here s end leads =
      let e : ◌≡◌ {A = List ℕ} (j ∷ k ∷ []) (l ∷ r ∷ []) =
      ap (λ (c : State). c.code) (sym here ∙ is) in
      let one : j ≡ l = cc in
      let two : k ≡ r = cc in
      ap (λ n. after n r s) (sym one) ∙ ap (λ n. after j n s) (sym two) ∙ leads

  pub enough_left : l < 2 →
      AreEnough EndsIn before seen (record { entry = 0; state = at (l + 1) r } ∷ [])
  enough_left less more end e =
      let i = left_first e.schedule l r end less (counters e.left e.right e.here e.schedule end e.leads)
      e.rest in
      inl (record {
        left = l + 1;
        right = r;
        here = refl;
        schedule = i.schedule;
        leads = i.leads;
        rest = e.rest;
        long = omega (arith, i.long, e.long);
      })

  pub enough_right : 2 ≤ l →
      AreEnough EndsIn before seen (record { entry = 1; state = at l (r + 1) } ∷ [])
  enough_right le more end e =
      let i = (right_next e.schedule l r more end le
      (counters e.left e.right e.here e.schedule end e.leads) e.long).1 in
      inl (record {
        left = l;
        right = r + 1;
        here = refl;
        schedule = i.schedule;
        leads = i.leads;
        rest = e.rest;
        long = omega (arith, i.long, e.long);
      })

  pub enough_none : 2 ≤ l → 2 ≤ r → AreEnough EndsIn before seen []
  enough_none le high more end e =
      let less = (right_next e.schedule l r more end le
      (counters e.left e.right e.here e.schedule end e.leads) e.long).0 in
      omega (arith, less, high)

-- Where no entry is left, the end is here.
pub are_kept : AreKept EndsIn (AreEnough EndsIn)
are_kept = record {
  here = λ state end e. no_more state end e e.schedule refl;
  nearer = λ before seen choices enough. enough;
}
  where
    no_more : (state end : State) (e : EndsIn state 0 end) (s : List ℕ) → e.schedule ≡ s →
        state ≡ end
    no_more state end e [] is =
        e.here
        ∙ (let h : Some (at e.left e.right) ≡ Some end =
        ap (after e.left e.right) (sym is) ∙ e.leads in
        let same : at e.left e.right ≡ end = cc in same)
    no_more state end e (x ∷ s) is =
        let long = e.long in absurd (omega (arith, long, ap length is))

-- A search that is offered enough finds all ends.
pub found_ends : {E : Type 0} (r : Result Explored E) →
    IfOk r (λ x. IsExplored state_after (AreEnough EndsIn) x.found x.depth x.is_whole) →
    IfOk r (λ x. AreAllEnds EndsIn (at 0 0) x.found x.depth x.is_whole)
found_ends (Ok x) explored =
    all_ends state_after (AreEnough EndsIn) EndsIn x.found x.depth x.is_whole explored are_kept
    (at 0 0) refl
found_ends (Err e) explored = tt

-- The code of a state is that of two counters.
module _ (s : List ℕ) (a : State) (leads : state_after s ≡ Some a) (code : List ℕ)
    (same : code ≡ a.code) where
  pub counters_of : a ≡ at (get_or code 0 0) (get_or code 1 0)
  counters_of =
      let x = is_at s 0 0 a leads in
      x.is ∙ ap (λ (c : List ℕ). at (get_or c 0 0) (get_or c 1 0))
      (sym (same ∙ ap (λ (b : State). b.code) x.is))

  pub two_counters : length code ≡ 2
  two_counters =
      let x = is_at s 0 0 a leads in ap length (same ∙ ap (λ (b : State). b.code) x.is)

pub one_choice : (cs : List Choice) (x : Choice) (n : Next) → cs ≡ x ∷ [] → next_from x ≡ n →
    map next_from cs ≡ n ∷ []
one_choice cs x n one is = ap (map next_from) one ∙ ap (λ k. k ∷ []) is
