-- An inbox, where a letter comes or is taken out.
use Rattle.std.proofs.Common.{◌≡◌, ◌≢◌, ◌⊎◌, inl, inr, ℕ, zero, suc, ◌+◌, ◌-◌, ◌*◌, ◌%◌, ◌^◌, ◌<◌, ◌≤◌, Bool, true, false, None, List, [], ◌∷◌, ◌++◌, length, drop, get_or, set, refl, ap, sym, ◌∙◌, subst, arith, lt_trans, ⊎_elim, true≢false, bit_or, bit_and, w64}
use Rattle.std.specs.Prelude.{slice_get, ◌==◌}
use Rattle.std.specs.Int.{bit_at}
use Rattle.std.specs.Int.Count.{count_trailing_zeros}
use Rattle.std.proofs.lemmas.Bool.{cases_eq, cases_lt, eqb-true, eqb-false}
use Rattle.std.proofs.lemmas.List.{get_or_past}
use Rattle.std.proofs.lemmas.Nat.Bits.{bit_at_set_same, bit_at_set_other, bit_at_clear_same, bit_at_clear_other, bit_at-trailing_zeros}
use Rattle.l4_model.specs.World.{changed}
use Rattle.l4_model.proofs.Chains.{set_changed}
use Rattle.l4_core_model.specs.Letters.{Letter}
use Rattle.l4_core_model.specs.Runs.{is_empty}
use Rattle.l4_core_model.proofs.Changed.{get-changed}
use Rattle.l4_replay.specs.Inner.Posters.{mark, IsFirstFilled, MarksPosters}

-- What is read of a queue.
pub queue_read : (qs : List (List Letter)) (i : ℕ) (old : List Letter) → i < length qs → old ≡ get_or qs i old → get_or qs i [] ≡ old
queue_read [] i old lt at = absurd (omega arith)
queue_read (q ∷ qs) zero old lt at = sym at
queue_read (q ∷ qs) (suc i) old lt at = queue_read qs i old (omega arith) at

-- A queue is written where its letters change.
pub queue_written : (f : List Letter → List Letter) (qs : List (List Letter)) (i : ℕ) (old new : List Letter) → i < length qs → old ≡ get_or qs i old → new ≡ f old → set qs i new ≡ changed f qs i
queue_written f qs i old new lt at is = set_changed f qs i old new lt (is ∙ ap f at)

pub no_first : (ls : List Letter) → None ≡ slice_get ls 0 → ls ≡ []
no_first [] none = refl
no_first (l ∷ ls) none = cc

pub below_next : (P : ℕ → Type 0) (n k : ℕ) → ((k : ℕ) → k < n → P k) → P n → k < n + 1 → P k
below_next P n k below at lt = by (k == n) refl
  where
    by : (b : Bool) → (k == n) ≡ b → P k
    by true e = subst P (sym (eqb-true k n e)) at
    by false e = let ne : k ≢ n = eqb-false k n e in below k (omega arith)

-- An empty queue has no letter.
pub nothing_there : (q : List Letter) (b : Bool) → b ≡ (length q == 0) → b ≡ true → q ≡ []
nothing_there [] b is empty = refl
nothing_there (l ∷ q) b is empty = absurd (let none : length (l ∷ q) ≡ 0 = eqb-true (length (l ∷ q)) 0 (sym is ∙ empty) in omega (arith, none))

something_there : (q : List Letter) (b : Bool) → b ≡ (length q == 0) → b ≡ false → q ≢ []
something_there [] b is some none = true≢false (sym is ∙ some)
something_there (l ∷ q) b is some none = cc

-- The marks of posters

module _ (f : List Letter → List Letter) where
  changed_here : (qs : List (List Letter)) (i j : ℕ) → j < length qs → i ≡ j → get_or (changed f qs j) i [] ≡ f (get_or qs j [])
  changed_here qs i j within same = ap (λ k. get_or (changed f qs j) k []) same ∙ get-changed f qs j [] within

  changed_else : (qs : List (List Letter)) (i j : ℕ) → i ≢ j → get_or (changed f qs j) i [] ≡ get_or qs i []
  changed_else [] i j ne = refl
  changed_else (q ∷ qs) zero zero ne = absurd (ne refl)
  changed_else (q ∷ qs) zero (suc j) ne = refl
  changed_else (q ∷ qs) (suc i) zero ne = refl
  changed_else (q ∷ qs) (suc i) (suc j) ne = changed_else qs i j (λ same. ne (ap suc same))

no_mark : (ls : List Letter) → mark ls ≡ 0 → ls ≡ []
no_mark [] is = refl
no_mark (l ∷ ls) is = cc

is_mark : (ls : List Letter) → mark ls ≡ 1 → is_empty ls ≡ false
is_mark [] is = cc
is_mark (l ∷ ls) is = refl

-- A letter comes from one poster.
abbrev pub with_last : Letter → List Letter → List Letter
with_last letter ls = ls ++ letter ∷ []

mark_of_more : (ls : List Letter) (letter : Letter) → mark (with_last letter ls) ≡ 1
mark_of_more [] letter = refl
mark_of_more (l ∷ ls) letter = refl

pub marks_come : (qs : List (List Letter)) (word from : ℕ) (letter : Letter) → from < length qs → from < 64 → MarksPosters word qs →
    MarksPosters (bit_or word (1 * 2 ^ from % 18446744073709551616)) (changed (with_last letter) qs from)
marks_come qs word from letter within small marks i lt = ⊎_elim
    (λ same. ap (bit_at _) same ∙ bit_at_set_same w64 word from small
    ∙ sym (ap mark (changed_here (with_last letter) qs i from within same) ∙ mark_of_more (get_or qs from []) letter))
    (λ ne. bit_at_set_other w64 word from small i ne ∙ marks i lt ∙ sym (ap mark (changed_else (with_last letter) qs i from ne)))
    (cases_eq i from)

-- The last letter of one poster is taken out.
pub marks_emptied : (qs : List (List Letter)) (word from : ℕ) → from < length qs → from < 64 → drop 1 (get_or qs from []) ≡ [] → MarksPosters word qs →
    MarksPosters (bit_and word (18446744073709551615 - 1 * 2 ^ from % 18446744073709551616)) (changed (drop 1) qs from)
marks_emptied qs word from within small none marks i lt = ⊎_elim
    (λ same. ap (bit_at _) same ∙ bit_at_clear_same w64 word from small
    ∙ sym (ap mark (changed_here (drop 1) qs i from within same ∙ none)))
    (λ ne. bit_at_clear_other w64 word from small i lt ne ∙ marks i lt ∙ sym (ap mark (changed_else (drop 1) qs i from ne)))
    (cases_eq i from)

-- More are left.
more_left : (ls : List Letter) → drop 1 ls ≢ [] → mark ls ≡ mark (drop 1 ls)
more_left [] some = absurd (some refl)
more_left (l ∷ []) some = absurd (some refl)
more_left (l ∷ k ∷ ls) some = refl

pub marks_stay : (qs : List (List Letter)) (word from : ℕ) → from < length qs → drop 1 (get_or qs from []) ≢ [] → MarksPosters word qs →
    MarksPosters word (changed (drop 1) qs from)
marks_stay qs word from within some marks i lt = ⊎_elim
    (λ same. marks i lt ∙ ap (λ k. mark (get_or qs k [])) same ∙ more_left (get_or qs from []) some
    ∙ sym (ap mark (changed_here (drop 1) qs i from within same)))
    (λ ne. marks i lt ∙ sym (ap mark (changed_else (drop 1) qs i from ne)))
    (cases_eq i from)

-- The first letter of a queue was dropped.
module _ (qs : List (List Letter)) (word from : ℕ) (old new : List Letter) (b : Bool) (within : from < length qs) (at : old ≡ get_or qs from old)
    (rest : new ≡ drop 1 old) (is : b ≡ (length new == 0)) (marks : MarksPosters word qs) where
  left_there : drop 1 (get_or qs from []) ≡ new
  left_there = ap (drop 1) (queue_read qs from old within at) ∙ sym rest

  pub last_dropped : from < 64 → b ≡ true → MarksPosters (bit_and word (18446744073709551615 - 1 * 2 ^ from % 18446744073709551616)) (set qs from new)
  last_dropped small empty =
      subst (MarksPosters (bit_and word (18446744073709551615 - 1 * 2 ^ from % 18446744073709551616))) (sym (queue_written (drop 1) qs from old new within at rest))
      (marks_emptied qs word from within small (left_there ∙ nothing_there new b is empty) marks)

  pub one_dropped : b ≡ false → MarksPosters word (set qs from new)
  one_dropped some =
      subst (MarksPosters word) (sym (queue_written (drop 1) qs from old new within at rest))
      (marks_stay qs word from within (λ none. something_there new b is some (sym left_there ∙ none)) marks)

pub is_first : (qs : List (List Letter)) (word : ℕ) → length qs ≤ 64 → 0 < word → word < 18446744073709551616 → MarksPosters word qs →
    IsFirstFilled qs (count_trailing_zeros 64 word)
is_first qs word few some small marks =
    let low = bit_at-trailing_zeros w64 word some small in
    let filled = is_mark (get_or qs (count_trailing_zeros 64 word) []) (sym (marks (count_trailing_zeros 64 word) low.0) ∙ low.1) in
    record {
      within = within (count_trailing_zeros 64 word) filled (cases_lt (count_trailing_zeros 64 word) (length qs));
      filled = filled;
      lowest = λ other lt. no_mark (get_or qs other []) (sym (marks other (lt_trans lt low.0)) ∙ low.2 other lt);
    }
  where
    within : (i : ℕ) → is_empty (get_or qs i []) ≡ false → (i < length qs) ⊎ (length qs ≤ i) → i < length qs
    within i filled (inl lt) = lt
    within i filled (inr le) = absurd (true≢false (sym (ap is_empty (get_or_past qs i [] le)) ∙ filled))
