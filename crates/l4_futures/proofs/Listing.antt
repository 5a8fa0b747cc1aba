-- The places of what was found, and of its ends.
use Rattle.std.proofs.Common.{◌≡◌, ℕ, zero, suc, ◌<◌, Bool, true, false, cond, Some, List, [], ◌∷◌, length, map, refl, arith}
use Rattle.std.specs.Prelude.{slice_get, filter}
use Rattle.l4_explore.specs.Search.{Seen, seen_at}
use Rattle.l4_model.proofs.Chains.{some_is}
use Rattle.l4_states.specs.Endings.{ends_of}
use Rattle.l4_futures.specs.Inner.Search.{schedules_of}

one_later : (i j : ℕ) → i < j → suc i < suc j
one_later i j less = omega (arith, less)

first_of_all : (i : ℕ) → 0 < suc i
first_of_all i = omega arith

module _ {A : Type 0} (f : List ℕ → A) where
  -- Of all that was found

  pub found_place : (found : List Seen) (i : ℕ) → i < length found → slice_get (map f (schedules_of found)) i ≡ Some (f (seen_at found i).schedule)
  found_place [] i l = absurd (omega arith)
  found_place (x ∷ xs) zero l = refl
  found_place (x ∷ xs) (suc i) l = found_place xs i (omega arith)

  pub record IsOf (found : List Seen) (i : ℕ) (a : A) : Type 0 where
    pub inside : i < length found
    pub is : f (seen_at found i).schedule ≡ a

  pub of_found : (found : List Seen) (i : ℕ) (a : A) → slice_get (map f (schedules_of found)) i ≡ Some a → IsOf found i a
  of_found [] i a h = cc
  of_found (x ∷ xs) zero a h = record { inside = omega arith; is = some_is (f x.schedule) a h }
  of_found (x ∷ xs) (suc i) a h = let r = of_found xs i a h in record { inside = omega (arith, r.inside); is = r.is }

  -- Of the ends

  abbrev ends : List Seen → List A
  ends found = map f (ends_of found)

  -- The ends behind one that was found: it is one of them, or not.
  abbrev ends_with : Bool → Seen → List Seen → List A
  ends_with b x xs = map f (map (λ (s : Seen). s.schedule) (cond b (x ∷ filter (λ s. s.state.is_end) xs) (filter (λ s. s.state.is_end) xs)))

  -- An end among what was found is among the ends.
  pub end_place : (found : List Seen) (i : ℕ) → i < length found → (seen_at found i).state.is_end ≡ true → (j : ℕ) × (slice_get (map f (ends_of found)) j ≡ Some (f (seen_at found i).schedule))
  end_place [] i l is = absurd (omega arith)
  end_place (x ∷ xs) zero l is = by x.state.is_end is
    where
      by : (b : Bool) → b ≡ true → (j : ℕ) × (slice_get (ends_with b x xs) j ≡ Some (f x.schedule))
      by true e = (0, refl)
      by false e = cc
  end_place (x ∷ xs) (suc i) l is = by x.state.is_end (end_place xs i (omega arith) is)
    where
      by : (b : Bool) → (j : ℕ) × (slice_get (map f (ends_of xs)) j ≡ Some (f (seen_at xs i).schedule)) → (j : ℕ) × (slice_get (ends_with b x xs) j ≡ Some (f (seen_at xs i).schedule))
      by true r = (suc r.0, r.1)
      by false r = r

  -- One of the ends was found.
  pub record IsEndOf (found : List Seen) (a : A) : Type 0 where
    pub place : ℕ
    pub inside : place < length found
    pub is_end : (seen_at found place).state.is_end ≡ true
    pub is : f (seen_at found place).schedule ≡ a

  abbrev later_end : (x : Seen) (xs : List Seen) (a : A) → IsEndOf xs a → IsEndOf (x ∷ xs) a
  later_end x xs a r = record { place = suc r.place; inside = omega (arith, r.inside); is_end = r.is_end; is = r.is }

  pub end_found : (found : List Seen) (j : ℕ) (a : A) → slice_get (map f (ends_of found)) j ≡ Some a → IsEndOf found a
  end_found [] j a h = cc
  end_found (x ∷ xs) j a h = by x.state.is_end refl j h (λ k at. end_found xs k a at)
    where
      by : (b : Bool) → x.state.is_end ≡ b → (j : ℕ) → slice_get (ends_with b x xs) j ≡ Some a → ((k : ℕ) → slice_get (map f (ends_of xs)) k ≡ Some a → IsEndOf xs a) → IsEndOf (x ∷ xs) a
      by true is zero h rest = record { place = 0; inside = omega arith; is_end = is; is = some_is (f x.schedule) a h }
      by true is (suc k) h rest = later_end x xs a (rest k h)
      by false is k h rest = later_end x xs a (rest k h)

  -- Two of them were found in their order.
  pub record AreEndsOf (found : List Seen) (a b : A) : Type 0 where
    pub first : IsEndOf found a
    pub second : IsEndOf found b
    pub rise : first.place < second.place

  pub ends_found : (found : List Seen) (i j : ℕ) (a b : A) → i < j → slice_get (map f (ends_of found)) i ≡ Some a → slice_get (map f (ends_of found)) j ≡ Some b → AreEndsOf found a b
  ends_found [] i j a b less at_i at_j = cc
  ends_found (x ∷ xs) i j a b less at_i at_j = by x.state.is_end refl i j less at_i at_j (λ k l low first second. ends_found xs k l a b low first second)
    where
      later : AreEndsOf xs a b → AreEndsOf (x ∷ xs) a b
      later r = record { first = later_end x xs a r.first; second = later_end x xs b r.second; rise = one_later r.first.place r.second.place r.rise }

      by : (c : Bool) → x.state.is_end ≡ c → (i j : ℕ) → i < j → slice_get (ends_with c x xs) i ≡ Some a → slice_get (ends_with c x xs) j ≡ Some b →
          ((k l : ℕ) → k < l → slice_get (map f (ends_of xs)) k ≡ Some a → slice_get (map f (ends_of xs)) l ≡ Some b → AreEndsOf xs a b) → AreEndsOf (x ∷ xs) a b
      by true is i zero less at_i at_j rest = absurd (omega arith)
      by true is zero (suc j) less at_i at_j rest =
          record {
            first = record { place = 0; inside = omega arith; is_end = is; is = some_is (f x.schedule) a at_i };
            second = later_end x xs b (end_found xs j b at_j);
            rise = first_of_all (end_found xs j b at_j).place;
          }
      by true is (suc i) (suc j) less at_i at_j rest = later (rest i j (omega (arith, less)) at_i at_j)
      by false is i j less at_i at_j rest = later (rest i j less at_i at_j)
