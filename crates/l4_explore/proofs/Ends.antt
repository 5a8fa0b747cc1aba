-- Codes that stand one behind the other.
use Rattle.std.proofs.Common.{◌≡◌, ℕ, zero, suc, ◌+◌, ◌-◌, ◌<◌, ◌≤◌, ◌⊎◌, inl, inr, List, [], ◌∷◌, ◌++◌, length, take, drop, refl, sym, ap, ◌∙◌, arith, length-append, length-drop}
use Rattle.std.specs.List.{slice_range}
use Rattle.std.proofs.Math.ListN.{get_or-append}
use Rattle.std.proofs.Math.Seq.{get_or-append_seam, drop-append_seam, take-length}
use Rattle.std.proofs.lemmas.List.{drop-append-le, take-append-le}
use Rattle.l4_explore.specs.Inner.Codes.{code_at, start_of, end_of, code_between, first_codes, codes_of, AreEnds}
use Rattle.l4_explore.proofs.Trying.{below_or_last}

module _ (bytes ends : List ℕ) where
  length-first_codes : (count : ℕ) → length (first_codes bytes ends count) ≡ count
  length-first_codes zero = refl
  length-first_codes (suc k) =
      length-append (first_codes bytes ends k) (code_between bytes ends k ∷ [])
      ∙ omega (arith, length-first_codes k)

  pub length-codes_of : length (codes_of bytes ends) ≡ length ends
  length-codes_of = length-first_codes (length ends)

  first_codes-at : (count i : ℕ) → i < count →
      code_at (first_codes bytes ends count) i ≡ code_between bytes ends i
  first_codes-at zero i l = absurd (omega arith)
  first_codes-at (suc k) i l = by (first_codes-at k i) (below_or_last k i (omega arith))
    where
      code : List ℕ
      code = code_between bytes ends k

      by : (i < k → code_at (first_codes bytes ends k) i ≡ code_between bytes ends i) →
          (i < k) ⊎ (i ≡ k) →
          code_at (first_codes bytes ends (suc k)) i ≡ code_between bytes ends i
      by old (inl m) =
          get_or-append (first_codes bytes ends k) (code ∷ []) [] i
          (omega (arith, length-first_codes k))
          ∙ old m
      by old (inr e) =
          ap (code_at (first_codes bytes ends (suc k))) (e ∙ sym (length-first_codes k))
          ∙ get_or-append_seam (first_codes bytes ends k) code [] []
          ∙ ap (code_between bytes ends) (sym e)

  pub codes_of-at : (i : ℕ) → i < length ends →
      code_at (codes_of bytes ends) i ≡ code_between bytes ends i
  codes_of-at i l = first_codes-at (length ends) i l

same_first_codes : (bytes ends more_bytes more_ends : List ℕ) (count : ℕ) →
    ((i : ℕ) → i < count → code_between more_bytes more_ends i ≡ code_between bytes ends i) →
    first_codes more_bytes more_ends count ≡ first_codes bytes ends count
same_first_codes bytes ends more_bytes more_ends zero same = refl
same_first_codes bytes ends more_bytes more_ends (suc k) same =
    ap (λ codes. codes ++ code_between more_bytes more_ends k ∷ [])
    (same_first_codes bytes ends more_bytes more_ends k (λ i l. same i (omega arith)))
    ∙ ap (λ code. first_codes bytes ends k ++ code ∷ []) (same k (omega arith))

-- A part of the bytes stays where more are added behind.
part_of_more : (bytes code : List ℕ) (from to : ℕ) → from ≤ to → to ≤ length bytes →
    slice_range (bytes ++ code) from to ≡ slice_range bytes from to
part_of_more bytes code from to l m =
    ap (take (to - from)) (drop-append-le from bytes code (omega arith))
    ∙ take-append-le (to - from) (drop from bytes) code (omega (arith, length-drop from bytes))

part_at_end : (bytes code : List ℕ) →
    slice_range (bytes ++ code) (length bytes) (length bytes + length code) ≡ code
part_at_end bytes code =
    ap (take (length bytes + length code - length bytes)) (drop-append_seam bytes code)
    ∙ ap (λ count. take count code)
    (let e : length bytes + length code - length bytes ≡ length code = omega arith in e)
    ∙ take-length code

-- One more code
module _ (bytes ends code : List ℕ) (are : AreEnds bytes ends) where
  abbrev pub more_bytes : List ℕ
  more_bytes = bytes ++ code

  abbrev pub end : ℕ
  end = length bytes + length code

  abbrev pub more_ends : List ℕ
  more_ends = ends ++ end ∷ []

  start_old : (i : ℕ) → i ≤ length ends → start_of more_ends i ≡ start_of ends i
  start_old zero l = refl
  start_old (suc i) l = get_or-append ends (end ∷ []) 0 i (omega arith)

  end_old : (i : ℕ) → i < length ends → end_of more_ends i ≡ end_of ends i
  end_old i l = get_or-append ends (end ∷ []) 0 i l

  end_new : end_of more_ends (length ends) ≡ end
  end_new = get_or-append_seam ends end [] 0

  start_new : start_of more_ends (length ends) ≡ length bytes
  start_new = start_old (length ends) (omega arith) ∙ are.last

  between_old : (i : ℕ) → i < length ends →
      code_between more_bytes more_ends i ≡ code_between bytes ends i
  between_old i l =
      ap (λ from. slice_range more_bytes from (end_of more_ends i)) (start_old i (omega arith))
      ∙ ap (slice_range more_bytes (start_of ends i)) (end_old i l)
      ∙ part_of_more bytes code (start_of ends i) (end_of ends i) (are.rising i l) (are.inside i l)

  between_new : code_between more_bytes more_ends (length ends) ≡ code
  between_new =
      ap (λ from. slice_range more_bytes from (end_of more_ends (length ends))) start_new
      ∙ ap (slice_range more_bytes (length bytes)) end_new
      ∙ part_at_end bytes code

  long : length more_ends ≡ suc (length ends)
  long = length-append ends (end ∷ []) ∙ omega arith

  pub codes_more : codes_of more_bytes more_ends ≡ codes_of bytes ends ++ code ∷ []
  codes_more =
      ap (first_codes more_bytes more_ends) long
      ∙ ap (λ codes. codes ++ code_between more_bytes more_ends (length ends) ∷ [])
      (same_first_codes bytes ends more_bytes more_ends (length ends) between_old)
      ∙ ap (λ last. codes_of bytes ends ++ last ∷ []) between_new

  pub ends_more : AreEnds more_bytes more_ends
  ends_more = record {
    rising = λ i l. rising i (below_or_last (length ends) i (omega (arith, long)));
    inside = λ i l. inside i (below_or_last (length ends) i (omega (arith, long)));
    last = ap (start_of more_ends) long ∙ end_new ∙ sym (length-append bytes code);
  }
    where
      rising : (i : ℕ) → (i < length ends) ⊎ (i ≡ length ends) →
          start_of more_ends i ≤ end_of more_ends i
      rising i (inl l) =
          let old = are.rising i l in
          omega (arith, old, start_old i (omega arith), end_old i l)
      rising i (inr e) = rw e (omega (arith, start_new, end_new))

      inside : (i : ℕ) → (i < length ends) ⊎ (i ≡ length ends) →
          end_of more_ends i ≤ length more_bytes
      inside i (inl l) =
          let old = are.inside i l in omega (arith, old, end_old i l, length-append bytes code)
      inside i (inr e) = rw e (omega (arith, end_new, length-append bytes code))
