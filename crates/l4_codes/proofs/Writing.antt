-- What is written one after the other.
use Rattle.std.proofs.Common.{◌≡◌, ℕ, zero, suc, ◌+◌, ◌/◌, ◌%◌, ◌<◌, ◌≤◌, Bool, true, false, cond, ◌==◌, List, [], ◌∷◌, ◌++◌, length, get_or, drop, Result, Ok, Err, OnOk, refl, sym, ap, ◌∙◌, arith, append_assoc}
use Rattle.std.proofs.Math.Seq.{drop-cons}
use Rattle.std.proofs.lemmas.List.{drop_all}
use Rattle.std.proofs.lemmas.Bool.{lt-ltb, le-ltb, eqb-true, eq-eqb}
use Rattle.l4_states.specs.Inner.Bytes.{bytes_from, put_by, put_number}
use Rattle.l4_states.specs.Inner.Codes.{chained, each, length_code, number_code, sized}
use Rattle.l4_codes.specs.Inner.Written.{Written, appended, unwritten, with_numbers, zero_bytes, Writes, room, IsLeft}

-- A value, and then another
pub then : (f g : List ℕ → List ℕ) (a b c : Written) → Writes f a b → Writes g b c → Writes (λ rest. f (g rest)) a c
then f g a b c u v rest = v rest ∙ u (g rest)

-- And then a last one, by a call that may have failed
pub last : {E : Type 0} (r : Result (Unit {0}) E) (f g : List ℕ → List ℕ) (a b c : Written) → Writes f a b → OnOk r (Writes g b c) →
    OnOk r (Writes (λ rest. f (g rest)) a c)
last (Ok x) f g a b c u v = λ rest. v rest ∙ u (g rest)
last (Err e) f g a b c u v = tt

-- The same value, by another code of it
pub same_last : {E : Type 0} (r : Result (Unit {0}) E) (f g : List ℕ → List ℕ) (a b : Written) → ((rest : List ℕ) → f rest ≡ g rest) →
    OnOk r (Writes f a b) → OnOk r (Writes g a b)
same_last (Ok x) f g a b same u = λ rest. u rest ∙ ap (with_numbers a) (same rest)
same_last (Err e) f g a b same u = tt

-- A number

pub begun : (number : ℕ) (old : List ℕ) → number < 18446744073709551616 → IsLeft number number old old
begun number old fits = record { more = 9; fits = fits; same = λ rest. refl }

pub goes_on : (number left : ℕ) (old new : List ℕ) → 128 ≤ left → IsLeft number left old new →
    IsLeft number (left / 128) old (new ++ (left % 128 + 128) ∷ [])
goes_on number left old new large is = by is.more is.fits is.same
  where
    by : (more : ℕ) → left < room more → ((rest : List ℕ) → new ++ put_by more left rest ≡ old ++ put_number number rest) →
        IsLeft number (left / 128) old (new ++ (left % 128 + 128) ∷ [])
    by zero fits same = absurd (omega arith)
    by (suc more) fits same = record {
      more = more;
      fits = omega arith;
      same = λ rest.
          append_assoc new ((left % 128 + 128) ∷ []) (put_by more (left / 128) rest)
          ∙ sym (ap (λ b. new ++ cond b (left ∷ rest) ((left % 128 + 128) ∷ put_by more (left / 128) rest)) (le-ltb left 128 large))
          ∙ same rest;
    }

pub over : (number left : ℕ) (old new : List ℕ) → left < 128 → IsLeft number left old new → (rest : List ℕ) →
    (new ++ left ∷ []) ++ rest ≡ old ++ put_number number rest
over number left old new small is rest = by is.more is.same
  where
    by : (more : ℕ) → ((rest : List ℕ) → new ++ put_by more left rest ≡ old ++ put_number number rest) →
        (new ++ left ∷ []) ++ rest ≡ old ++ put_number number rest
    by zero same = append_assoc new (left ∷ []) rest ∙ same rest
    by (suc more) same =
        append_assoc new (left ∷ []) rest
        ∙ sym (ap (λ b. new ++ cond b (left ∷ rest) ((left % 128 + 128) ∷ put_by more (left / 128) rest)) (lt-ltb left 128 small))
        ∙ same rest

-- Lists

-- One of a list was written, and the others are left.
pub each_on : {A : Type 0} (code : A → List ℕ → List ℕ) (all : List ℕ → List ℕ) (xs : List A)
    (i : ℕ) (d : A) (a b c : Written) → i < length xs →
    ((rest : List ℕ) → with_numbers b (each code (drop i xs) rest) ≡ with_numbers a (all rest)) →
    Writes (code (get_or xs i d)) b c →
    (rest : List ℕ) → with_numbers c (each code (drop (i + 1) xs) rest) ≡ with_numbers a (all rest)
each_on code all xs i d a b c inside same one rest =
    one (each code (drop (i + 1) xs) rest)
    ∙ ap (λ ys. with_numbers b (each code ys rest)) (sym (drop-cons xs i d inside
    ∙ ap (λ k. get_or xs i d ∷ drop k xs) (let s : suc i ≡ i + 1 = omega arith in s)))
    ∙ same rest

-- All were written.
pub each_over : {A : Type 0} (code : A → List ℕ → List ℕ) (all : List ℕ → List ℕ) (xs : List A)
    (i : ℕ) (a c : Written) → length xs ≤ i →
    ((rest : List ℕ) → with_numbers c (each code (drop i xs) rest) ≡ with_numbers a (all rest)) →
    Writes all a c
each_over code all xs i a c none same rest =
    ap (λ ys. with_numbers c (each code ys rest)) (sym (drop_all i xs none)) ∙ same rest

-- The first of those that were left was written.
pub first_told : {A : Type 0} (code : A → List ℕ → List ℕ) (xs ys : List A) (x : A)
    (all : List A) (a b c d : Written) →
    ((rest : List ℕ) → with_numbers b (chained code xs rest) ≡ with_numbers a (chained code all rest)) →
    Writes (number_code 1) b c → Writes (code x) c d → xs ≡ x ∷ ys →
    (rest : List ℕ) → with_numbers d (chained code ys rest) ≡ with_numbers a (chained code all rest)
first_told code xs ys x all a b c d same one value is rest =
    value (chained code ys rest) ∙ one (code x (chained code ys rest))
    ∙ ap (λ zs. with_numbers b (chained code zs rest)) (sym is) ∙ same rest

-- The length of a list that has the usual one

pub usual_length : (usual n : ℕ) → n ≡ usual → length_code usual n ≡ 0
usual_length usual n e = ap (λ b. cond b 0 (n + 1)) (eq-eqb n usual e)

pub other_length : (usual n : ℕ) → (n ≡ usual → ⊥) → length_code usual n ≡ n + 1
other_length usual n ne = by (n == usual) refl
  where
    by : (b : Bool) → (n == usual) ≡ b → length_code usual n ≡ n + 1
    by true e = absurd (ne (eqb-true n usual e))
    by false e = ap (λ b. cond b 0 (n + 1)) e

-- None of such a list was written yet.
pub each_begun : {A : Type 0} (code : A → List ℕ → List ℕ) (usual : ℕ) (xs : List A)
    (a b : Written) → length xs ≡ usual → Writes (number_code 0) a b →
    (rest : List ℕ) → with_numbers b (each code (drop 0 xs) rest)
    ≡ with_numbers a (sized usual code xs rest)
each_begun code usual xs a b size zeros rest =
    zeros (each code xs rest)
    ∙ ap (λ k. with_numbers a (k ∷ each code xs rest)) (sym (usual_length usual (length xs) size))

-- A value that was written by itself

-- It begins with a number above 0.
pub record BeginsAbove (f : List ℕ → List ℕ) (rest : List ℕ) : Type 0 where
  pub first : ℕ
  pub others : List ℕ
  pub is : f rest ≡ suc first ∷ others

-- No run of zeros goes on in it, so its code may stand behind any other.
pub written_apart : (f : List ℕ → List ℕ) (w v : Written) → ((rest : List ℕ) → BeginsAbove f rest) →
    Writes f unwritten v → Writes f w (appended w v)
written_apart f w v above is rest =
    append_assoc (w.bytes ++ zero_bytes w.zeros) v.bytes (bytes_from v.zeros rest)
    ∙ ap (λ bs. (w.bytes ++ zero_bytes w.zeros) ++ bs) (is rest)
    ∙ by w.zeros (f rest) (above rest).is
  where
    by : (zeros : ℕ) (ns : List ℕ) → ns ≡ suc (above rest).first ∷ (above rest).others →
        (w.bytes ++ zero_bytes zeros) ++ bytes_from 0 ns ≡ w.bytes ++ bytes_from zeros ns
    by zero ns e = append_assoc w.bytes [] (bytes_from 0 ns)
    by (suc zeros) ns e =
        append_assoc w.bytes (0 ∷ suc zeros ∷ []) (bytes_from 0 ns)
        ∙ ap (λ ms. w.bytes ++ 0 ∷ suc zeros ∷ bytes_from 0 ms) e
        ∙ ap (λ ms. w.bytes ++ bytes_from (suc zeros) ms) (sym e)
