-- The inlets of a port, while a letter is looked for and taken.
use Rattle.std.proofs.Common.{◌≡◌, ◌≢◌, ℕ, zero, suc, refl, ◌+◌, ◌<◌, ◌≤◌, List, [], ◌∷◌, ◌++◌, length, map, set, get_or, sym, ap, ◌∙◌, ◌⊎◌, ⊎_elim, inl, inr, arith, Option, Some, None}
use Rattle.std.proofs.lemmas.Bool.Decides.{eqb_tells}
use Rattle.std.proofs.lemmas.List.{length-set}
use Rattle.std.proofs.Math.Seq.{map-set_same}
use Rattle.l4_core_model.specs.Letters.{Letter}
use Rattle.l4_mail.specs.declared.inlets.Inlet.{Inlet}
use Rattle.l4_mail.specs.Ends.{ring_in, taken, kept, here}
use Rattle.l4_mail.specs.Ports.{only}
use Rattle.l4_mail.specs.Inner.Takes.{NoneIsKept, NoneIsHere, NoneIsTaken, IsNext}
use Rattle.l4_mail.proofs.Taken.{front_empty}
use Rattle.l4_mail.proofs.Rows.{set_here, set_elsewhere, read_here, read_beyond, grown_at, shrunk_at, below_or}

pub none_kept_set : (l : List (Option Inlet)) (i : ℕ) (y : Option Inlet) → i < length l → kept y ≡ [] → NoneIsKept l → NoneIsKept (set l i y)
none_kept_set l i y lt e h k = ⊎_elim
    (λ t. ap (λ j. get_or (map kept (set l i y)) j []) t.1 ∙ set_here kept l i y [] lt ∙ e)
    (λ t. set_elsewhere kept l i y k [] t.1 ∙ h k)
    (eqb_tells k i)

pub none_taken_set : (old l : List (Option Inlet)) (i : ℕ) (y d : Option Inlet) → ring_in y ≡ ring_in (get_or l i d) → taken y ≡ taken (get_or l i d) → NoneIsTaken old l → NoneIsTaken old (set l i y)
none_taken_set old l i y d r t h = record { rings = map-set_same ring_in l i y d r ∙ h.rings; taken = map-set_same taken l i y d t ∙ h.taken }

-- One letter was taken at one place.
pub record IsTaken (old new : List (Option Inlet)) (from : ℕ) (letter : Letter) : Type 0 where
  pub rings : map ring_in new ≡ map ring_in old
  pub taken : (k : ℕ) → get_or (map taken new) k [] ≡ get_or (map taken old) k [] ++ only k from letter

-- It was the first one kept there.
abbrev pub WasKept : (old new : List (Option Inlet)) → (from : ℕ) → Letter → Type 0
WasKept old new from letter = (k : ℕ) → get_or (map kept old) k [] ≡ only k from letter ++ get_or (map kept new) k []

-- Either nothing was kept, or it was the first one kept from its poster.
abbrev pub IsFirst : (old new : List (Option Inlet)) → (from : ℕ) → Letter → Type 0
IsFirst old new from letter = WasKept old new from letter ⊎ (NoneIsKept old × NoneIsKept new)

pub come_here : (old l : List (Option Inlet)) (i : ℕ) (y d : Option Inlet) (letter : Letter) → i < length l → ring_in y ≡ ring_in (get_or l i d) → taken y ≡ taken (get_or l i d) ++ letter ∷ [] → NoneIsTaken old l → IsTaken old (set l i y) i letter
come_here old l i y d letter lt r t h = record {
  rings = map-set_same ring_in l i y d r ∙ h.rings;
  taken = λ k. grown_at taken l i y d letter lt t k ∙ ap (λ v. get_or v k [] ++ only k i letter) h.taken;
}

pub was_kept : (old l : List (Option Inlet)) (i : ℕ) (y d : Option Inlet) (letter : Letter) → i < length l → kept (get_or l i d) ≡ letter ∷ kept y → map kept l ≡ map kept old → WasKept old (set l i y) i letter
was_kept old l i y d letter lt e same k = ap (λ v. get_or v k []) (sym same) ∙ shrunk_at kept l i y d letter lt e k

pub none_before : (l : List (Option Inlet)) (i : ℕ) (d : Option Inlet) → i < length l → kept (get_or l i d) ≡ [] → ((k : ℕ) → k < i → get_or (map kept l) k [] ≡ [])
    → (k : ℕ) → k < i + 1 → get_or (map kept l) k [] ≡ []
none_before l i d lt e h k le = ⊎_elim
    (λ t. ap (λ j. get_or (map kept l) j []) t.1 ∙ read_here kept l i d [] lt ∙ e)
    (λ t. let n = t.1 in h k (omega arith))
    (eqb_tells k i)

pub none_at_all : (l : List (Option Inlet)) (i : ℕ) → length l ≤ i → ((k : ℕ) → k < i → get_or (map kept l) k [] ≡ []) → NoneIsKept l
none_at_all l i le h k = ⊎_elim (λ lt. h k lt) (λ ge. read_beyond kept l k [] (omega arith)) (below_or k i)

pub none_still : (old l : List (Option Inlet)) → map kept l ≡ map kept old → NoneIsKept old → NoneIsKept l
none_still old l same h k = ap (λ v. get_or v k []) same ∙ h k

-- What is put by is here.
pub kept_is_here : (end : Option Inlet) → here end ≡ [] → kept end ≡ []
kept_is_here None e = refl
kept_is_here (Some i) e = front_empty i.kept.items _ e

pub none_kept_here : (l : List (Option Inlet)) → NoneIsHere l → NoneIsKept l
none_kept_here [] h k = refl
none_kept_here (x ∷ l) h zero = kept_is_here x (h zero)
none_kept_here (x ∷ l) h (suc k) = none_kept_here l (λ j. h (suc j)) k

pub here_before : (l : List (Option Inlet)) (i : ℕ) (y : Option Inlet) → i < length l → here y ≡ []
    → ((k : ℕ) → k < i → get_or (map here l) k [] ≡ []) → (k : ℕ) → k < i + 1 → get_or (map here (set l i y)) k [] ≡ []
here_before l i y lt e h k le = ⊎_elim
    (λ t. ap (λ j. get_or (map here (set l i y)) j []) t.1 ∙ set_here here l i y [] lt ∙ e)
    (λ t. let n = t.1 in set_elsewhere here l i y k [] n ∙ h k (omega arith))
    (eqb_tells k i)

pub none_here_at_all : (l : List (Option Inlet)) (i : ℕ) → length l ≤ i → ((k : ℕ) → k < i → get_or (map here l) k [] ≡ []) → NoneIsHere l
none_here_at_all l i le h k = ⊎_elim (λ lt. h k lt) (λ ge. read_beyond here l k [] (omega arith)) (below_or k i)

pub none_at : (l : List (Option Inlet)) (i : ℕ) (y : Option Inlet) → i < length l → NoneIsHere (set l i y) → here y ≡ []
none_at l i y lt h = sym (set_here here l i y [] lt) ∙ h i

pub none_kept_before : (old new : List (Option Inlet)) → map kept new ≡ map kept old → NoneIsKept new → NoneIsKept old
none_kept_before old new same h k = ap (λ v. get_or v k []) (sym same) ∙ h k

-- None is kept, and one is seen at the place.
pub seen_next : (l : List (Option Inlet)) (i : ℕ) (y : Option Inlet) → i < length l → here y ≢ [] → NoneIsKept (set l i y) → IsNext (set l i y) i
seen_next l i y lt some none_kept = record {
  within = let e = length-set l i y in omega arith;
  here = λ none. some (sym (set_here here l i y [] lt) ∙ none);
  kept = inr none_kept;
}

none_kept_beside : (l : List (Option Inlet)) (i : ℕ) (d : Option Inlet) → IsNext l i → kept (get_or l i d) ≡ [] → NoneIsKept l
none_kept_beside l i d next e = ⊎_elim (λ some. absurd (some (read_here kept l i d [] next.within ∙ e))) (λ none. none) next.kept

-- The letter that is next was taken.
pub next_taken : (old l : List (Option Inlet)) (i : ℕ) (y d : Option Inlet) (letter : Letter) → IsNext l i → NoneIsTaken old l → map kept l ≡ map kept old
    → ring_in y ≡ ring_in (get_or l i d) → taken y ≡ taken (get_or l i d) ++ letter ∷ []
    → (kept (get_or l i d) ≡ letter ∷ kept y) ⊎ ((kept (get_or l i d) ≡ []) × (kept y ≡ []))
    → IsTaken old (set l i y) i letter × IsFirst old (set l i y) i letter
next_taken old l i y d letter next none same r t k = (
  come_here old l i y d letter next.within r t none,
  ⊎_elim
      (λ e. inl (was_kept old l i y d letter next.within e same))
      (λ e. let nk = none_kept_beside l i d next e.0 in inr (none_kept_before old l same nk, none_kept_set l i y next.within e.1 nk))
      k,
)
