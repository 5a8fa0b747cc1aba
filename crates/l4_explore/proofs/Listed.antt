-- Lists of what was found, and schedules with one entry more.
use Rattle.std.proofs.Common.{◌≡◌, ℕ, ◌<◌, Bool, true, false, List, [], ◌∷◌, ◌++◌, length, refl, sym, ap, subst, ◌∙◌, arith, append-nil, append_assoc, suc}
use Rattle.std.specs.Str.{bytes_eq}
use Rattle.std.proofs.Math.ListN.{length-append, get_or-append}
use Rattle.std.proofs.Math.Seq.{get_or-append_seam}
use Rattle.std.proofs.lemmas.Slice.Eq.{bytes_eq-Decides}
use Rattle.std.proofs.lemmas.List.Folds.{list_any_at}
use Rattle.l4_explore.specs.Orders.{IsNotAfter}
use Rattle.l4_explore.specs.Tries.{State}
use Rattle.l4_explore.specs.Search.{Seen, unseen, seen_at, has_code, IsFound}
use Rattle.l4_explore.proofs.Orders.{not_after_trans}

-- Induction from the end.
module _ (P : List ℕ → Type 0) (none : P []) (more : (xs : List ℕ) (x : ℕ) → P xs →
    P (xs ++ x ∷ [])) where
  from_end : (done rest : List ℕ) → P done → P (done ++ rest)
  from_end done [] h = subst P (sym (append-nil done)) h
  from_end done (x ∷ rest) h =
      subst P (append_assoc done (x ∷ []) rest) (from_end (done ++ x ∷ []) rest (more done x h))

  pub by_end : (xs : List ℕ) → P xs
  by_end xs = from_end [] xs none

-- With one more at the end, those before stay.
pub seen_at-old : (found : List Seen) (s : Seen) (i : ℕ) → i < length found →
    seen_at (found ++ s ∷ []) i ≡ seen_at found i
seen_at-old found s i h = get_or-append found (s ∷ []) unseen i h

pub seen_at-new : (found : List Seen) (s : Seen) → seen_at (found ++ s ∷ []) (length found) ≡ s
seen_at-new found s = get_or-append_seam found s [] unseen

pub found_in_more : (found : List Seen) (s : Seen) (state : State) (schedule : List ℕ) →
    IsFound found state schedule →
    IsFound (found ++ s ∷ []) state schedule
found_in_more found s state schedule f =
    let e = seen_at-old found s f.place f.inside in
    record {
      place = f.place;
      inside = omega (arith, length-append found (s ∷ []), f.inside);
      is = ap (λ (t : Seen). t.state) e ∙ f.is;
      early = subst (λ (t : Seen). IsNotAfter t.schedule schedule) (sym e) f.early;
    }

pub found_later : (found : List Seen) (state : State) (s t : List ℕ) → IsNotAfter s t →
    IsFound found state s → IsFound found state t
found_later found state s t l f =
    record {
      place = f.place;
      inside = f.inside;
      is = f.is;
      early =
          not_after_trans (seen_at found f.place).schedule s t f.early l;
    }

-- A code that is among them stands at some place, and one that is not at none.
pub record StandsAt (found : List Seen) (code : List ℕ) : Type 0 where
  pub place : ℕ
  pub inside : place < length found
  pub is : (seen_at found place).state.code ≡ code

pub place_of_code : (found : List Seen) (code : List ℕ) → has_code found code ≡ true →
    StandsAt found code
place_of_code [] code h = cc
place_of_code (s ∷ found) code h = by (bytes_eq code s.state.code) refl (place_of_code found code)
  where
    by : (b : Bool) → bytes_eq code s.state.code ≡ b →
        (has_code found code ≡ true → StandsAt found code) → StandsAt (s ∷ found) code
    by true e rest = record {
      place = 0;
      inside = omega arith;
      is =
          sym ((bytes_eq-Decides code s.state.code).0 e);
    }
    by false e rest =
        let r = rest (rw e at h) in
        record { place = suc r.place; inside = omega (arith, r.inside); is = r.is }

pub no_place : (found : List Seen) (code : List ℕ) → has_code found code ≡ false →
    (i : ℕ) → i < length found → (seen_at found i).state.code ≡ code → ⊥
no_place found code h i l e =
    let test : Seen → Bool = λ s. bytes_eq code s.state.code in
    let there : has_code found code ≡ true =
    list_any_at test found i unseen l
    ((bytes_eq-Decides code (seen_at found i).state.code).1 (sym e)) in
    cc
