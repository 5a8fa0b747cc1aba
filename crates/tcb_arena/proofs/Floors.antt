-- No deadline is before a floor: of the plain list, and of what stands in the rings before and after each change.
use Rattle.std.specs.Prelude.{slice_get, Some, None, nat_le}
use Rattle.std.proofs.Common.{◌≡◌, ℕ, ◌<◌, ◌≤◌, Bool, true, false, cond, ◌&&◌, ◌⊎◌, inl, inr, List, [], ◌∷◌, ◌++◌, length, map, get_or, set, refl, sym, ◌∙◌, ap, ⊎_elim, arith, suc, get_or-set_same, get_or-set_other}
use Rattle.std.proofs.lemmas.Bool.{and_parts, leb-true, le-leb, cases_eq, false≢true}
use Rattle.l4_core_model.specs.Plain.{put_entry, due_block}
use Rattle.tcb_arena.specs.Inner.Rings.{is_in_any, without}
use Rattle.tcb_arena.specs.Inner.Due.{are_from, put_all, put_rings, entries_in, armed_in, IsFloor}
use Rattle.tcb_arena.proofs.Lists.{is_in-at, get_or-without}
use Rattle.tcb_arena.proofs.Entries.{E, is_in-get, get-push, get-without, entries-at, entry-from}

both : (a b : Bool) → a ≡ true → b ≡ true → (a && b) ≡ true
both a b e f = rw (e, f)

-- The plain list

from-put : (low : ℕ) (e : E) (es : List E) → low ≤ e.0 → are_from low es ≡ true → are_from low (put_entry e es) ≡ true
from-put low e [] le h = both _ _ (le-leb low e.0 le) refl
from-put low e (x ∷ xs) le h = let p = and_parts (nat_le low x.0) (are_from low xs) h in by (nat_le x.0 e.0) p.0 p.1 (from-put low e xs le p.1)
  where
    by : (b : Bool) → nat_le low x.0 ≡ true → are_from low xs ≡ true → are_from low (put_entry e xs) ≡ true → are_from low (cond b (x ∷ put_entry e xs) (e ∷ x ∷ xs)) ≡ true
    by true h g r = both _ _ h r
    by false h g r = both _ _ (le-leb low e.0 le) (both _ _ h g)

from-all : (low : ℕ) (es acc : List E) → ((k : ℕ) (x : E) → slice_get es k ≡ Some x → low ≤ x.0) → are_from low acc ≡ true → are_from low (put_all acc es) ≡ true
from-all low [] acc all h = h
from-all low (e ∷ es) acc all h = from-all low es (put_entry e acc) (λ k x t. all (suc k) x t) (from-put low e acc (all 0 e refl) h)

from-rings : (low : ℕ) (ls : List (List E)) (acc : List E) → ((h k : ℕ) (x : E) → slice_get (get_or ls h []) k ≡ Some x → low ≤ x.0) → are_from low acc ≡ true → are_from low (put_rings acc ls) ≡ true
from-rings low [] acc all h = h
from-rings low (l ∷ ls) acc all h = from-rings low ls (put_all acc l) (λ i k x t. all (suc i) k x t) (from-all low l acc (λ k x t. all 0 k x t) h)

pub floor-armed_in : (floor : ℕ) (ds : List ℕ) (ls : List (List ℕ)) → IsFloor floor ds ls → are_from floor (armed_in ds ls) ≡ true
floor-armed_in floor ds ls f =
    from-rings floor (entries_in ds ls) []
    (λ h k x t.
    let from : (slice_get (get_or ls h []) k ≡ Some x.1) × (get_or ds x.1 0 ≡ x.0) = entry-from ds (get_or ls h []) k x (ap (λ (ys : List E). slice_get ys k) (sym (entries-at ds ls h)) ∙ t) in
    omega (arith, f.below h k x.1 from.0, from.1))
    refl

pub none-due : (floor now : ℕ) (es : List E) → are_from floor es ≡ true → now < floor → due_block now es ≡ None
none-due floor now [] h lt = refl
none-due floor now (e ∷ es) h lt =
    let p = and_parts (nat_le floor e.0) (are_from floor es) h in
    let at : floor ≤ e.0 = leb-true floor e.0 p.0 in
    by (nat_le e.0 now) refl
  where
    by : (b : Bool) → nat_le e.0 now ≡ b → cond b (Some e.1) None ≡ None
    by true c = let p = and_parts (nat_le floor e.0) (are_from floor es) h in let at : floor ≤ e.0 = leb-true floor e.0 p.0 in let le : e.0 ≤ now = leb-true e.0 now c in absurd (omega arith)
    by false c = refl

-- A block armed at the end of a ring

pub get-pushed : (ls : List (List ℕ)) (r b h k x : ℕ) → r < length ls → slice_get (get_or (set ls r (get_or ls r [] ++ b ∷ [])) h []) k ≡ Some x
    → ((h ≡ r) × (b ≡ x)) ⊎ (slice_get (get_or ls h []) k ≡ Some x)
get-pushed ls r b h k x lr t =
    let new : List ℕ = get_or ls r [] ++ b ∷ [] in
    ⊎_elim
    (λ (e : h ≡ r).
    ⊎_elim
    (λ (q : b ≡ x). inl (e, q))
    (λ (q : slice_get (get_or ls r []) k ≡ Some x). inr (ap (λ z. slice_get (get_or ls z []) k) e ∙ q))
    (get-push (get_or ls r []) b k x (sym (ap (λ ys. slice_get ys k) (ap (λ z. get_or (set ls r new) z []) e ∙ get_or-set_same ls r new [] lr)) ∙ t)))
    (λ (ne : h ≡ r → ⊥). inr (sym (ap (λ ys. slice_get ys k) (get_or-set_other ls r h new [] ne)) ∙ t))
    (cases_eq h r)

-- The deadlines of the others stay.
pub deadline-kept : (ds : List ℕ) (b d : ℕ) (ls : List (List ℕ)) (h k x : ℕ) → is_in_any b ls ≡ false → slice_get (get_or ls h []) k ≡ Some x → get_or (set ds b d) x 0 ≡ get_or ds x 0
deadline-kept ds b d ls h k x free t =
    get_or-set_other ds b x d 0 (λ (e : x ≡ b). absurd (false≢true (sym (is_in-at b h ls free) ∙ is_in-get b (get_or ls h []) k (t ∙ ap Some e))))

pub floor-armed : (floor low : ℕ) (ds : List ℕ) (ls : List (List ℕ)) (b d r : ℕ) → b < length ds → r < length ls → is_in_any b ls ≡ false → low ≤ floor → low ≤ d → IsFloor floor ds ls
    → IsFloor low (set ds b d) (set ls r (get_or ls r [] ++ b ∷ []))
floor-armed floor low ds ls b d r lb lr free small early f = record {
  below = λ h k x t.
      ⊎_elim
      (λ (p : (h ≡ r) × (b ≡ x)). let own : get_or (set ds b d) x 0 ≡ d = ap (λ z. get_or (set ds b d) z 0) (sym p.1) ∙ get_or-set_same ds b d 0 lb in omega (arith, own))
      (λ (q : slice_get (get_or ls h []) k ≡ Some x). omega (arith, deadline-kept ds b d ls h k x free q, f.below h k x q))
      (get-pushed ls r b h k x lr t);
}

-- A block disarmed

pub get-left : (ls : List (List ℕ)) (b h k x : ℕ) → slice_get (get_or (map (without b) ls) h []) k ≡ Some x → (j : ℕ) × (slice_get (get_or ls h []) j ≡ Some x)
get-left ls b h k x t = get-without b (get_or ls h []) k x (ap (λ ys. slice_get ys k) (sym (get_or-without b h ls)) ∙ t)

pub floor-disarmed : (floor : ℕ) (ds : List ℕ) (ls : List (List ℕ)) (b : ℕ) → IsFloor floor ds ls → IsFloor floor ds (map (without b) ls)
floor-disarmed floor ds ls b f = record {
  below = λ h k x t. let from : (j : ℕ) × (slice_get (get_or ls h []) j ≡ Some x) = get-left ls b h k x t in f.below h from.0 x from.1;
}
