-- What is left to a walk stands from its place on: of the names of a list, and of the armed blocks.
use Rattle.std.specs.Prelude.{slice_get, Some, None, Option, drop}
use Rattle.std.proofs.Common.{◌≡◌, ◌≢◌, ℕ, ◌+◌, ◌<◌, ◌≤◌, true, false, eqb, length, List, [], ◌∷◌, map, get_or, refl, sym, ◌∙◌, ap, zero, suc, add-one, arith, ⊎_elim}
use Rattle.std.proofs.lemmas.Bool.{cond-false, cond-true, ne_eqb, eq-eqb, eqb-true, or_left, or_right, or_cases}
use Rattle.std.proofs.lemmas.Option.{slice_get-get_or}
use Rattle.l4_core_model.specs.Plain.{Waiting, Plain, list_of}
use Rattle.tcb_arena.specs.declared.Sender.{Sender}
use Rattle.tcb_arena.specs.Inner.Due.{Due, armed_of, times_armed, AreOnce}
use Rattle.tcb_arena.specs.Inner.Left.{entries_from, entries_left, names_from, names_from_any, names_left}
use Rattle.l4_model.specs.World.{is_in}
use Rattle.tcb_arena.specs.Inner.Rings.{Lists, list_at, AreSound}
use Rattle.tcb_arena.specs.Inner.Shown.{waiting_at, shown_lists}
use Rattle.tcb_arena.proofs.Finding.{drop_at, drop_past}
use Rattle.tcb_arena.proofs.Entries.{E}
use Rattle.tcb_arena.proofs.Once.{entry-apart}
use Rattle.tcb_arena.proofs.Showing.{list-shown}

is_in-read : (xs : List ℕ) (k x : ℕ) → slice_get xs k ≡ Some x → is_in x xs ≡ true
is_in-read [] k x e = absurd (cc)
is_in-read (y ∷ ys) zero x e = let same : x ≡ y = cc in or_left (eqb x y) (is_in x ys) (eq-eqb x y same)
is_in-read (y ∷ ys) (suc k) x e = or_right (eqb x y) (is_in x ys) (is_in-read ys k x e)

place_of : (xs : List ℕ) (x : ℕ) → is_in x xs ≡ true → (k : ℕ) × (slice_get xs k ≡ Some x)
place_of [] x e = absurd (cc)
place_of (y ∷ ys) x e =
    ⊎_elim
    (λ (t : eqb x y ≡ true). (0, ap Some (sym (eqb-true x y t))))
    (λ (t : is_in x ys ≡ true). let p : (k : ℕ) × (slice_get ys k ≡ Some x) = place_of ys x t in (suc p.0, p.1))
    (or_cases (eqb x y) (is_in x ys) e)

names_from-place : (xs : List ℕ) (k x : ℕ) → ((j : ℕ) → slice_get xs j ≡ Some x → k ≡ j) → slice_get xs k ≡ Some x → names_from x xs ≡ drop k xs
names_from-place [] k x one e = absurd (cc)
names_from-place (y ∷ ys) zero x one e = let same : x ≡ y = cc in rw (eq-eqb x y same) refl
names_from-place (y ∷ ys) (suc k) x one e =
    let other : x ≢ y = λ (same : x ≡ y). absurd (omega (arith, one 0 (ap Some (sym same)))) in
    rw (ne_eqb x y other) (names_from-place ys k x (λ j h. omega (arith, one (suc j) h)) e)

-- Each name stands at one place alone.
abbrev AreApart : List (List ℕ) → Type 0
AreApart ls = (head other k j x : ℕ) → slice_get (get_or ls head []) k ≡ Some x → slice_get (get_or ls other []) j ≡ Some x → (head ≡ other) × (k ≡ j)

apart-behind : (l : List ℕ) (ls : List (List ℕ)) → AreApart (l ∷ ls) → AreApart ls
apart-behind l ls apart h i k j x p q =
    let both : (suc h ≡ suc i) × (k ≡ j) = apart (suc h) (suc i) k j x p q in (omega (arith, both.0), both.1)

absent : (l : List ℕ) (ls : List (List ℕ)) (h k x : ℕ) → AreApart (l ∷ ls) → slice_get (get_or ls h []) k ≡ Some x → is_in x l ≡ false
absent l ls h k x apart e =
    elim (is_in x l) as (λ b. is_in x l ≡ b → b ≡ false) [
      | true ↦ λ t. let p : (j : ℕ) × (slice_get l j ≡ Some x) = place_of l x t in absurd (omega (arith, (apart 0 (suc h) p.0 k x p.1 e).0))
      | false ↦ λ t. refl
    ] refl

names_from_any-place : (ls : List (List ℕ)) (h k x : ℕ) → AreApart ls → slice_get (get_or ls h []) k ≡ Some x → names_from_any x ls ≡ drop k (get_or ls h [])
names_from_any-place [] h k x apart e = absurd (cc)
names_from_any-place (l ∷ ls) zero k x apart e =
    rw (is_in-read l k x e) (names_from-place l k x (λ j t. (apart 0 0 k j x e t).1) e)
names_from_any-place (l ∷ ls) (suc h) k x apart e =
    rw (absent l ls h k x apart e) (names_from_any-place ls h k x (apart-behind l ls apart) e)

pub left-place : (s : Lists) (next : Option ℕ) (h k : ℕ) → AreSound s → next ≡ slice_get (list_at s h) k → names_left s next ≡ drop k (list_at s h)
left-place s None h k sound e = sym (drop_past (list_at s h) k (sym e))
left-place s (Some x) h k sound e = names_from_any-place s.lists h k x sound.apart (sym e)

-- A step

pub left-step : (s : Lists) (next next' : Option ℕ) (h k x : ℕ) → AreSound s → next ≡ slice_get (list_at s h) k → next ≡ Some x
    → next' ≡ slice_get (list_at s h) (k + 1) → names_left s next ≡ x ∷ names_left s next'
left-step s next next' h k x sound e is e' =
    left-place s next h k sound e
    ∙ drop_at (list_at s h) k x (sym e ∙ is)
    ∙ ap (λ (ys : List ℕ). x ∷ ys) (ap (λ j. drop j (list_at s h)) (sym (add-one k)) ∙ sym (left-place s next' h (k + 1) sound e'))

-- The blocks of the sends that are shown

blocks-shown : (f : List Sender) (xs : List ℕ) → map (λ (w : Waiting). w.block) (map (waiting_at f) xs) ≡ xs
blocks-shown f [] = refl
blocks-shown f (x ∷ xs) = ap (λ (ys : List ℕ). x ∷ ys) (blocks-shown f xs)

pub blocks-of_list : (waiting : Lists) (f : List Sender) (ready : Lists) (due : Due) (s : Plain) (h : ℕ) → shown_lists waiting f ready due ≡ s
    → list_at waiting h ≡ map (λ (w : Waiting). w.block) (list_of s h)
blocks-of_list waiting f ready due s h v =
    sym (ap (map (λ (w : Waiting). w.block)) (sym (ap (λ (a : Plain). list_of a h) v) ∙ list-shown f waiting.lists h) ∙ blocks-shown f (list_at waiting h))

-- The armed blocks

entries_from-place : (es : List E) (k : ℕ) (e : E) → times_armed e.1 es ≤ 1 → slice_get es k ≡ Some e → entries_from e.1 es ≡ drop k es
entries_from-place [] k e once h = absurd (cc)
entries_from-place (x ∷ xs) zero e once h =
    let same : x ≡ e = cc in cond-true (eqb e.1 x.1) (x ∷ xs) (entries_from e.1 xs) (eq-eqb e.1 x.1 (ap (λ (z : E). z.1) (sym same)))
entries_from-place (x ∷ xs) (suc k) e once h =
    let apart : (e.1 ≢ x.1) × (times_armed e.1 xs ≤ 1) = entry-apart x xs k e once h in
    cond-false (eqb e.1 x.1) (x ∷ xs) (entries_from e.1 xs) (ne_eqb e.1 x.1 apart.0) ∙ entries_from-place xs k e apart.1 h

entries-at : (es : List E) (k : ℕ) (e : E) → slice_get es k ≡ Some e → drop k es ≡ e ∷ drop (suc k) es
entries-at [] k e h = absurd (cc)
entries-at (x ∷ xs) zero e h = let same : x ≡ e = cc in ap (λ (z : E). z ∷ xs) same
entries-at (x ∷ xs) (suc k) e h = entries-at xs k e h

entries-past : (es : List E) (k : ℕ) → slice_get es k ≡ None → drop k es ≡ []
entries-past [] zero h = refl
entries-past [] (suc k) h = refl
entries-past (x ∷ xs) zero h = absurd (cc)
entries-past (x ∷ xs) (suc k) h = entries-past xs k h

pub left-armed : (v : Due) (next : Option E) (k : ℕ) → AreOnce v → next ≡ slice_get (armed_of v) k → entries_left (armed_of v) next ≡ drop k (armed_of v)
left-armed v None k once at = sym (entries-past (armed_of v) k (sym at))
left-armed v (Some e) k once at = entries_from-place (armed_of v) k e (once.once e.1) (sym at)

pub left-armed_step : (v : Due) (next next' : Option E) (k : ℕ) (e : E) → AreOnce v → next ≡ slice_get (armed_of v) k → next ≡ Some e → next' ≡ slice_get (armed_of v) (k + 1)
    → entries_left (armed_of v) next ≡ e ∷ entries_left (armed_of v) next'
left-armed_step v next next' k e once at is at' =
    left-armed v next k once at ∙ entries-at (armed_of v) k e (sym at ∙ is)
    ∙ ap (λ (r : List E). e ∷ r) (ap (λ j. drop j (armed_of v)) (sym (add-one k)) ∙ sym (left-armed v next' (k + 1) once at'))

-- Each name of a list is below their count.
pub below-names : (s : Lists) (h : ℕ) → AreSound s → (k d : ℕ) → k < length (list_at s h) → get_or (list_at s h) k d < s.names
below-names s h sound k d lt = sound.below h k (get_or (list_at s h) k d) (slice_get-get_or (list_at s h) k d lt)
