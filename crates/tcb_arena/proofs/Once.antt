-- Each block is armed at most once, since it stands in one place of one ring.
use Rattle.std.specs.Prelude.{slice_get, Some, drop}
use Rattle.std.proofs.Common.{◌≡◌, ℕ, ◌+◌, ◌<◌, ◌≤◌, true, false, cond, eqb, ◌||◌, List, [], ◌∷◌, map, get_or, refl, sym, ◌∙◌, ap, subst, ⊎_elim, arith, zero, suc}
use Rattle.std.proofs.lemmas.Bool.{cases_eq, ne_eqb, eq-eqb, cases_lt, or_left, or_right, or_cases, false≢true, eqb-true, cases_Bool}
use Rattle.std.specs.List.{list_any}
use Rattle.l4_core_model.specs.Plain.{put_entry, without_block}
use Rattle.tcb_arena.specs.Inner.Blocks.{has_entry}
use Rattle.l4_model.specs.World.{is_in}
use Rattle.tcb_arena.specs.Inner.Rings.{Lists, AreSound, is_in_any}
use Rattle.tcb_arena.specs.Inner.Due.{Due, armed_of, AreOnce, ArePlaced, times_armed, shown_due, put_all, put_rings, entry}
use Rattle.tcb_arena.proofs.Entries.{E, put_le, put_lt, is_in-get, any-put_rings, without_here, without_there}

times-put : (b : ℕ) (e : E) (xs : List E) → times_armed b (put_entry e xs) ≡ times_armed b (e ∷ xs)
times-put b e [] = refl
times-put b e (x ∷ xs) =
    ⊎_elim
    (λ (p : e.0 < x.0). ap (times_armed b) (put_lt e x xs p))
    (λ (p : x.0 ≤ e.0). ap (times_armed b) (put_le e x xs p)
    ∙ (let ih : times_armed b (put_entry e xs) ≡ cond (eqb b e.1) 1 0 + times_armed b xs = times-put b e xs in
    let goal : cond (eqb b x.1) 1 0 + times_armed b (put_entry e xs) ≡ cond (eqb b e.1) 1 0 + (cond (eqb b x.1) 1 0 + times_armed b xs) = omega (arith, ih) in goal))
    (cases_lt e.0 x.0)

times-put_all : (b : ℕ) (es acc : List E) → times_armed b (put_all acc es) ≡ times_armed b acc + times_armed b es
times-put_all b [] acc = let goal : times_armed b acc ≡ times_armed b acc + 0 = omega arith in goal
times-put_all b (e ∷ es) acc =
    let ih : times_armed b (put_all (put_entry e acc) es) ≡ times_armed b (put_entry e acc) + times_armed b es = times-put_all b es (put_entry e acc) in
    let one : times_armed b (put_entry e acc) ≡ cond (eqb b e.1) 1 0 + times_armed b acc = times-put b e acc in
    let goal : times_armed b (put_all (put_entry e acc) es) ≡ times_armed b acc + (cond (eqb b e.1) 1 0 + times_armed b es) = omega (arith, ih, one) in goal

-- How often a name stands in a list, and in several.
abbrev pub times_in : ℕ → List ℕ → ℕ
times_in b [] = 0
times_in b (y ∷ ys) = cond (eqb b y) 1 0 + times_in b ys

abbrev pub times_in_all : ℕ → List (List ℕ) → ℕ
times_in_all b [] = 0
times_in_all b (l ∷ ls) = times_in b l + times_in_all b ls

times-entries : (ds : List ℕ) (b : ℕ) (ys : List ℕ) → times_armed b (map (entry ds) ys) ≡ times_in b ys
times-entries ds b [] = refl
times-entries ds b (y ∷ ys) = ap (λ n. cond (eqb b y) 1 0 + n) (times-entries ds b ys)

times-put_rings : (ds : List ℕ) (b : ℕ) (ls : List (List ℕ)) (acc : List E) → times_armed b (put_rings acc (map (map (entry ds)) ls)) ≡ times_armed b acc + times_in_all b ls
times-put_rings ds b [] acc = let goal : times_armed b acc ≡ times_armed b acc + 0 = omega arith in goal
times-put_rings ds b (l ∷ ls) acc =
    let ih : times_armed b (put_rings (put_all acc (map (entry ds) l)) (map (map (entry ds)) ls)) ≡ times_armed b (put_all acc (map (entry ds) l)) + times_in_all b ls = times-put_rings ds b ls (put_all acc (map (entry ds) l)) in
    let one : times_armed b (put_all acc (map (entry ds) l)) ≡ times_armed b acc + times_in b l = times-put_all b (map (entry ds) l) acc ∙ ap (λ n. times_armed b acc + n) (times-entries ds b l) in
    let goal : times_armed b (put_rings (put_all acc (map (entry ds) l)) (map (map (entry ds)) ls)) ≡ times_armed b acc + (times_in b l + times_in_all b ls) = omega (arith, ih, one) in goal

none_in : (b : ℕ) (ys : List ℕ) → ((j : ℕ) → slice_get ys j ≡ Some b → ⊥) → times_in b ys ≡ 0
none_in b [] h = refl
none_in b (y ∷ ys) h =
    let ne : eqb b y ≡ false = ne_eqb b y (λ e. h 0 (ap Some (sym e))) in
    let ih : times_in b ys ≡ 0 = none_in b ys (λ j e. h (suc j) e) in
    ap (λ t. cond t 1 0 + times_in b ys) ne ∙ (let goal : 0 + times_in b ys ≡ 0 = omega (arith, ih) in goal)

none_in_all : (b : ℕ) (ls : List (List ℕ)) → ((h j : ℕ) → slice_get (get_or ls h []) j ≡ Some b → ⊥) → times_in_all b ls ≡ 0
none_in_all b [] h = refl
none_in_all b (l ∷ ls) h =
    let one : times_in b l ≡ 0 = none_in b l (λ j e. h 0 j e) in
    let ih : times_in_all b ls ≡ 0 = none_in_all b ls (λ i j e. h (suc i) j e) in
    let goal : times_in b l + times_in_all b ls ≡ 0 = omega (arith, one, ih) in goal

once_in : (b : ℕ) (ys : List ℕ) → ((k j : ℕ) → slice_get ys k ≡ Some b → slice_get ys j ≡ Some b → k ≡ j) → times_in b ys ≤ 1
once_in b [] h = let goal : 0 ≤ 1 = omega arith in goal
once_in b (y ∷ ys) h =
    let P : ℕ → Type 0 = λ (n : ℕ). n ≤ 1 in
    ⊎_elim
    (λ (e : b ≡ y).
    let rest : times_in b ys ≡ 0 = none_in b ys (λ j t. let w : 0 ≡ suc j = h 0 (suc j) (ap Some (sym e)) t in absurd (omega arith)) in
    subst P (sym (ap (λ t. cond t 1 0 + times_in b ys) (eq-eqb b y e))) (let goal : 1 + times_in b ys ≤ 1 = omega (arith, rest) in goal))
    (λ (ne : b ≡ y → ⊥).
    let ih : times_in b ys ≤ 1 = once_in b ys (λ k j p q. let w : suc k ≡ suc j = h (suc k) (suc j) p q in omega arith) in
    subst P (sym (ap (λ t. cond t 1 0 + times_in b ys) (ne_eqb b y ne))) (let goal : 0 + times_in b ys ≤ 1 = omega (arith, ih) in goal))
    (cases_eq b y)

pub get-in : (b : ℕ) (ys : List ℕ) → is_in b ys ≡ true → (k : ℕ) × (slice_get ys k ≡ Some b)
get-in b [] h = absurd (cc)
get-in b (y ∷ ys) h =
    ⊎_elim
    (λ (t : eqb b y ≡ true). (0, ap Some (sym (eqb-true b y t))))
    (λ (t : is_in b ys ≡ true). let p : (k : ℕ) × (slice_get ys k ≡ Some b) = get-in b ys t in (suc p.0, p.1))
    (or_cases (eqb b y) (is_in b ys) h)

pub get-in-any : (b : ℕ) (ls : List (List ℕ)) → is_in_any b ls ≡ true → (h : ℕ) × (k : ℕ) × (slice_get (get_or ls h []) k ≡ Some b)
get-in-any b [] h = absurd (cc)
get-in-any b (l ∷ ls) h =
    ⊎_elim
    (λ (t : is_in b l ≡ true). let p : (k : ℕ) × (slice_get l k ≡ Some b) = get-in b l t in (0, p.0, p.1))
    (λ (t : is_in_any b ls ≡ true). let p : (h : ℕ) × (k : ℕ) × (slice_get (get_or ls h []) k ≡ Some b) = get-in-any b ls t in (suc p.0, p.1, p.2))
    (or_cases (is_in b l) (is_in_any b ls) h)

once_in_all : (b : ℕ) (ls : List (List ℕ)) → ((h i k j : ℕ) → slice_get (get_or ls h []) k ≡ Some b → slice_get (get_or ls i []) j ≡ Some b → (h ≡ i) × (k ≡ j)) → times_in_all b ls ≤ 1
once_in_all b [] h = let goal : 0 ≤ 1 = omega arith in goal
once_in_all b (l ∷ ls) h =
    let one : times_in b l ≤ 1 = once_in b l (λ k j p q. (h 0 0 k j p q).1) in
    ⊎_elim
    (λ (t : is_in b l ≡ true).
    let p : (k : ℕ) × (slice_get l k ≡ Some b) = get-in b l t in
    let rest : times_in_all b ls ≡ 0 = none_in_all b ls (λ i j e. let w : 0 ≡ suc i = (h 0 (suc i) p.0 j p.1 e).0 in absurd (omega arith)) in
    let goal : times_in b l + times_in_all b ls ≤ 1 = omega (arith, one, rest) in goal)
    (λ (t : is_in b l ≡ false).
    let here : times_in b l ≡ 0 = none_in b l (λ j e. absurd (false≢true (sym t ∙ is_in-get b l j e))) in
    let ih : times_in_all b ls ≤ 1 = once_in_all b ls (λ i i' k j p q. let w : (suc i ≡ suc i') × (k ≡ j) = h (suc i) (suc i') k j p q in (omega (arith, w.0), w.1)) in
    let goal : times_in b l + times_in_all b ls ≤ 1 = omega (arith, here, ih) in goal)
    (cases_Bool (is_in b l))

pub any-get : (xs : List E) (k : ℕ) (e : E) → slice_get xs k ≡ Some e → list_any (λ (x : E). eqb e.1 x.1) xs ≡ true
any-get [] k e h = absurd (cc)
any-get (x ∷ xs) zero e h = let p : x ≡ e = cc in or_left (eqb e.1 x.1) (list_any (λ (y : E). eqb e.1 y.1) xs) (eq-eqb e.1 x.1 (ap (λ (z : E). z.1) (sym p)))
any-get (x ∷ xs) (suc k) e h = or_right (eqb e.1 x.1) (list_any (λ (y : E). eqb e.1 y.1) xs) (any-get xs k e h)

pub once-shown : (n : ℕ) (ds : List ℕ) (s : Lists) (v : Due) → ArePlaced n ds s → AreSound s → shown_due ds s ≡ v → AreOnce v
once-shown n ds s v w sound e = record {
  once = λ b.
      let all : times_armed b (armed_of v) ≡ 0 + times_in_all b s.lists = ap (λ (x : Due). times_armed b (armed_of x)) (sym e) ∙ times-put_rings ds b s.lists [] in
      let one : times_in_all b s.lists ≤ 1 = once_in_all b s.lists (λ h i k j p q. sound.apart h i k j b p q) in
      omega (arith, all, one);
}

times-get : (xs : List E) (k : ℕ) (e : E) → slice_get xs k ≡ Some e → 1 ≤ times_armed e.1 xs
times-get [] k e h = absurd (cc)
times-get (x ∷ xs) zero e h =
    let p : x ≡ e = cc in
    let i : ℕ = 1 in let o : ℕ = 0 in let one : cond (eqb e.1 x.1) i o ≡ i = ap (λ t. cond t i o) (eq-eqb e.1 x.1 (ap (λ (z : E). z.1) (sym p))) in
    let goal : 1 ≤ cond (eqb e.1 x.1) 1 0 + times_armed e.1 xs = omega (arith, one) in goal
times-get (x ∷ xs) (suc k) e h =
    let rest : 1 ≤ times_armed e.1 xs = times-get xs k e h in
    let goal : 1 ≤ cond (eqb e.1 x.1) 1 0 + times_armed e.1 xs = omega (arith, rest) in goal

-- A block that is armed once, and not before the others, is another one than the first.
pub entry-apart : (x : E) (xs : List E) (k : ℕ) (e : E) → times_armed e.1 (x ∷ xs) ≤ 1 → slice_get xs k ≡ Some e → (e.1 ≡ x.1 → ⊥) × (times_armed e.1 xs ≤ 1)
entry-apart x xs k e once h =
    let parts : cond (eqb e.1 x.1) 1 0 + times_armed e.1 xs ≤ 1 = once in
    let one : 1 ≤ times_armed e.1 xs = times-get xs k e h in (
      λ (same : e.1 ≡ x.1). let i : ℕ = 1 in let o : ℕ = 0 in let first : cond (eqb e.1 x.1) i o ≡ i = ap (λ t. cond t i o) (eq-eqb e.1 x.1 same) in absurd (omega (arith, parts, one, first)),
      omega (arith, parts),
    )

-- Each block stands in a ring once.
pub times-ring : (ds : List ℕ) (s : Lists) (h b : ℕ) → AreSound s → times_armed b (map (entry ds) (get_or s.lists h [])) ≤ 1
times-ring ds s h b sound =
    let all : times_armed b (map (entry ds) (get_or s.lists h [])) ≡ times_in b (get_or s.lists h []) = times-entries ds b (get_or s.lists h []) in
    let one : times_in b (get_or s.lists h []) ≤ 1 = once_in b (get_or s.lists h []) (λ k j p q. (sound.apart h h k j b p q).1) in
    omega (arith, all, one)

pub within-shown : (n : ℕ) (ds : List ℕ) (s : Lists) (v : Due) → ArePlaced n ds s → shown_due ds s ≡ v → (k : ℕ) (x : E) → slice_get (armed_of v) k ≡ Some x → x.1 < v.blocks
within-shown n ds s v w e k x h =
    let any : is_in_any x.1 s.lists ≡ true = sym (any-put_rings ds x.1 s.lists []) ∙ ap (λ (y : Due). list_any (λ (z : E). eqb x.1 z.1) (armed_of y)) e ∙ any-get (armed_of v) k x h in
    let p : (h : ℕ) × (k : ℕ) × (slice_get (get_or s.lists h []) k ≡ Some x.1) = get-in-any x.1 s.lists any in
    omega (arith, w.within p.0 p.1 x.1 p.2, ap (λ (y : Due). y.blocks) e)

-- An entry taken out

pub none-left : (b : ℕ) (xs : List E) → has_entry b (without_block b xs) ≡ false
none-left b [] = refl
none-left b (x ∷ xs) =
    ⊎_elim
    (λ (e : b ≡ x.1). ap (has_entry b) (without_here b x xs e) ∙ none-left b xs)
    (λ (ne : b ≡ x.1 → ⊥). ap (has_entry b) (without_there b x xs ne) ∙ ap (λ t. t || has_entry b (without_block b xs)) (ne_eqb b x.1 ne) ∙ none-left b xs)
    (cases_eq b x.1)

without_none : (b : ℕ) (xs : List E) → times_armed b xs ≡ 0 → without_block b xs ≡ xs
without_none b [] h = refl
without_none b (x ∷ xs) h =
    let parts : cond (eqb b x.1) 1 0 + times_armed b xs ≡ 0 = h in
    ⊎_elim
    (λ (e : b ≡ x.1). let i : ℕ = 1 in let o : ℕ = 0 in let one : cond (eqb b x.1) i o ≡ i = ap (λ t. cond t i o) (eq-eqb b x.1 e) in absurd (omega (arith, parts, one)))
    (λ (ne : b ≡ x.1 → ⊥). without_there b x xs ne ∙ ap (λ (r : List E). x ∷ r) (without_none b xs (omega (arith, parts))))
    (cases_eq b x.1)

-- Where its block is armed once, its entry goes alone.
pub first-out : (xs : List E) (e : E) → slice_get xs 0 ≡ Some e → times_armed e.1 xs ≤ 1 → without_block e.1 xs ≡ drop 1 xs
first-out [] e h t = refl
first-out (x ∷ xs) e h t =
    let p : x ≡ e = cc in
    let same : e.1 ≡ x.1 = ap (λ (z : E). z.1) (sym p) in
    let parts : cond (eqb e.1 x.1) 1 0 + times_armed e.1 xs ≤ 1 = t in
    let i : ℕ = 1 in let o : ℕ = 0 in let one : cond (eqb e.1 x.1) i o ≡ i = ap (λ u. cond u i o) (eq-eqb e.1 x.1 same) in
    without_here e.1 x xs same ∙ without_none e.1 xs (omega (arith, parts, one))
