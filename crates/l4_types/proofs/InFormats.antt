-- In each format a word and the id that it stands for give each other back.
use Rattle.std.proofs.Common.{◌≡◌, ℕ, ◌<◌, ◌+◌, ◌*◌, ◌/◌, ◌%◌, ◌^◌, ◌-◌, Bool, true, false, cond, ◌&&◌, not, Some, None, refl, ap, sym, ◌∙◌, arith, inl, inr}
use Rattle.std.specs.Prelude.{◌==◌, nat_lt}
use Rattle.std.proofs.lemmas.Bool.{ltb-true, lt-ltb, eqb-true, eqb-false, ne_eqb, and_from, and_left, and_right, and_parts, not-true, not_from_false, cases_eq}
use Rattle.l4_model.specs.Words.{Format, W64, W32, word_limit, number_limit, version_limit, Id, NilThread, AnyThread, AnyLocalThread, LocalThread, GlobalThread, GlobalId, is_global_in, has_word_in, word_by, word_in, id_by, id_in}

-- The two parts of a word.
record Parts (f : Format) (n : ℕ) : Type 0 where
  number : n / version_limit f < number_limit f
  version : n % version_limit f < version_limit f
  low : n % version_limit f % 64 ≡ n % 64
  whole : n / version_limit f * version_limit f + n % version_limit f ≡ n
  not_all : n / version_limit f ≡ number_limit f - 1 → n % version_limit f ≡ version_limit f - 1 → n ≡ word_limit f - 1

parts : (f : Format) (n : ℕ) → n < word_limit f → Parts f n
parts W64 n small = record { number = omega (arith, small); version = omega arith; low = omega arith; whole = omega arith; not_all = λ a b. omega (arith, a, b) }
parts W32 n small = record { number = omega (arith, small); version = omega arith; low = omega arith; whole = omega arith; not_all = λ a b. omega (arith, a, b) }

not_both : (x y a b : ℕ) → (x ≡ a → y ≡ b → ⊥) → ((x == a) && (y == b)) ≡ false
not_both x y a b not_so =
    elim (cases_eq x a) [
      | inl e ↦ and_right (x == a) _ (ne_eqb y b (not_so e))
      | inr e ↦ and_left _ (y == b) (ne_eqb x a e)
    ]

-- The id of a word has this word.
abbrev IsOf : Format → ℕ → Id → Type 0
IsOf f n id = (has_word_in f id ≡ true) × (word_by f id ≡ n)

pub word_of_its_id : (f : Format) (n : ℕ) → n < word_limit f → (has_word_in f (id_by f n) ≡ true) × (word_by f (id_by f n) ≡ n)
word_of_its_id f n small = by_tests (n == 0) (n == word_limit f - 1) (n == word_limit f - 64) (n % 64 == 0) refl refl refl refl
  where
    by_tests : (a b c d : Bool) → (n == 0) ≡ a → (n == word_limit f - 1) ≡ b → (n == word_limit f - 64) ≡ c → (n % 64 == 0) ≡ d
        → IsOf f n (cond a NilThread (cond b AnyThread (cond c AnyLocalThread (cond d (LocalThread n) (GlobalThread (record { number = n / version_limit f; version = n % version_limit f }))))))
    by_tests true b c d p q r s = (refl, omega (arith, eqb-true n 0 p))
    by_tests false true c d p q r s = (refl, omega (arith, eqb-true n (word_limit f - 1) q))
    by_tests false false true d p q r s = (refl, omega (arith, eqb-true n (word_limit f - 64) r))
    by_tests false false false true p q r s =
        (and_from _ _ (and_from _ _ (and_from _ _ (lt-ltb n (word_limit f) small) (not_from_false _ p)) (not_from_false _ r)) s, refl)
    by_tests false false false false p q r s =
        let both = parts f n small in
        let low : ¬ (n % 64 ≡ 0) = eqb-false (n % 64) 0 s in
        let other : ¬ (n ≡ word_limit f - 1) = eqb-false n (word_limit f - 1) q in
        let version : (n % version_limit f % 64 == 0) ≡ false = ne_eqb (n % version_limit f % 64) 0 (λ e. low (omega (arith, both.low, e))) in (
          and_from _ _ (and_from _ _ (and_from _ _ (lt-ltb (n / version_limit f) (number_limit f) both.number) (lt-ltb (n % version_limit f) (version_limit f) both.version)) (not_from_false _ version))
              (not_from_false _ (not_both (n / version_limit f) (n % version_limit f) (number_limit f - 1) (version_limit f - 1) (λ a b. other (both.not_all a b)))),
          both.whole,
        )

-- A number above a version.
record Joined (f : Format) (number version : ℕ) : Type 0 where
  above : (number * version_limit f + version) / version_limit f ≡ number
  below : (number * version_limit f + version) % version_limit f ≡ version
  low : (number * version_limit f + version) % 64 ≡ version % 64
  small : number * version_limit f + version < word_limit f
  all : number * version_limit f + version ≡ word_limit f - 1 → (number ≡ number_limit f - 1) × (version ≡ version_limit f - 1)
  local : number * version_limit f + version ≡ word_limit f - 64 → version % 64 ≡ 0

joined : (f : Format) (number version : ℕ) → number < number_limit f → version < version_limit f → Joined f number version
joined W64 number version a b =
    record { above = omega (arith, b); below = omega (arith, b); low = omega arith; small = omega (arith, a, b); all = λ e. (omega (arith, a, b, e), omega (arith, a, b, e)); local = λ e. omega (arith, e) }
joined W32 number version a b =
    record { above = omega (arith, b); below = omega (arith, b); low = omega arith; small = omega (arith, a, b); all = λ e. (omega (arith, a, b, e), omega (arith, a, b, e)); local = λ e. omega (arith, e) }

not_true_both : (x y : Bool) → (x && y) ≡ false → x ≡ true → y ≡ true → ⊥
not_true_both true true h p q = cc
not_true_both true false h p q = cc
not_true_both false y h p q = cc

-- A word that has an id is read as this id.
abbrev IsBack : Format → Id → Type 0
IsBack f id = (word_by f id < word_limit f) × (id_by f (word_by f id) ≡ id)

global_back : (f : Format) (t : GlobalId) → is_global_in f t ≡ true → IsBack f (GlobalThread t)
global_back f t h =
    let all_3 = and_parts _ _ h in
    let all_2 = and_parts _ _ all_3.0 in
    let all_1 = and_parts _ _ all_2.0 in
    let j = joined f t.number t.version (ltb-true t.number (number_limit f) all_1.0) (ltb-true t.version (version_limit f) all_1.1) in
    let n = t.number * version_limit f + t.version in
    let low : ¬ (t.version % 64 ≡ 0) = eqb-false (t.version % 64) 0 (not-true _ all_2.1) in
    let not_low : (n % 64 == 0) ≡ false = ne_eqb (n % 64) 0 (λ e. low (omega (arith, j.low, e))) in
    let not_nil : (n == 0) ≡ false = ne_eqb n 0 (λ e. low (zero_low n t.version e j.low)) in
    let not_local : (n == word_limit f - 64) ≡ false = ne_eqb n (word_limit f - 64) (λ e. low (j.local e)) in
    let not_any : (n == word_limit f - 1) ≡ false = ne_eqb n (word_limit f - 1) (λ e. let both = j.all e in not_true_both (t.number == number_limit f - 1) (t.version == version_limit f - 1) (not-true _ all_3.1) (is t.number (number_limit f - 1) both.0) (is t.version (version_limit f - 1) both.1)) in
    (j.small, rw (not_nil, not_any, not_local, not_low, j.above, j.below) refl)
  where
    zero_low : (n version : ℕ) → n ≡ 0 → n % 64 ≡ version % 64 → version % 64 ≡ 0
    zero_low n version e same = omega (arith, e, same)

    is : (a b : ℕ) → a ≡ b → (a == b) ≡ true
    is a b e = grind arith

local_back : (f : Format) (word : ℕ) → has_word_in f (LocalThread word) ≡ true → (word == word_limit f - 1) ≡ false → IsBack f (LocalThread word)
local_back f word h not_any =
    let fronts = and_parts _ (word % 64 == 0) h in
    let middle = and_parts _ (not (word == word_limit f - 64)) fronts.0 in
    let first = and_parts (nat_lt word (word_limit f)) (not (word == 0)) middle.0 in
    (ltb-true word (word_limit f) first.0, rw (not-true _ first.1, not_any, not-true _ middle.1, fronts.1) refl)

not_ones : (f : Format) (word : ℕ) → word % 64 ≡ 0 → (word == word_limit f - 1) ≡ false
not_ones W64 word low = ne_eqb word (2 ^ 64 - 1) (λ e. absurd (omega (arith, low, e)))
not_ones W32 word low = ne_eqb word (2 ^ 32 - 1) (λ e. absurd (omega (arith, low, e)))

pub id_of_its_word : (f : Format) (id : Id) → has_word_in f id ≡ true → (word_by f id < word_limit f) × (id_by f (word_by f id) ≡ id)
id_of_its_word W64 NilThread h = (omega arith, refl)
id_of_its_word W32 NilThread h = (omega arith, refl)
id_of_its_word W64 AnyThread h = (omega arith, refl)
id_of_its_word W32 AnyThread h = (omega arith, refl)
id_of_its_word W64 AnyLocalThread h = (omega arith, refl)
id_of_its_word W32 AnyLocalThread h = (omega arith, refl)
id_of_its_word f (LocalThread word) h = local_back f word h (not_ones f word (eqb-true (word % 64) 0 (and_parts _ (word % 64 == 0) h).1))
id_of_its_word f (GlobalThread t) h = global_back f t h

-- The word of an id is there, and is read as it.
pub has_its_word : (f : Format) (n : ℕ) → n < word_limit f → word_in f (id_by f n) ≡ Some n
has_its_word f n small = let is = word_of_its_id f n small in rw is.0 (ap (λ (n : ℕ). Some n) is.1)

pub is_its_id : (f : Format) (id : Id) (n : ℕ) → word_in f id ≡ Some n → id_in f n ≡ Some id
is_its_id f id n e = by (has_word_in f id) refl e
  where
    by : (b : Bool) → has_word_in f id ≡ b → cond b (Some (word_by f id)) None ≡ Some n → id_in f n ≡ Some id
    by false t e = absurd cc
    by true t e =
        let same : word_by f id ≡ n = cc in
        let back = id_of_its_word f id t in
        ap (id_in f) (sym same) ∙ rw (lt-ltb (word_by f id) (word_limit f) back.0) (ap (λ (id : Id). Some id) back.1)

-- Every id of 32 bits is one of 64.
pub is_global_too : (f : Format) (t : GlobalId) → is_global_in f t ≡ true → is_global_in W64 t ≡ true
is_global_too W64 t h = h
is_global_too W32 t h =
    let all_3 = and_parts _ _ h in
    let all_2 = and_parts _ _ all_3.0 in
    let all_1 = and_parts _ _ all_2.0 in
    let number = ltb-true t.number (2 ^ 18) all_1.0 in
    let version = ltb-true t.version (2 ^ 14) all_1.1 in
    and_from _ _ (and_from _ _ (and_from _ _ (lt-ltb t.number (2 ^ 32) (omega (arith, number))) (lt-ltb t.version (2 ^ 32) (omega (arith, version)))) all_2.1)
    (not_from_false _ (and_left _ (t.version == 2 ^ 32 - 1) (ne_eqb t.number (2 ^ 32 - 1) (λ e. omega (arith, number, e)))))
