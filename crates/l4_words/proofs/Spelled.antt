-- Threads are read as they are written, and are written as they are read.
use Rattle.std.proofs.Common.{◌≡◌, ℕ, ◌+◌, ◌<◌, ◌^◌, true, List, ◌++◌, take, drop, Option, Some, None, refl, sym, ap, ◌∙◌, arith}
use Rattle.std.specs.Prelude.{codes, decimal}
use Rattle.std.specs.List.{position}
use Rattle.std.proofs.lemmas.Bool.{and_parts, ltb-true}
use Rattle.l4_model.specs.Words.{GlobalId, global_id, is_global}
use Rattle.l4_words.specs.Numbers.{number_of}
use Rattle.l4_words.specs.Threads.{thread_word, is_dot, thread_between, thread_of}
use Rattle.l4_words.proofs.Above.{is_above, above_parts, above_lower, decimal_is_above, front_of, back_of, joined_at}
use Rattle.l4_words.proofs.Dots.{thread_at_dot, thread_without_dot}
use Rattle.l4_words.proofs.Found.{some_same, some_bind, some_then}
use Rattle.l4_words.proofs.Numerals.{decimal_is_read, decimal_is_written}

pub record Fits (t : GlobalId) : Type 0 where
  pub number : t.number < 2 ^ 64
  pub version : t.version < 2 ^ 64

pub fits : (t : GlobalId) → is_global t ≡ true → Fits t
fits t h =
    let front = (and_parts _ _ h).0 in
    let fronts = and_parts _ _ front in
    let parts = and_parts _ _ fronts.0 in
    let small_number = ltb-true t.number (2 ^ 32) parts.0 in
    let small_version = ltb-true t.version (2 ^ 32) parts.1 in
    record { number = omega (arith, small_number); version = omega (arith, small_version) }

pub thread_is_above : (t : GlobalId) → is_global t ≡ true → is_above 35 (thread_word t) ≡ true
thread_is_above t h =
    let f = fits t h in
    let number = above_lower 35 46 (omega arith) (decimal t.number) (decimal_is_above t.number f.number) in
    let version = above_lower 35 46 (omega arith) (decimal t.version) (decimal_is_above t.version f.version) in
    above_parts 35 (decimal t.number ++ codes ".") (decimal t.version) (above_parts 35 (decimal t.number) (codes ".") number refl) version

pub thread_is_read : (t : GlobalId) → is_global t ≡ true → thread_of (thread_word t) ≡ Some t
unfolding thread_of
thread_is_read t h =
    let f = fits t h in
    let above = decimal_is_above t.number f.number in
    rw (front_of 46 (decimal t.number) (decimal t.version) above, back_of 46 (decimal t.number) (decimal t.version) above, decimal_is_read t.number f.number, decimal_is_read t.version f.version, h) refl

between_is_written : (first second : List ℕ) (t : GlobalId) → thread_between first second ≡ Some t → (is_global t ≡ true) × (thread_word t ≡ first ++ codes "." ++ second)
between_is_written first second t e =
    let number = some_bind (number_of 10 first) _ t e in
    let version = some_bind (number_of 10 second) _ t number.2 in
    let global = some_then (is_global (global_id number.0 version.0)) _ t version.2 in
    let same = some_same (global_id number.0 version.0) t global.1 in
    let spelled : thread_word (global_id number.0 version.0) ≡ first ++ codes "." ++ second =
    (λ i. (decimal_is_written number.0 first number.1).1 i ++ codes "." ++ (decimal_is_written version.0 second version.1).1 i) in
    (ap is_global (sym same) ∙ global.0, ap thread_word (sym same) ∙ spelled)

pub thread_is_written : (word : List ℕ) (t : GlobalId) → thread_of word ≡ Some t → (is_global t ≡ true) × (thread_word t ≡ word)
thread_is_written word t e = by (position is_dot word) refl
  where
    by : (o : Option ℕ) → position is_dot word ≡ o → (is_global t ≡ true) × (thread_word t ≡ word)
    by None is = let none = thread_without_dot word is in cc
    by (Some i) is =
        let b = between_is_written (take i word) (drop (i + 1) word) t (sym (thread_at_dot word i is) ∙ e) in
        (b.0, b.1 ∙ joined_at 46 word i is)
