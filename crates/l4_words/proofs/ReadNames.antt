-- Names are read as they are written, and are written as they are read.
use Rattle.std.proofs.Common.{◌≡◌, ℕ, ◌+◌, ◌<◌, ◌^◌, true, List, ◌++◌, take, drop, Option, Some, None, refl, sym, ap, ◌∙◌, arith}
use Rattle.std.specs.Prelude.{nat_lt, codes, decimal}
use Rattle.std.specs.List.{position}
use Rattle.std.proofs.lemmas.Bool.{and_parts, and_from, ltb-true, lt-ltb}
use Rattle.std.proofs.lemmas.Bool.Decides.{nat_tests}
use Rattle.l4_model.specs.Words.{is_global}
use Rattle.l4_model.specs.World.{Name}
use Rattle.l4_words.specs.Numbers.{number_of}
use Rattle.l4_words.specs.Threads.{thread_word, thread_of}
use Rattle.l4_words.proofs.Above.{front_of, back_of, joined_at}
use Rattle.l4_words.proofs.Found.{some_same, some_bind, some_then}
use Rattle.l4_words.proofs.Numerals.{decimal_is_read, decimal_is_written}
use Rattle.l4_words.proofs.Spelled.{thread_is_above, thread_is_read, thread_is_written}
use Rattle.l4_words.specs.Names.{name_word, is_name, is_hash, name_between, name_of}
use Rattle.l4_words.proofs.Hashes.{name_at_hash, name_without_hash}

pub spelled_name : (s : Name) → is_global s.thread ≡ true → 0 < s.k → s.k < 2 ^ 64 → is_name s ≡ true
spelled_name s thread positive small = and_from _ _ (and_from _ _ thread (grind (arith, nat_tests))) (grind (arith, nat_tests))

pub name_is_read : (s : Name) → is_name s ≡ true → name_of (name_word s) ≡ Some s
unfolding name_of
name_is_read s h =
    let front = and_parts _ _ h in
    let parts = and_parts (is_global s.thread) (nat_lt 0 s.k) front.0 in
    let small = ltb-true s.k (2 ^ 64) front.1 in
    let above = thread_is_above s.thread parts.0 in
    rw (front_of 35 (thread_word s.thread) (decimal s.k) above, back_of 35 (thread_word s.thread) (decimal s.k) above, thread_is_read s.thread parts.0, decimal_is_read s.k small, parts.1) refl

name_between_is_written : (first second : List ℕ) (s : Name) → name_between first second ≡ Some s → (is_name s ≡ true) × (name_word s ≡ first ++ codes "#" ++ second)
name_between_is_written first second s e =
    let thread = some_bind (thread_of first) _ s e in
    let k = some_bind (number_of 10 second) _ s thread.2 in
    let counted = some_then (nat_lt 0 k.0) _ s k.2 in
    let named : Name = record { thread = thread.0; k = k.0 } in
    let same : named ≡ s = some_same named s counted.1 in
    let t = thread_is_written first thread.0 thread.1 in
    let n = decimal_is_written k.0 second k.1 in
    let right : is_name named ≡ true = and_from _ _ (and_from _ _ t.0 counted.0) (lt-ltb k.0 (2 ^ 64) n.0) in
    let spelled : name_word named ≡ first ++ codes "#" ++ second = (λ i. t.1 i ++ codes "#" ++ n.1 i) in
    (ap is_name (sym same) ∙ right, ap name_word (sym same) ∙ spelled)

pub name_is_written : (word : List ℕ) (s : Name) → name_of word ≡ Some s → (is_name s ≡ true) × (name_word s ≡ word)
name_is_written word s e = by (position is_hash word) refl
  where
    by : (o : Option ℕ) → position is_hash word ≡ o → (is_name s ≡ true) × (name_word s ≡ word)
    by None is = let none = name_without_hash word is in cc
    by (Some i) is =
        let b = name_between_is_written (take i word) (drop (i + 1) word) s (sym (name_at_hash word i is) ∙ e) in
        (b.0, b.1 ∙ joined_at 35 word i is)
