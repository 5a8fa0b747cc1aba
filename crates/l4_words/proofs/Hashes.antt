-- Where the `#` of a name stands.
use Rattle.std.proofs.Common.{◌≡◌, ℕ, ◌+◌, List, [], take, drop, Some, None, refl, arith}
use Rattle.std.specs.List.{position, position_or_len}
use Rattle.std.proofs.lemmas.List.{drop_all}
use Rattle.l4_words.specs.Threads.{thread_of}
use Rattle.l4_words.proofs.Dots.{nothing}
use Rattle.l4_words.proofs.Splits.{place_at, no_place}
use Rattle.l4_words.specs.Names.{is_hash, name_between, name_of}

pub name_at_hash : (word : List ℕ) (i : ℕ) → position is_hash word ≡ Some i → name_of word ≡ name_between (take i word) (drop (i + 1) word)
unfolding name_of
name_at_hash word i e = rw (place_at is_hash word i e).0 refl

no_k : (thread : List ℕ) → name_between thread [] ≡ None
no_k thread = nothing (thread_of thread)

pub name_without_hash : (word : List ℕ) → position is_hash word ≡ None → name_of word ≡ None
unfolding name_of
name_without_hash word e =
    let end = no_place is_hash word e in
    rw (drop_all (position_or_len is_hash word + 1) word (omega arith)) (no_k (take (position_or_len is_hash word) word))
