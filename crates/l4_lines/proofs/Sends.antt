-- Where the `#` stands of a word that names a send of a thread, or asks for any of them.
use Rattle.std.proofs.Common.{◌≡◌, ℕ, ◌+◌, cond, Bool, false, List, take, drop, Some, None, refl, ap, arith}
use Rattle.std.specs.List.{before_first, position, position_or_len}
use Rattle.std.proofs.lemmas.List.{drop_all}
use Rattle.l4_words.specs.Names.{is_hash}
use Rattle.l4_words.specs.Threads.{thread_of}
use Rattle.l4_words.proofs.Splits.{no_place, place_at}
use Rattle.l4_lines.specs.Lines.{has_number, is_any, is_numeral, thread_asked, thread_named}

pub at_hash : (asked : List ℕ) (i : ℕ) → position is_hash asked ≡ Some i →
    thread_asked asked ≡ cond (is_any (drop (i + 1) asked)) (thread_of (take i asked)) None
at_hash asked i e = rw (place_at is_hash asked i e).0 refl

pub without_hash : (asked : List ℕ) → position is_hash asked ≡ None →
    thread_asked asked ≡ None
without_hash asked e =
    let end = no_place is_hash asked e in
    rw (drop_all (position_or_len is_hash asked + 1) asked (omega arith)) refl

pub number_at : (word : List ℕ) (i : ℕ) → position is_hash word ≡ Some i →
    has_number word ≡ is_numeral (drop (i + 1) word)
number_at word i e = rw (place_at is_hash word i e).0 refl

pub no_number : (word : List ℕ) → position is_hash word ≡ None → has_number word ≡ false
no_number word e =
    let end = no_place is_hash word e in
    ap is_numeral (drop_all (position_or_len is_hash word + 1) word (omega arith))

pub named_at : (word : List ℕ) (i : ℕ) → position is_hash word ≡ Some i →
    thread_named word ≡ cond (is_numeral (drop (i + 1) word)) (thread_of (take i word)) None
named_at word i e = rw (place_at is_hash word i e).0 refl

pub none_named : (word : List ℕ) → position is_hash word ≡ None → thread_named word ≡ None
none_named word e =
    ap (λ (b : Bool). cond b (thread_of (before_first is_hash word)) None) (no_number word e)
