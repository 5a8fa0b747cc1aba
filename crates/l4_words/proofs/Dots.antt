-- Where the `.` of a thread stands.
use Rattle.std.proofs.Common.{◌≡◌, ℕ, ◌+◌, List, [], take, drop, Option, Some, None, refl, arith}
use Rattle.std.specs.List.{position, position_or_len}
use Rattle.std.proofs.lemmas.List.{drop_all}
use Rattle.l4_model.specs.Conditions.{◌>>=◌}
use Rattle.l4_words.specs.Numbers.{number_of}
use Rattle.l4_words.specs.Threads.{is_dot, thread_between, thread_of}
use Rattle.l4_words.proofs.Splits.{place_at, no_place}

abbrev pub none : (B : Type 0) → Option B
none B = None

pub nothing : {A B : Type 0} (o : Option A) → (o >>= λ x. none B) ≡ none B
nothing None = refl
nothing (Some x) = refl

pub thread_at_dot : (word : List ℕ) (i : ℕ) → position is_dot word ≡ Some i → thread_of word ≡ thread_between (take i word) (drop (i + 1) word)
unfolding thread_of
thread_at_dot word i e = rw (place_at is_dot word i e).0 refl

no_version : (number : List ℕ) → thread_between number [] ≡ None
no_version number = nothing (number_of 10 number)

pub thread_without_dot : (word : List ℕ) → position is_dot word ≡ None → thread_of word ≡ None
unfolding thread_of
thread_without_dot word e =
    let end = no_place is_dot word e in
    rw (drop_all (position_or_len is_dot word + 1) word (omega arith)) (no_version (take (position_or_len is_dot word) word))
