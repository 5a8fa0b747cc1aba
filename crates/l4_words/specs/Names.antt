-- The names of sends as words spell them.
use Rattle.std.specs.Prelude.{ℕ, Bool, ◌==◌, ◌&&◌, nat_lt, Option, Some, List, ◌++◌, codes, decimal}
use Rattle.std.specs.List.{before_first, after_first}
use Rattle.l4_model.specs.Words.{is_global}
use Rattle.l4_model.specs.World.{Name}
use Rattle.l4_model.specs.Conditions.{◌>>=◌, ◌>>◌}
use Rattle.l4_words.specs.Numbers.{is_word, number_of}
use Rattle.l4_words.specs.Threads.{thread_of, thread_word}

-- `N.V#K`: a thread and the number of a send in decimal.
abbrev pub name_word : Name → List ℕ
name_word s = thread_word s.thread ++ codes "#" ++ decimal s.k

-- The sends of a thread are counted from 1.
abbrev pub is_name : Name → Bool
is_name s = is_global s.thread && nat_lt 0 s.k && is_word s.k

-- The byte of the `#` is 35.
abbrev pub is_hash : ℕ → Bool
is_hash byte = byte == 35

abbrev pub name_between : (thread k : List ℕ) → Option Name
name_between first second = do
  thread ← thread_of first
  k ← number_of 10 second
  nat_lt 0 k
  Some (record { thread = thread; k = k })

unfoldable pub name_of : List ℕ → Option Name
name_of word = name_between (before_first is_hash word) (after_first is_hash word)
