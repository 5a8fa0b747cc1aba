-- Threads as words spell them.
use Rattle.std.specs.Prelude.{ℕ, Bool, ◌==◌, Option, Some, List, ◌++◌, codes, decimal}
use Rattle.std.specs.List.{before_first, after_first}
use Rattle.l4_model.specs.Words.{GlobalId, is_global, global_id}
use Rattle.l4_model.specs.Words.{Id, NilThread, AnyThread, AnyLocalThread, LocalThread, GlobalThread}
use Rattle.l4_model.specs.Conditions.{◌>>=◌, ◌>>◌}
use Rattle.l4_words.specs.Numbers.{hexadecimal, number_of}

-- `N.V`: the number and the version of a thread, in decimal.
abbrev pub thread_word : GlobalId → List ℕ
thread_word t = decimal t.number ++ codes "." ++ decimal t.version

-- An id as a report has it.
abbrev pub id_word : Id → List ℕ
id_word NilThread = codes "nil"
id_word AnyThread = codes "any"
id_word AnyLocalThread = codes "anylocal"
id_word (LocalThread word) = codes "#" ++ hexadecimal word
id_word (GlobalThread t) = thread_word t

-- Two decimal numbers that make a global id. The byte of the dot is 46.
abbrev pub is_dot : ℕ → Bool
is_dot byte = byte == 46

abbrev pub thread_of_numbers : (number version : ℕ) → Option GlobalId
thread_of_numbers number version = do
  is_global (global_id number version)
  Some (global_id number version)

abbrev pub thread_between : (number version : List ℕ) → Option GlobalId
thread_between first second = do
  number ← number_of 10 first
  version ← number_of 10 second
  thread_of_numbers number version

unfoldable pub thread_of : List ℕ → Option GlobalId
thread_of word = thread_between (before_first is_dot word) (after_first is_dot word)
