-- The threads that a list names.
use Rattle.std.specs.Prelude.{ℕ, ◌+◌, ◌==◌, if◌then◌else◌, Option, Some, None, Result, Ok, Err, List, [], ◌∷◌, ◌++◌, length}
use Rattle.std.specs.List.{slice_split}
use Rattle.l4_model.specs.Words.{GlobalId}
use Rattle.l4_model.specs.Machine.{Machine, is_declared}
use Rattle.l4_model.specs.Conditions.{◌>>=◌}
use Rattle.l4_words.specs.Threads.{thread_of}

-- The items of what is left of a list, if anything is left. Commas, byte 44, separate them.
abbrev pub items_left : Option (List ℕ) → List (List ℕ)
items_left None = []
items_left (Some list) = slice_split (λ byte. byte == 44) list

-- A thread, if it is declared.
abbrev pub if_declared : Machine → GlobalId → Option GlobalId
if_declared m t = if is_declared m t then Some t else None

abbrev pub named_thread : Machine → List ℕ → Option GlobalId
named_thread m item = thread_of item >>= if_declared m

abbrev pub or_item : (number : ℕ) → Option GlobalId → (GlobalId → Result (List GlobalId) ℕ) →
    Result (List GlobalId) ℕ
or_item number None rest = Err number
or_item number (Some t) rest = rest t

-- The threads so far and those of the items that are left. Or the number, counted from 1, of the
-- first of these items that names no thread.
abbrev pub read_threads : Machine → (threads : List GlobalId) → List (List ℕ) →
    Result (List GlobalId) ℕ
read_threads m threads [] = Ok threads
read_threads m threads (item ∷ items) =
    or_item (length threads + 1) (named_thread m item) (λ t.
    read_threads m (threads ++ t ∷ []) items)

abbrev pub threads_of : Machine → (list : List ℕ) → Result (List GlobalId) ℕ
threads_of m list = read_threads m [] (items_left (Some list))
