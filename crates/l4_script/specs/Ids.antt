-- Thread ids as machine texts of a format spell them.
use Rattle.std.specs.Prelude.{ℕ, ◌==◌, if◌then◌else◌, Option, Some, None, List, length, take, drop, codes}
use Rattle.std.specs.Option.{option_map}
use Rattle.std.specs.Str.{bytes_eq}
use Rattle.l4_model.specs.Words.{Format, W64, W32, GlobalId, is_global_in, Id, NilThread, AnyThread, AnyLocalThread, GlobalThread, id_in}
use Rattle.l4_model.specs.Conditions.{◌>>=◌, ◌>>◌}
use Rattle.l4_words.specs.Numbers.{padded_of}
use Rattle.l4_words.specs.Threads.{thread_of}

-- As many hexadecimal digits as a word has.
abbrev pub id_digits : Format → ℕ
id_digits W64 = 16
id_digits W32 = 8

-- The id whose word these hexadecimal digits spell, exactly as many as the format has.
abbrev pub raw_id_of : Format → List ℕ → Option Id
raw_id_of format digits = if length digits == id_digits format
    then (padded_of digits >>= id_in format) else None

-- `N.V`, a global id that has a word of the format.
unfoldable pub thread_in : Format → List ℕ → Option GlobalId
thread_in format word = do
  thread ← thread_of word
  is_global_in format thread
  Some thread

-- `#` and the word of an id, or `N.V`.
unfoldable pub spelled_id_of : Format → List ℕ → Option Id
spelled_id_of format word = if bytes_eq (take 1 word) (codes "#")
    then raw_id_of format (drop 1 word) else option_map GlobalThread (thread_in format word)

-- An id: one of three names, or spelled by numbers.
unfoldable pub id_of : Format → List ℕ → Option Id
id_of format word =
    if bytes_eq word (codes "nil") then Some NilThread
    else (if bytes_eq word (codes "any") then Some AnyThread
    else (if bytes_eq word (codes "anylocal") then Some AnyLocalThread
    else spelled_id_of format word))
