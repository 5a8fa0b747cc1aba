-- Names in machine texts with scripts of version 2: of ids, and of the instructions of a script.
use Rattle.std.specs.Prelude.{ℕ, Bool, false, not, ◌&&◌, ◌||◌, ◌==◌, nat_le, if◌then◌else◌, Option, Some, None, Ok, Err, is_some, List, [], ◌∷◌, length, take, drop, find, codes}
use Rattle.std.specs.Option.{option_map}
use Rattle.std.specs.List.{list_all, list_any}
use Rattle.std.specs.Str.{bytes_eq}
use Rattle.l4_model.specs.Words.{Format, GlobalId, Id}
use Rattle.l4_types.specs.Ids.{global_of}
use Rattle.l4_script.specs.declared.text.fault.TextFaultKind.TheVariants.{BadId, BadName}
use Rattle.l4_script.specs.Judged.{Judged, ◌>>=◌, needs}
use Rattle.l4_script.specs.Ids.{thread_in, id_of}
use Rattle.l4_script.specs.Operations.{operation_named}

abbrev pub is_letter : (byte : ℕ) → Bool
is_letter byte = (nat_le 65 byte && nat_le byte 90) || (nat_le 97 byte && nat_le byte 122)

abbrev pub is_digit : (byte : ℕ) → Bool
is_digit byte = nat_le 48 byte && nat_le byte 57

-- A letter, a digit, `-` or `_`.
abbrev pub is_name_byte : (byte : ℕ) → Bool
is_name_byte byte = is_letter byte || is_digit byte || byte == 45 || byte == 95

abbrev pub begins_with_letter : List ℕ → Bool
begins_with_letter [] = false
begins_with_letter (byte ∷ bytes) = is_letter byte

abbrev pub most_name_bytes : ℕ
most_name_bytes = 31

-- The words of a machine text that are no names, beside those of operations: of lines in front of
-- the scripts, of instructions that go on with the next and of those that name another, and of
-- operands.

abbrev pub line_words : List (List ℕ)
line_words =
    codes "l4" ∷ codes "cpus" ∷ codes "name" ∷ codes "thread" ∷ codes "cpu" ∷ codes "space"
    ∷ codes "to" ∷ codes "as" ∷ []

abbrev pub plain_instructions : List (List ℕ)
plain_instructions =
    codes "set" ∷ codes "copy" ∷ codes "from" ∷ codes "tag" ∷ codes "vs" ∷ codes "ipc"
    ∷ codes "exregs" ∷ codes "delete" ∷ codes "end" ∷ []

abbrev pub branches : List (List ℕ)
branches =
    codes "jump" ∷ codes "onerr" ∷ codes "onlabel" ∷ codes "onword" ∷ codes "onfrom" ∷ []

abbrev pub operand_words : List (List ℕ)
operand_words =
    codes "nil" ∷ codes "any" ∷ codes "anylocal" ∷ codes "last" ∷ codes "never" ∷ codes "zero"
    ∷ codes "S" ∷ codes "R" ∷ codes "SR" ∷ []

abbrev pub is_among : (words : List (List ℕ)) → (word : List ℕ) → Bool
is_among words word = list_any (bytes_eq word) words

-- `mr` and digits behind it name a register, there or not.
abbrev pub is_register_word : (word : List ℕ) → Bool
is_register_word word =
    bytes_eq (take 2 word) (codes "mr") && not (length word == 2) && list_all is_digit (drop 2 word)

abbrev pub is_keyword : (word : List ℕ) → Bool
is_keyword word =
    is_register_word word || is_among line_words word || is_some (operation_named word)
    || is_among plain_instructions word || is_among branches word || is_among operand_words word

-- A letter, and behind it letters, digits, `-` and `_`; at most 31 bytes, and no keyword.
unfoldable pub is_name : (word : List ℕ) → Bool
is_name word =
    begins_with_letter word && nat_le (length word) most_name_bytes && list_all is_name_byte word &&
    not (is_keyword word)

-- So many ids have names at most, and so many instructions of a script (own).
abbrev pub most_names : ℕ
most_names = 1024

-- A name that a text declares, and its id.
pub record Named : Type 0 where
  pub name : List ℕ
  pub id : Id

abbrev pub is_declared_in : List Named → (name : List ℕ) → Bool
is_declared_in names name = list_any (λ n. bytes_eq n.name name) names

abbrev pub id_under : List Named → (name : List ℕ) → Option Id
id_under names name = option_map (λ n. n.id) (find (λ n. bytes_eq n.name name) names)

-- The id that a word names which spells none.
unfoldable pub id_by_name : List Named → (word : List ℕ) → Judged Id
id_by_name names word = if is_name word then needs (id_under names word) BadName else Err BadId

-- An id as version 1 spells it, or by a name.
unfoldable pub id_named : Format → List Named → (word : List ℕ) → Judged Id
id_named format names word = by (id_of format word)
  where
    by : Option Id → Judged Id
    by (Some id) = Ok id
    by None = id_by_name names word

-- The id of a thread: a global one.
unfoldable pub thread_named : Format → List Named → (word : List ℕ) → Judged GlobalId
thread_named format names word = by (thread_in format word)
  where
    by : Option GlobalId → Judged GlobalId
    by (Some t) = Ok t
    by None = id_by_name names word >>= λ id. needs (global_of id) BadId
