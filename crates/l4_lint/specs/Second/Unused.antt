-- Names that a text with scripts of version 2 declares, and that nothing uses.
use Rattle.std.specs.Prelude.{ℕ, Bool, false, not, nat_le, List, length}
use Rattle.std.specs.List.{list_any}
use Rattle.std.specs.Str.{bytes_eq}
use Rattle.l4_words.specs.Words.{words_in}
use Rattle.l4_script.specs.Second.Texts.{Stage, Threads}
use Rattle.l4_lint.specs.Second.Parts.{words_of}

-- A line has this word, behind its own name.
abbrev pub has_word : (word line : List ℕ) → Bool
has_word word line = list_any (bytes_eq word) (words_in (words_of line))

-- The name of an id: no line behind has it. No name is like another one, so a word that is the name
-- uses it.
abbrev pub is_unused_name : (lines : List (List ℕ)) → (name : List ℕ) → Bool
is_unused_name lines name = not (list_any (has_word name) lines)

-- Of so many names it is told, since for each it may take as long as the text is.
abbrev pub most_names_looked : ℕ
most_names_looked = 16

-- The last name that was read is one of them.
abbrev pub is_name_looked_for : Stage → Bool
is_name_looked_for (Threads r) = nat_le (length r.names) most_names_looked
is_name_looked_for stage = false
