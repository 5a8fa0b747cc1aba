-- The list of a schedule in a file.
use Rattle.std.specs.Prelude.{ℕ, ◌==◌, ◌||◌, nat_lt, Bool, false, if◌then◌else◌, Result, Err, List, [], ◌∷◌, ◌++◌, codes, flat_map, length, reverse}
use Rattle.std.specs.List.{join_by}
use Rattle.l4_model.specs.Machine.{Machine}
use Rattle.l4_core_model.specs.Schedules.{Entry}
use Rattle.l4_words.specs.Lines.{parts_of}
use Rattle.l4_replay.specs.declared.fault.RunFault.{RunFault}
use Rattle.l4_replay.specs.declared.fault.RunFault.TheVariants.{Turns}
use Rattle.l4_replay.specs.Entries.{most_events}
use Rattle.l4_schedules.specs.Items.{items_of, schedule_within}

-- A line that begins with a semicolon, byte 59, is a comment, and is left out.

abbrev pub is_comment : (line : List ℕ) → Bool
is_comment [] = false
is_comment (first ∷ rest) = first == 59

abbrev pub kept_line : (line : List ℕ) → List ℕ
kept_line line = if is_comment line then [] else line ++ codes "\n"

abbrev pub without_comments : (text : List ℕ) → List ℕ
without_comments text = flat_map kept_line (parts_of text)

-- Blanks are the space, the tab, the carriage return and the line end. An item has none at its
-- beginning and at its end.

abbrev pub is_blank : ℕ → Bool
is_blank byte = byte == 32 || byte == 9 || byte == 13 || byte == 10

abbrev pub behind_blanks : List ℕ → List ℕ
behind_blanks [] = []
behind_blanks (byte ∷ bytes) = if is_blank byte then behind_blanks bytes else byte ∷ bytes

abbrev pub trimmed : List ℕ → List ℕ
trimmed item = reverse (behind_blanks (reverse (behind_blanks item)))

-- The list that the text of a file has: what stands between its commas, without comments, and
-- without the blanks around it. A blank within an item stays, so the item spells no entry.
abbrev pub list_in_file : (text : List ℕ) → List ℕ
list_in_file text = join_by trimmed (codes ",") (items_of (without_comments text))

-- Such a text has at most 32 MiB, more than any list of entries needs.
abbrev pub most_bytes : ℕ
most_bytes = 33554432

-- The schedule that it spells on a machine. It may have as many items as a recorded run may have
-- events. A text that is too long is refused like a list with too many items.
abbrev pub schedule_in_file : Machine → (text : List ℕ) → Result (List Entry) RunFault
schedule_in_file m text =
    if nat_lt most_bytes (length text) then Err Turns
    else schedule_within most_events m (list_in_file text)
