-- How the list of a schedule is written.
use Rattle.std.specs.Prelude.{ℕ, ◌+◌, ◌%◌, ◌==◌, Bool, false, if◌then◌else◌, List, [], ◌∷◌, ◌++◌, codes}
use Rattle.std.specs.List.{join_by}
use Rattle.l4_core_model.specs.Schedules.{Entry, CoreOf}
use Rattle.l4_schedules.specs.Items.{item_of}

-- The list of some entries: the item of each, with a comma between two.
abbrev pub schedule_text : List Entry → List ℕ
schedule_text entries = join_by item_of (codes ",") entries

-- In a file a line has 16 items. This separates an item from those before it: a comma, and behind
-- each sixteenth also a line end.
abbrev pub separator : (before : ℕ) → List ℕ
separator before =
    if before == 0 then [] else if before % 16 == 0 then codes ",\n" else codes ","

-- The items of these entries, behind `before` others.
abbrev pub in_lines : (before : ℕ) → List Entry → List ℕ
in_lines before [] = []
in_lines before (entry ∷ entries) =
    separator before ++ item_of entry ++ in_lines (before + 1) entries

-- The record of a run that has these entries: a line that says what it is, and the list.
abbrev pub recorded_text : List Entry → List ℕ
recorded_text entries =
    codes "; l4run replay FILE --schedule @NAME\n" ++ in_lines 0 entries ++ codes "\n"

-- A turn of core 0. What a run on one processor records is little else.
abbrev pub is_first_core : Entry → Bool
is_first_core (CoreOf cpu) = cpu == 0
is_first_core _ = false
