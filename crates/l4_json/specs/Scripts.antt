-- At which lines of a machine text the instructions of its threads stand.
use Rattle.std.specs.Prelude.{ℕ, ◌≡◌, ◌+◌, ◌-◌, Bool, false, nat_lt, if◌then◌else◌, Option, None, Some, Ok, Err, List, [], ◌∷◌, ◌++◌, codes, drop, length, map, replicate, slice_index_or, slice_set}
use Rattle.std.specs.Str.{bytes_eq}
use Rattle.l4_model.specs.Machine.{Machine}
use Rattle.l4_script.specs.Judged.{Judged}
use Rattle.l4_script.specs.Lines.{is_skipped}
use Rattle.l4_script.specs.Machines.{last_thread}
use Rattle.l4_script.specs.Second.Texts.{Reading, Stage, Start, Threads, after_line, begins_second}
use Rattle.l4_script.specs.Versions.{machine_of_text}
use Rattle.l4_words.specs.Lines.{parts_of}
use Rattle.l4_words.specs.Words.{words_in}
use Rattle.l4_json.specs.Lines.{all_but_last}

-- A line that declares a thread.
abbrev pub begins_with_thread : (words : List (List ℕ)) → Bool
begins_with_thread [] = false
begins_with_thread (word ∷ words) = bytes_eq word (codes "thread")

abbrev pub declares_thread : (line : List ℕ) → Bool
declares_thread line = begins_with_thread (words_in line)

-- The numbers of the lines that say something, from this number on: those behind each thread line,
-- and before them those in front of the first. `current` are those behind the last thread line.
abbrev pub groups : (lines : List (List ℕ)) → (number : ℕ) → (current : List ℕ) → List (List ℕ)
groups [] number current = current ∷ []
groups (line ∷ lines) number current =
    if is_skipped line then groups lines (number + 1) current
    else (if declares_thread line then current ∷ groups lines (number + 1) []
    else groups lines (number + 1) (current ++ number ∷ []))

abbrev pub first_script_lines : (lines : List (List ℕ)) → List (List ℕ)
first_script_lines lines = drop 1 (groups lines 1 [])

-- Scripts of version 2. A thread line begins the lines of its threads: those of the thread whose
-- script they have, or none. Any line by which the script of the last thread grows is one of its
-- lines.

abbrev pub lines_of : (scripts : List (List ℕ)) → (source : Option ℕ) → List ℕ
lines_of scripts None = []
lines_of scripts (Some place) = slice_index_or scripts place []

abbrev pub last_lines : (scripts : List (List ℕ)) → List ℕ
last_lines scripts = slice_index_or scripts (length scripts - 1) []

-- The last thread has so many instructions.
abbrev pub lengthened : (number size : ℕ) → (scripts : List (List ℕ)) → List (List ℕ)
lengthened number size scripts = if nat_lt (length (last_lines scripts)) size
    then slice_set scripts (length scripts - 1) (last_lines scripts ++ number ∷ [])
    else scripts

abbrev pub with_line : (number : ℕ) → Reading → (scripts : List (List ℕ)) → List (List ℕ)
with_line number r scripts = if nat_lt (length scripts) (length r.machine.threads)
    then scripts ++
    replicate (length r.machine.threads - length scripts) (lines_of scripts r.heir_of)
    else lengthened number (length (last_thread r.machine).script) scripts

abbrev pub with_line_by : (number : ℕ) → Stage → (scripts : List (List ℕ)) → List (List ℕ)
with_line_by number (Threads r) scripts = with_line number r scripts
with_line_by number stage scripts = scripts

-- A faulty line leads nowhere.
abbrev pub led_to : Stage → Judged Stage → Stage
led_to stage (Ok after) = after
led_to stage (Err kind) = stage

abbrev pub stage_after : (number : ℕ) → Stage → (line : List ℕ) → Stage
stage_after number stage line = led_to stage (after_line number stage line)

-- By what was read of the lines before the one of this number, and the lines of the threads there.
abbrev pub second_script_lines : (lines : List (List ℕ)) → (number : ℕ) → Stage →
    (scripts : List (List ℕ)) → List (List ℕ)
second_script_lines [] number stage scripts = scripts
second_script_lines (line ∷ lines) number stage scripts =
    second_script_lines lines (number + 1) (stage_after number stage line)
    (with_line_by number (stage_after number stage line) scripts)

-- For each thread of a text, the numbers of the lines of its instructions.
abbrev pub script_lines : (text : List ℕ) → List (List ℕ)
script_lines text = if begins_second (parts_of text)
    then second_script_lines (all_but_last (parts_of text)) 1 Start []
    else first_script_lines (all_but_last (parts_of text))

-- Each thread of a machine that a text declares has a line for each of its instructions.
abbrev pub EachHasLine : Type 0
EachHasLine =
    (text : List ℕ) (m : Machine) → machine_of_text text ≡ Ok m →
    map length (script_lines text) ≡ map (λ d. length d.script) m.threads
