-- A chart as a sequence diagram, a text for Mermaid.
use Rattle.std.specs.Prelude.{ℕ, ◌-◌, ◌==◌, Option, Some, None, List, [], ◌∷◌, ◌++◌, codes, decimal, flat_map, if◌then◌else◌, length, slice_get}
use Rattle.std.specs.Str.Lossy.{utf8_lossy}
use Rattle.l4_json.specs.Lines.{all_but_last}
use Rattle.l4_model.specs.Words.{GlobalId, same_id}
use Rattle.l4_words.specs.Lines.{parts_of}
use Rattle.l4_chart.specs.Cells.{is_at}
use Rattle.l4_chart.specs.Charts.{Drawn}
use Rattle.l4_chart.specs.Marks.{mark_of}
use Rattle.l4_chart.specs.Standings.{standing_mark, standing_words}
use Rattle.l4_chart.specs.Told.{Told, row_words}
use Rattle.l4_chart.specs.declared.columns.Column.{Column}
use Rattle.l4_chart.specs.declared.marks.Mark.{Mark}
use Rattle.l4_chart.specs.declared.marks.Mark.TheVariants.{Point, Arrow, Clock}
use Rattle.l4_chart.specs.declared.standings.Standing.{Standing}

-- A `#`, byte 35, would begin a comment, and a line end, byte 10, would end a message.
abbrev pub escaped_byte : ℕ → List ℕ
escaped_byte byte =
    if byte == 35 then codes "#35;"
    else (if byte == 10 then codes "<br/>" else byte ∷ [])

-- In place of what is no UTF-8 stands U+FFFD.
abbrev pub escaped : (text : List ℕ) → List ℕ
escaped text = utf8_lossy (flat_map escaped_byte text)

-- The name of a thread.
unfoldable pub name : GlobalId → List ℕ
name t = codes "T" ++ decimal t.number ++ codes "_" ++ decimal t.version

-- The threads of each processor stand in a box.

unfoldable pub as_id : GlobalId → List ℕ
as_id t = codes " as " ++ decimal t.number ++ codes "." ++ decimal t.version ++ codes "\n"

abbrev pub participant : Column → List ℕ
participant c = codes "  participant " ++ name c.id ++ as_id c.id

abbrev pub box_end : (before : Option ℕ) → List ℕ
box_end None = []
box_end (Some cpu) = codes "  end\n"

abbrev pub box_begin : (before : Option ℕ) → (cpu : ℕ) → List ℕ
box_begin before cpu =
    if is_at before cpu then []
    else box_end before ++ codes "  box cpu " ++ decimal cpu ++ codes "\n"

abbrev pub participants : (before : Option ℕ) → List Column → List ℕ
participants before [] = box_end before
participants before (c ∷ cs) =
    box_begin before c.cpu ++ participant c ++ participants (Some c.cpu) cs

-- A note stands over a thread, or over those from one to another.
abbrev pub note_over : GlobalId → List ℕ
note_over t = codes "  Note over " ++ name t

abbrev pub note_between : (first last : GlobalId) → List ℕ
note_between first last =
    note_over first ++ (if same_id first last then [] else codes "," ++ name last)

-- The first and the last thread of a processor that are shown.

abbrev pub first_or : Option (GlobalId × GlobalId) → GlobalId → GlobalId
first_or None t = t
first_or (Some ends) t = ends.0

abbrev pub ends_with : (cpu : ℕ) → Option (GlobalId × GlobalId) → Column →
    Option (GlobalId × GlobalId)
ends_with cpu ends c = if c.cpu == cpu then Some (first_or ends c.id, c.id) else ends

abbrev pub ends_from : (cpu : ℕ) → Option (GlobalId × GlobalId) → List Column →
    Option (GlobalId × GlobalId)
ends_from cpu ends [] = ends
ends_from cpu ends (c ∷ cs) = ends_from cpu (ends_with cpu ends c) cs

-- A clock is a note over these, or a comment if no thread of its processor is shown.
abbrev pub clock_over : Option (GlobalId × GlobalId) → List ℕ
clock_over None = codes "  %% "
clock_over (Some ends) = note_between ends.0 ends.1

-- A delivery is a message, and any other step of a thread is a note.
abbrev pub message : (arrow : List ℕ) → (sender receiver : GlobalId) → List ℕ
message arrow sender receiver = codes "  " ++ name sender ++ arrow ++ name receiver

abbrev pub row_mark : List Column → Mark → List ℕ
row_mark columns (Point t kind) = note_over t
row_mark columns (Arrow sender receiver) = message (codes "->>") sender receiver
row_mark columns (Clock cpu clock) = clock_over (ends_from cpu None columns)

abbrev pub row_line : List Column → Told → List ℕ
row_line columns row =
    row_mark columns (mark_of row.step)
    ++ codes ": " ++ escaped (row_words row) ++ escaped row.changes ++ codes "\n"

-- A send that has not arrived is a message that gets lost.

abbrev pub standing_stroke : Mark → GlobalId → List ℕ
standing_stroke (Arrow sender receiver) t = message (codes "--x") sender receiver
standing_stroke _ t = note_over t

abbrev pub standing_line : Standing → List ℕ
standing_line s =
    standing_stroke (standing_mark s) s.id
    ++ codes ": " ++ escaped (standing_words s) ++ codes "\n"

-- A circle is a note over all threads. Where none is shown it is left out.

abbrev pub circle_line : (first last : GlobalId) → (line : List ℕ) → List ℕ
circle_line first last line = note_between first last ++ codes ": " ++ escaped line ++ codes "\n"

abbrev pub circle_lines : (first last : Option Column) → (lines : List (List ℕ)) → List ℕ
circle_lines (Some first) (Some last) lines = flat_map (circle_line first.id last.id) lines
circle_lines _ _ lines = []

abbrev pub diagram_of : Drawn → List ℕ
diagram_of chart =
    codes "sequenceDiagram\n" ++ participants None chart.columns
    ++ flat_map (row_line chart.columns) chart.rows ++ flat_map standing_line chart.standings
    ++ circle_lines (slice_get chart.columns 0) (slice_get chart.columns (length chart.columns - 1))
    (all_but_last (parts_of chart.circles))
