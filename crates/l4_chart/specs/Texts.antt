-- A chart as text.
use Rattle.std.specs.Prelude.{ℕ, ◌-◌, ◌==◌, Bool, false, nat_le, if◌then◌else◌, Option, Some, None, List, [], ◌∷◌, ◌++◌, length, map, take, flat_map, replicate, codes, decimal, slice_index_or}
use Rattle.std.specs.Char.{encode_utf8}
use Rattle.std.specs.List.{enumerate_from, repeat}
use Rattle.l4_words.specs.Threads.{thread_word}
use Rattle.l4_chart.specs.Cells.{stroke_of, cell_of, for_line, is_at, opened}
use Rattle.l4_chart.specs.Charts.{Drawn}
use Rattle.l4_chart.specs.Layouts.{layout_of}
use Rattle.l4_chart.specs.Marks.{mark_of}
use Rattle.l4_chart.specs.Standings.{standing_mark, standing_words}
use Rattle.l4_chart.specs.Told.{Told, row_words}
use Rattle.l4_chart.specs.Waiting.{waits_in}
use Rattle.l4_chart.specs.declared.cells.Cell.{Cell}
use Rattle.l4_chart.specs.declared.cells.Stroke.{Stroke}
use Rattle.l4_chart.specs.declared.columns.Column.{Column}
use Rattle.l4_chart.specs.declared.glyphs.Glyphs.{Glyphs}
use Rattle.l4_chart.specs.declared.layout.Layout.{Layout}
use Rattle.l4_chart.specs.declared.standings.Standing.{Standing}

-- A word at the right of `width` columns. The byte of a space is 32.
abbrev pub right : (width : ℕ) → List ℕ → List ℕ
right width word = replicate (width - length word) 32 ++ word

abbrev pub cell_text : (width : ℕ) → Cell → List ℕ
cell_text width cell =
    encode_utf8 cell.gap.first ++ repeat (width - 3) (encode_utf8 cell.gap.between) ++
    encode_utf8 cell.gap.last
    ++ encode_utf8 cell.line

-- The line of a thread that waits is another one.
abbrev pub cells_text : Glyphs → (width : ℕ) → Stroke → (waits : List Bool) → List (ℕ × Column) →
    List ℕ
cells_text g width stroke waits places = flat_map (λ (p : ℕ × Column).
    cell_text width (cell_of (for_line g (slice_index_or waits p.0 false)) stroke p.0 p.1)) places

-- The words of a row, cut off if there is less room.
abbrev pub cut : Glyphs → (room : ℕ) → List ℕ → List ℕ
cut g room line = if nat_le (length line) room then line
    else take (room - 1) line ++ encode_utf8 g.cut

abbrev pub line_text : Glyphs → (room : ℕ) → Told → List ℕ
line_text g room row = if room == 0 then [] else codes "  " ++ cut g room (row_words row)

-- Below a row stands what changes in registers. Its words are never cut off or left out.
abbrev pub row_text : Glyphs → Layout → List Column → Told → List ℕ
row_text g l columns row =
    right l.number (decimal row.number)
    ++ cells_text g l.cell (stroke_of columns (mark_of row.step)) row.waits
    (enumerate_from 0 columns)
    ++ line_text g l.line row ++ row.changes ++ codes "\n"

-- What a thread is in has no number. Its words are never cut off or left out. They stand alone where
-- those of rows are left out.
abbrev pub standing_cells : Glyphs → Layout → List Column → (waits : List Bool) → Standing → List ℕ
standing_cells g l columns waits s =
    if l.line == 0 then []
    else replicate l.number 32 ++ cells_text (opened g) l.cell
    (stroke_of columns (standing_mark s)) waits (enumerate_from 0 columns)

abbrev pub standing_text : Glyphs → Layout → List Column → (waits : List Bool) → Standing → List ℕ
standing_text g l columns waits s =
    standing_cells g l columns waits s ++ codes "  " ++ standing_words s ++ codes "\n"

abbrev pub standing_waits : Standing → Bool
standing_waits s = waits_in s.state

-- Above a thread stands the number of its processor, or a bracket if the thread before it has the
-- same processor.
abbrev pub head_text : Glyphs → (width : ℕ) → (before : Option ℕ) → (cpu : ℕ) → List ℕ
head_text g width before cpu =
    if is_at before cpu then codes " " ++ repeat (width - 1) (encode_utf8 g.bracket)
    else right width (decimal cpu)

abbrev pub heads_text : Glyphs → (width : ℕ) → (before : Option ℕ) → List Column → List ℕ
heads_text g width before [] = []
heads_text g width before (c ∷ cs) = head_text g width before c.cpu ++
    heads_text g width (Some c.cpu) cs

abbrev pub ids_text : (width : ℕ) → List Column → List ℕ
ids_text width columns = flat_map (λ (c : Column). right width (thread_word c.id)) columns

abbrev pub heading : Glyphs → Layout → List Column → List ℕ
heading g l columns =
    right l.number (codes "cpu") ++ heads_text g l.cell None columns ++ codes "\n"
    ++ right l.number (codes "step") ++ ids_text l.cell columns ++ codes "\n"

-- Where the words of rows are left out, a line says what to do.
abbrev pub hint_text : Layout → List ℕ
hint_text l =
    if l.line == 0
    then codes "too wide for words: l4run chart FILE TRACE --threads ID,.. shows some threads\n"
    else []

-- Behind the rows come the lines of circles, as `--waits` prints them.
abbrev pub text_in : Glyphs → Layout → Drawn → List ℕ
text_in g l chart =
    heading g l chart.columns ++ flat_map (row_text g l chart.columns) chart.rows
    ++ flat_map (standing_text g l chart.columns (map standing_waits chart.standings))
    chart.standings ++ chart.circles ++ hint_text l

-- The text of a chart on a terminal of `width` columns.
abbrev pub text_of : Glyphs → (width : ℕ) → Drawn → List ℕ
text_of g width chart = text_in g (layout_of width chart.columns chart.rows) chart
