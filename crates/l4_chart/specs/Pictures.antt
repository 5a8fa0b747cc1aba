-- A chart as a picture, an SVG file.
use Rattle.std.specs.Prelude.{ℕ, ◌+◌, ◌-◌, ◌*◌, ◌/◌, ◌^◌, ◌==◌, Bool, false, unwrap_or, slice_index_or, count_by, min, nat_lt, if◌then◌else◌, Option, Some, None, List, [], ◌∷◌, ◌++◌, codes, decimal, flat_map, length, position, take}
use Rattle.std.specs.List.{enumerate_from, range_with_len}
use Rattle.l4_json.specs.Lines.{all_but_last}
use Rattle.l4_words.specs.Lines.{parts_of}
use Rattle.l4_chart.specs.Cells.{is_at, stroke_of}
use Rattle.l4_chart.specs.Charts.{Drawn}
use Rattle.l4_chart.specs.Marks.{mark_of}
use Rattle.l4_chart.specs.Markup.{escaped}
use Rattle.l4_chart.specs.Scenes.{column_x, end_x, height_of, next, right_edge, row_y, scene_in, sum, width_of}
use Rattle.l4_chart.specs.Shapes.{class_of, outline_of}
use Rattle.l4_chart.specs.Standings.{standing_mark, standing_words}
use Rattle.l4_chart.specs.Told.{Told, row_words}
use Rattle.l4_chart.specs.declared.cells.Stroke.{Stroke}
use Rattle.l4_chart.specs.declared.cells.Stroke.TheVariants.{Dot, Shaft, Ticks}
use Rattle.l4_chart.specs.declared.columns.Column.{Column}
use Rattle.l4_chart.specs.declared.marks.Kind.{Kind}
use Rattle.l4_chart.specs.declared.marks.Kind.TheVariants as kind
use Rattle.l4_chart.specs.declared.scene.Scene.{Scene}
use Rattle.l4_chart.specs.declared.standings.Standing.{Standing}
use Rattle.l4_chart.specs.declared.svg.TheConstants.{STYLE}

-- A processor is a band behind its threads, from its first column on.

abbrev pub count_of_cpu : List Column → (cpu : ℕ) → ℕ
count_of_cpu columns cpu = count_by (λ (c : Column). c.cpu == cpu) columns

abbrev pub columns_width : Scene → (count : ℕ) → ℕ
columns_width s count = min (s.step * count) (2 ^ 64 - 1)

abbrev pub columns_start : Scene → (first : ℕ) → ℕ
columns_start s first = column_x s first - s.step / 2

unfoldable pub band_at : (x width height cpu : ℕ) → List ℕ
band_at x width height cpu =
    codes "<g><title>cpu " ++ decimal cpu
    ++ codes "</title><rect class=\"band\" x=\"" ++ decimal x
    ++ codes "\" y=\"4\" width=\"" ++ decimal width
    ++ codes "\" height=\"" ++ decimal height
    ++ codes "\" rx=\"6\"/><text class=\"cpu\" x=\"" ++ decimal (sum x (width / 2))
    ++ codes "\" y=\"22\">cpu " ++ decimal cpu ++ codes "</text></g>\n"

abbrev pub band : Scene → (first count cpu : ℕ) → List ℕ
band s first count cpu =
    band_at (sum (columns_start s first) 2) (columns_width s count - 4) (height_of s) cpu

-- A thread of the processor of the thread before it begins no band.
unfoldable pub new_band : Scene → (all : List Column) → (before : Option ℕ) → ℕ × Column → List ℕ
new_band s all before p =
    if is_at before p.1.cpu then []
    else band s p.0 (count_of_cpu all p.1.cpu) p.1.cpu

abbrev pub bands : Scene → (all : List Column) → (before : Option ℕ) → (place : ℕ) → List Column →
    List ℕ
bands s all before place [] = []
bands s all before place (c ∷ cs) =
    new_band s all before (place, c) ++ bands s all (Some c.cpu) (place + 1) cs

-- A thread is a line, with its id above.
unfoldable pub thread_at : (x end number version : ℕ) → List ℕ
thread_at x end number version =
    codes "<g><title>" ++ decimal number ++ codes "." ++ decimal version
    ++ codes "</title><path class=\"thread\" d=\"M" ++ decimal x
    ++ codes " 50V" ++ decimal end
    ++ codes "\"/><text class=\"id\" x=\"" ++ decimal x
    ++ codes "\" y=\"44\">" ++ decimal number ++ codes "." ++ decimal version
    ++ codes "</text></g>\n"

abbrev pub thread_line : Scene → ℕ × Column → List ℕ
thread_line s p = thread_at (column_x s p.0) (height_of s) p.1.id.number p.1.id.version

abbrev pub columns_picture : Scene → List Column → List ℕ
columns_picture s columns =
    bands s columns None 0 columns
    ++ flat_map (thread_line s) (enumerate_from 0 columns)

-- The mark of a step of one thread stands at the line of that thread.
unfoldable pub dot : (x y : ℕ) → Kind → List ℕ
dot x y kind =
    codes "<path class=\"" ++ class_of kind
    ++ codes "\" d=\"M" ++ decimal x ++ codes " " ++ decimal y ++ outline_of kind ++ codes "\"/>"

-- An arrow goes from one line to another. What stands so many pixels in front of its end is at the
-- left of an arrow to the right, and else at its right.
abbrev pub back : (from to way : ℕ) → ℕ
back from to way = if nat_lt from to then to - way else sum to way

unfoldable pub arrow : (from to y : ℕ) → List ℕ
arrow from to y =
    codes "<path class=\"arrow\" d=\"M" ++ decimal from ++ codes " " ++ decimal y
    ++ codes "H" ++ decimal to
    ++ codes "M" ++ decimal (back from to 8) ++ codes " " ++ decimal (y - 5)
    ++ codes "L" ++ decimal to ++ codes " " ++ decimal y
    ++ codes "L" ++ decimal (back from to 8) ++ codes " " ++ decimal (sum y 5) ++ codes "\"/>"

-- A clock is a line over the threads of its processor, with what it has become.
unfoldable pub clock_at : (start end clock y : ℕ) → List ℕ
clock_at start end clock y =
    codes "<path class=\"clock\" d=\"M" ++ decimal start ++ codes " " ++ decimal y
    ++ codes "H" ++ decimal end
    ++ codes "\"/><text class=\"time\" x=\"" ++ decimal (sum start 4)
    ++ codes "\" y=\"" ++ decimal (y - 4)
    ++ codes "\">" ++ decimal clock ++ codes "</text>"

unfoldable pub clock_over : Scene → (first : Option ℕ) → (count clock y : ℕ) → List ℕ
clock_over s None count clock y = []
clock_over s (Some first) count clock y =
    clock_at (columns_start s first) (sum (columns_start s first) (columns_width s count)) clock y

abbrev pub first_of_cpu : List Column → (cpu : ℕ) → Option ℕ
first_of_cpu columns cpu = position (λ (c : Column). c.cpu == cpu) columns

abbrev pub clock_line : Scene → List Column → (cpu clock y : ℕ) → List ℕ
clock_line s columns cpu clock y =
    clock_over s (first_of_cpu columns cpu) (count_of_cpu columns cpu) clock y

abbrev pub stroke_picture : Scene → List Column → Stroke → (y : ℕ) → List ℕ
stroke_picture s columns (Dot at kind) y = dot (end_x s at) y kind
stroke_picture s columns (Shaft from to) y = arrow (end_x s from) (end_x s to) y
stroke_picture s columns (Ticks cpu clock) y = clock_line s columns cpu clock y

-- A row has its words, and what changes in registers, as title. Beside its mark stand its number,
-- and the first 60 characters of its words.

abbrev pub row_class : Stroke → List ℕ
row_class (Dot at kind.SendFailure) = codes "row failure"
row_class (Dot at kind.ReceiveFailure) = codes "row failure"
row_class _ = codes "row"

unfoldable pub title : (class words changes : List ℕ) → List ℕ
title class words changes =
    codes "<g class=\"" ++ class ++ codes "\"><title>" ++ words ++ changes ++ codes "</title>"

-- What of a row is pointed at.
unfoldable pub hit : (top width : ℕ) → List ℕ
hit top width =
    codes "<rect class=\"hit\" y=\"" ++ decimal top ++ codes "\" width=\"" ++ decimal width
    ++ codes "\" height=\"24\"/>"

unfoldable pub number_at : (base number : ℕ) → List ℕ
number_at base number =
    codes "<text class=\"number\" x=\"48\" y=\"" ++ decimal base ++ codes "\">" ++ decimal number
    ++ codes "</text>"

unfoldable pub words_at : (x base : ℕ) → (words : List ℕ) → List ℕ
words_at x base words =
    codes "<text x=\"" ++ decimal x ++ codes "\" y=\"" ++ decimal base ++ codes "\">" ++ words
    ++ codes "</text>"

abbrev pub row_hit : Scene → (row : ℕ) → List ℕ
row_hit s row = hit (row_y row - 12) (width_of s)

abbrev pub words_in : Scene → (row : ℕ) → (words : List ℕ) → List ℕ
words_in s row words = words_at (sum (right_edge s) 12) (sum (row_y row) 4) words

abbrev pub row_picture : Scene → List Column → ℕ × Told → List ℕ
row_picture s columns p =
    title (row_class (stroke_of columns (mark_of p.1.step))) (escaped (row_words p.1))
    (escaped p.1.changes)
    ++ row_hit s p.0 ++ number_at (sum (row_y p.0) 4) p.1.number
    ++ stroke_picture s columns (stroke_of columns (mark_of p.1.step)) (row_y p.0)
    ++ words_in s p.0 (escaped (take 60 (row_words p.1))) ++ codes "</g>\n"

-- Behind the last step a row has all of its words as text.
abbrev pub behind : Scene → (class words : List ℕ) → (row : ℕ) → List ℕ
behind s class words row =
    title class (escaped words) [] ++ row_hit s row ++ words_in s row (escaped words)

-- A send that has not arrived ends in front of its receiver.
unfoldable pub open_arrow : (from to y : ℕ) → List ℕ
open_arrow from to y =
    codes "<path class=\"open\" d=\"M" ++ decimal from ++ codes " " ++ decimal y
    ++ codes "H" ++ decimal (back from to 18)
    ++ codes "\"/><path class=\"lost\" d=\"M" ++ decimal (back from to 18)
    ++ codes " " ++ decimal (y - 5)
    ++ codes "L" ++ decimal (back from to 8) ++ codes " " ++ decimal y
    ++ codes "L" ++ decimal (back from to 18) ++ codes " " ++ decimal (sum y 5) ++ codes "z\"/>"

abbrev pub open_stroke : Scene → Stroke → (y : ℕ) → List ℕ
open_stroke s (Dot at kind) y = dot (end_x s at) y kind
open_stroke s (Shaft from to) y = open_arrow (end_x s from) (end_x s to) y
open_stroke s (Ticks cpu clock) y = []

abbrev pub standing_picture : Scene → List Column → (row : ℕ) → Standing → List ℕ
standing_picture s columns row standing =
    behind s (codes "row state") (standing_words standing) row
    ++ open_stroke s (stroke_of columns (standing_mark standing)) (row_y row) ++ codes "</g>\n"

abbrev pub standings_picture : Scene → List Column → (row : ℕ) → List Standing → List ℕ
standings_picture s columns row [] = []
standings_picture s columns row (x ∷ xs) =
    standing_picture s columns row x ++ standings_picture s columns (next row) xs

abbrev pub circle_picture : Scene → (row : ℕ) → (line : List ℕ) → List ℕ
circle_picture s row line = behind s (codes "row circle") line row ++ codes "</g>\n"

abbrev pub circles_picture : Scene → (row : ℕ) → (lines : List (List ℕ)) → List ℕ
circles_picture s row [] = []
circles_picture s row (line ∷ lines) =
    circle_picture s row line ++ circles_picture s (next row) lines

-- A line between the last step and what threads are in.
unfoldable pub border : (y width : ℕ) → List ℕ
border y width =
    codes "<path class=\"behind\" d=\"M0 " ++ decimal y ++ codes "H" ++ decimal width
    ++ codes "\"/>\n"

unfoldable pub behind_rows : Scene → List Column → (steps : ℕ) → List Standing → (circles : List ℕ) →
    List ℕ
behind_rows s columns steps standings circles =
    border (row_y steps - 12) (width_of s) ++ standings_picture s columns steps standings
    ++ circles_picture s (sum steps (length standings)) (all_but_last (parts_of circles))

-- The line of a thread is another one from the row behind which it waits to that behind which it does
-- not any more, or to the first one behind the last step.

unfoldable pub wait_at : (x start end : ℕ) → List ℕ
wait_at x start end =
    codes "<path class=\"waits\" d=\"M" ++ decimal x ++ codes " " ++ decimal start
    ++ codes "V" ++ decimal end ++ codes "\"/>\n"

abbrev pub wait_line : Scene → (place : ℕ) → (since : Option ℕ) → (row : ℕ) → List ℕ
wait_line s place None row = []
wait_line s place (Some first) row = wait_at (column_x s place) (row_y first) (row_y row)

abbrev pub ended_wait : Scene → (place : ℕ) → (since : Option ℕ) → (row : ℕ) → (waits : Bool) →
    List ℕ
ended_wait s place since row waits = if waits then [] else wait_line s place since row

abbrev pub waits_since : (since : Option ℕ) → (row : ℕ) → (waits : Bool) → Option ℕ
waits_since since row waits = if waits then Some (unwrap_or since row) else None

abbrev pub waits_from : Scene → (place : ℕ) → (since : Option ℕ) → (row : ℕ) → List Told → List ℕ
waits_from s place since row [] = wait_line s place since row
waits_from s place since row (told ∷ rows) =
    let waits = slice_index_or told.waits place false in
    ended_wait s place since row waits
    ++ waits_from s place (waits_since since row waits) (row + 1) rows

abbrev pub waits_picture : Scene → (count : ℕ) → List Told → List ℕ
waits_picture s count rows =
    flat_map (λ place. waits_from s place None 0 rows) (range_with_len 0 count)

abbrev pub rows_picture : Scene → Drawn → List ℕ
rows_picture s chart =
    waits_picture s (length chart.columns) chart.rows
    ++ flat_map (row_picture s chart.columns) (enumerate_from 0 chart.rows)
    ++ behind_rows s chart.columns (length chart.rows) chart.standings chart.circles

unfoldable pub picture_begin : (width height : ℕ) → List ℕ
picture_begin width height =
    codes "<svg xmlns=\"http://www.w3.org/2000/svg\" width=\"" ++ decimal width
    ++ codes "\" height=\"" ++ decimal height
    ++ codes "\" viewBox=\"0 0 " ++ decimal width ++ codes " " ++ decimal height
    ++ codes "\">\n<style>\n" ++ STYLE.now
    ++ codes "</style>\n<rect class=\"paper\" width=\"" ++ decimal width
    ++ codes "\" height=\"" ++ decimal height ++ codes "\"/>\n"

abbrev pub picture_in : Scene → Drawn → List ℕ
picture_in s chart =
    picture_begin (width_of s) (sum (height_of s) 8) ++ columns_picture s chart.columns
    ++ rows_picture s chart ++ codes "</svg>\n"

abbrev pub picture_of : Drawn → List ℕ
picture_of chart = picture_in (scene_in chart) chart
