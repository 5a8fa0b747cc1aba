-- Where the parts of a picture stand, in whole pixels.
use Rattle.std.specs.Prelude.{ℕ, ◌+◌, ◌-◌, ◌*◌, ◌/◌, ◌^◌, ◌==◌, count_by, max, min, Option, Some, None, List, length}
use Rattle.l4_chart.specs.Charts.{Drawn}
use Rattle.l4_chart.specs.Layouts.{widest}
use Rattle.l4_chart.specs.declared.columns.Column.{Column}
use Rattle.l4_chart.specs.declared.scene.Scene.{Scene}

-- From one thread to the next there are 72 pixels, or more if ids are long: 8 for each character,
-- and 16 besides.
abbrev pub column_step : (longest : ℕ) → ℕ
column_step longest = max (longest * 8 + 16) 72

-- A row for each step, for what each thread is in, and for each line of a circle. The byte of a line
-- end is 10.
abbrev pub lines_in : (text : List ℕ) → ℕ
lines_in text = count_by (λ byte. byte == 10) text

abbrev pub row_count : (steps standings circles : ℕ) → ℕ
row_count steps standings circles =
    min (min (steps + standings) (2 ^ 64 - 1) + circles) (2 ^ 64 - 1)

abbrev pub scene_of : List Column → (rows : ℕ) → Scene
scene_of columns rows = record {
  step = column_step (widest columns);
  columns = length columns;
  rows = rows;
}

abbrev pub scene_in : Drawn → Scene
scene_in chart =
    scene_of chart.columns
    (row_count (length chart.rows) (length chart.standings) (lines_in chart.circles))

-- The pixel that is `count` steps behind a start. What does not fit into 64 bits stands at the last
-- pixel.
abbrev pub at : (start step count : ℕ) → ℕ
at start step count = min (step * count + start) (2 ^ 64 - 1)

-- The sum of two pixels.
abbrev pub sum : (a b : ℕ) → ℕ
sum a b = min (a + b) (2 ^ 64 - 1)

-- The line of a thread is in the middle of its column, behind 64 pixels for the numbers.
abbrev pub column_x : Scene → (place : ℕ) → ℕ
column_x s place = at (min (64 + s.step / 2) (2 ^ 64 - 1)) s.step place

-- A row takes 24 pixels, below 56 for the heading.
abbrev pub row_y : (row : ℕ) → ℕ
row_y row = at 68 24 row

-- An arrow ends at the line of a thread, or at the edge if the thread is not shown.
abbrev pub end_x : Scene → Option ℕ → ℕ
end_x s (Some place) = column_x s place
end_x s None = 52

-- The right edge of the last thread. Behind it are 480 pixels for the words.
abbrev pub right_edge : Scene → ℕ
right_edge s = at 64 s.step s.columns

abbrev pub width_of : Scene → ℕ
width_of s = sum (right_edge s) 480

abbrev pub height_of : Scene → ℕ
height_of s = at 56 24 s.rows

-- The row below another.
abbrev pub next : (row : ℕ) → ℕ
next row = sum row 1
