-- How a chart is laid out on a terminal, in columns.
use Rattle.std.specs.Prelude.{ℕ, ◌+◌, ◌-◌, ◌*◌, ◌/◌, max, min, Option, Some, None, List, length, fold, decimal, slice_get}
use Rattle.l4_words.specs.Threads.{thread_word}
use Rattle.l4_chart.specs.Told.{Told}
use Rattle.l4_chart.specs.declared.columns.Column.{Column}
use Rattle.l4_chart.specs.declared.layout.Layout.{Layout}

-- The number of characters of the longest id.
abbrev pub widest : List Column → ℕ
widest columns = fold (λ most (c : Column). max most (length (thread_word c.id))) 0 columns

abbrev pub number_in : Option Told → ℕ
number_in None = 0
number_in (Some row) = row.number

abbrev pub last_number : List Told → ℕ
last_number rows = number_in (slice_get rows (length rows - 1))

-- A thread takes two columns more than the longest id, or up to 10 if that leaves 34 for the lines
-- of steps.
abbrev pub cell_width : (room count longest : ℕ) → ℕ
cell_width room count longest = max (longest + 2) (min ((room - 34) / max count 1) 10)

abbrev pub layout_with : (number room cell count : ℕ) → Layout
layout_with number room cell count = record {
  number = number;
  cell = cell;
  line = room - cell * count - 2;
}

abbrev pub layout_in : (number room count longest : ℕ) → Layout
layout_in number room count longest = layout_with number room (cell_width room count longest) count

-- Numbers take 4 columns or more.
abbrev pub layout_of : (width : ℕ) → List Column → List Told → Layout
layout_of width columns rows =
    let number = max (length (decimal (last_number rows))) 4 in
    layout_in number (width - number) (length columns) (widest columns)
