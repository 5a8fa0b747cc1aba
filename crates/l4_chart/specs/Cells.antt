-- What a row shows at each thread, and in front of its line.
use Rattle.std.specs.Prelude.{ℕ, ◌+◌, Bool, ◌==◌, ◌&&◌, nat_lt, nat_le, if◌then◌else◌, false, Option, Some, None, List, position}
use Rattle.l4_model.specs.Words.{GlobalId, same_id}
use Rattle.l4_chart.specs.declared.cells.Cell.{Cell}
use Rattle.l4_chart.specs.declared.cells.Gap.{Gap}
use Rattle.l4_chart.specs.declared.cells.Stroke.{Stroke}
use Rattle.l4_chart.specs.declared.cells.Stroke.TheVariants.{Dot, Shaft, Ticks}
use Rattle.l4_chart.specs.declared.columns.Column.{Column}
use Rattle.l4_chart.specs.declared.glyphs.Glyphs.{Glyphs}
use Rattle.l4_chart.specs.declared.marks.Kind.{Kind}
use Rattle.l4_chart.specs.declared.marks.Kind.TheVariants as kind
use Rattle.l4_chart.specs.declared.marks.Mark.{Mark}
use Rattle.l4_chart.specs.declared.marks.Mark.TheVariants.{Point, Arrow, Clock}

abbrev pub glyph_of : Glyphs → Kind → ℕ
glyph_of g kind.Local = g.local
glyph_of g kind.Begin = g.begin
glyph_of g kind.Queue = g.queue
glyph_of g kind.Wait = g.wait
glyph_of g kind.SendFailure = g.send_failure
glyph_of g kind.ReceiveFailure = g.receive_failure
glyph_of g kind.Order = g.order
glyph_of g kind.Obey = g.obey
glyph_of g kind.Retarget = g.retarget
glyph_of g kind.Ready = g.line
glyph_of g kind.Ended = g.ended
glyph_of g kind.Deleted = g.deleted

-- The same characters, where each arrow is a send that has not arrived.
abbrev pub opened : Glyphs → Glyphs
opened g = record g {
  shaft = g.open_shaft;
  right_head = g.open_right_head;
  left_head = g.open_left_head;
}

-- The same characters for the line of a thread that waits.
abbrev pub for_line : Glyphs → (waits : Bool) → Glyphs
for_line g waits = if waits then (record g { line = g.waiting_line }) else g

-- The place of a thread among the columns.
abbrev pub place_in : List Column → GlobalId → Option ℕ
place_in columns t = position (λ (c : Column). same_id c.id t) columns

abbrev pub stroke_of : List Column → Mark → Stroke
stroke_of columns (Point t kind) = Dot (place_in columns t) kind
stroke_of columns (Arrow sender receiver) = Shaft (place_in columns sender)
    (place_in columns receiver)
stroke_of columns (Clock cpu clock) = Ticks cpu clock

-- A gap that one character fills. A space is the character 32.
abbrev pub filled : ℕ → Gap
filled c = record { first = c; between = c; last = c }

abbrev pub blank : Gap
blank = filled 32

-- An arrow goes over the gaps between its two lines. Its head is next to the line of the receiver.
abbrev pub right_gap : Glyphs → (ends : Bool) → Gap
right_gap g ends = record {
  first = g.shaft;
  between = g.shaft;
  last = if ends then g.right_head
      else g.shaft;
}

abbrev pub left_gap : Glyphs → (ends : Bool) → Gap
left_gap g ends = record {
  first = if ends then g.left_head else g.shaft;
  between = g.shaft;
  last = g.shaft;
}

abbrev pub is_between : (from to place : ℕ) → Bool
is_between from to place = nat_lt from place && nat_le place to

abbrev pub arrow_gap : Glyphs → (from to place : ℕ) → Gap
arrow_gap g from to place =
    if is_between from to place then right_gap g (place == to)
    else (if is_between to from place then left_gap g (place == to + 1)
    else blank)

abbrev pub start_of : Glyphs → (from to : ℕ) → ℕ
start_of g from to = if nat_lt to from then g.left_start else g.right_start

abbrev pub crossed_line : Glyphs → (from to place : ℕ) → ℕ
crossed_line g from to place =
    if place == to then g.line
    else (if is_between from to place then g.cross
    else (if is_between to from place then g.cross
    else g.line))

abbrev pub arrow_line : Glyphs → (from to place : ℕ) → ℕ
arrow_line g from to place = if place == from then start_of g from to
    else crossed_line g from to place

-- If one end of an arrow is not shown, the head stands at the left of the other end.
abbrev pub arrow_cell : Glyphs → (from to : Option ℕ) → (place : ℕ) → Cell
arrow_cell g (Some from) (Some to) place = record {
  gap = arrow_gap g from to place;
  line = arrow_line g from to place;
}
arrow_cell g None (Some to) place =
    record {
      gap = if place == to then (record blank { last = g.right_head }) else blank;
      line = g.line;
    }
arrow_cell g (Some from) None place =
    record {
      gap = if place == from then (record blank { last = g.left_head }) else blank;
      line = if place == from then g.left_start else g.line;
    }
arrow_cell g None None place = record { gap = blank; line = g.line }

abbrev pub is_at : Option ℕ → ℕ → Bool
is_at None place = false
is_at (Some at) place = at == place

abbrev pub cell_of : Glyphs → Stroke → (place : ℕ) → Column → Cell
cell_of g (Dot at kind) place column = record {
  gap = blank;
  line = if is_at at place
      then glyph_of g kind else g.line;
}
cell_of g (Shaft from to) place column = arrow_cell g from to place
cell_of g (Ticks cpu clock) place column = record {
  gap = blank;
  line = if column.cpu == cpu
      then g.clock else g.line;
}
