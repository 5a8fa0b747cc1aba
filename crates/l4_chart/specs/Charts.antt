-- What a chart of a history is: threads under their processors, a row for each step, and behind the
-- last of them what each thread is in.
use Rattle.std.specs.Prelude.{ℕ, ◌==◌, Bool, true, false, ◌&&◌, ◌||◌, not, nat_le, if◌then◌else◌, Option, Some, None, is_none, List, [], filter, filter_map, flat_map, map, take}
use Rattle.std.specs.List.{list_any, range_with_len}
use Rattle.l4_model.specs.Words.{GlobalId, same_id}
use Rattle.l4_model.specs.Machine.{Machine, Declaration}
use Rattle.l4_model.specs.Steps.{Step, Local, Order}
use Rattle.l4_model.specs.World.{World, opening}
use Rattle.l4_types.specs.StepView.{seen}
use Rattle.l4_waits.specs.Lines.{circles_text}
use Rattle.l4_chart.specs.Listings.{Listing}
use Rattle.l4_chart.specs.Standings.{standings_in}
use Rattle.l4_chart.specs.Told.{Told, Watched, told_of, world_behind}
use Rattle.l4_chart.specs.Windows.{Part}
use Rattle.l4_chart.specs.Marks.{mark_of}
use Rattle.l4_chart.specs.declared.chart.Chart.{Chart}
use Rattle.l4_chart.specs.declared.chart.Row.{Row}
use Rattle.l4_chart.specs.declared.standings.Standing.{Standing}
use Rattle.l4_chart.specs.declared.columns.Column.{Column}
use Rattle.l4_chart.specs.declared.marks.Mark.{Mark}
use Rattle.l4_chart.specs.declared.marks.Mark.TheVariants.{Point, Arrow, Clock}

abbrev pub is_chosen : Option (List GlobalId) → GlobalId → Bool
is_chosen None t = true
is_chosen (Some threads) t = list_any (λ chosen. same_id chosen t) threads

-- The chosen threads of a processor, in order of declaration.
abbrev pub column_on : Option (List GlobalId) → (cpu : ℕ) → Declaration → Option Column
column_on threads cpu d =
    if d.cpu == cpu && is_chosen threads d.id then Some (record { id = d.id; cpu = cpu }) else None

abbrev pub columns_on : Machine → Option (List GlobalId) → (cpu : ℕ) → List Column
columns_on m threads cpu = filter_map (column_on threads cpu) m.threads

-- The chosen threads under their processors, the lowest-numbered first.
abbrev pub columns_of : Machine → Option (List GlobalId) → List Column
columns_of m threads = flat_map (columns_on m threads) (range_with_len 0 m.cpus)

-- Whether a mark stands at a chosen thread. A clock does if its processor has such a thread, or if
-- all threads are shown.
abbrev pub concerns : Option (List GlobalId) → List Column → Mark → Bool
concerns threads columns (Point t kind) = is_chosen threads t
concerns threads columns (Arrow sender receiver) = is_chosen threads sender ||
    is_chosen threads receiver
concerns threads columns (Clock cpu clock) = is_none threads ||
    list_any (λ (c : Column). c.cpu == cpu) columns

-- An order concerns its target too.
abbrev pub is_of_target : Option (List GlobalId) → Step → Bool
is_of_target threads (Order caller target what) = is_chosen threads target
is_of_target threads _ = false

-- A step that concerns its thread alone.
abbrev pub is_local : Step → Bool
is_local (Local t) = true
is_local _ = false

-- Whether a step is a row of this part of a chart. By its number it is seen where others are left out.
abbrev pub is_in : Part → List Column → Told → Bool
is_in part columns row =
    nat_le part.first row.number
    && (concerns part.threads columns (mark_of row.step) || is_of_target part.threads row.step)
    && not (part.folds && is_local row.step)

-- The steps of a history up to the last of a part, and the world that they lead to.

abbrev pub until_last : Part → List Step → List Step
until_last part h = take part.last h

abbrev pub last_world : Machine → Part → List Step → World
last_world m part h = world_behind m (opening m) (until_last part h)

-- Of all threads that are shown it is told whether they wait.
abbrev pub watched : Part → List Column → Watched
watched part columns = record { columns = columns; registers = part.registers }

-- The rows of a part of a history, with these columns and with those of its threads.

abbrev pub rows_with : Machine → Listing → Part → List Column → List Step → List Told
rows_with m listing part columns h =
    filter (is_in part columns) (told_of m listing (watched part columns) h)

abbrev pub rows_of : Machine → Listing → Part → List Step → List Told
rows_of m listing part h =
    rows_with m listing part (columns_of m part.threads) (until_last part h)

abbrev pub row_of : Row → Told
row_of r = record {
  number = r.number;
  step = seen r.step;
  to = r.to;
  at = r.at;
  changes = r.changes.items;
  waits = r.waits.items;
}

-- What stands in a chart: threads, rows, and what each thread is in behind the last of the steps, with
-- the circles of threads that wait for each other there.
pub record Drawn : Type 0 where
  pub columns : List Column
  pub rows : List Told
  pub standings : List Standing
  pub circles : List ℕ

abbrev pub chart_of : Machine → Listing → Part → List Step → Drawn
chart_of m listing part h = record {
  columns = columns_of m part.threads;
  rows = rows_of m listing part h;
  standings = standings_in m listing (last_world m part h) (columns_of m part.threads);
  circles = circles_text m (last_world m part h);
}

abbrev pub drawn_of : Chart → Drawn
drawn_of c = record {
  columns = c.columns.items;
  rows = map row_of c.rows.items;
  standings = c.standings.items;
  circles = c.circles.items;
}
