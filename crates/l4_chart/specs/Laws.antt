-- What holds of every chart.
use Rattle.std.specs.Prelude.{ℕ, ◌≡◌, Bool, ◌==◌, ◌&&◌, ◌↔◌, Option, Some, List, filter, map}
use Rattle.std.specs.List.{enumerate_from}
use Rattle.l4_core_model.specs.Runs.{IsMachine}
use Rattle.l4_model.specs.Words.{GlobalId}
use Rattle.l4_model.specs.Machine.{Declaration, Machine}
use Rattle.l4_model.specs.History.{reached}
use Rattle.l4_model.specs.World.{Name, World}
use Rattle.l4_model.specs.Steps.{Step, Deliver}
use Rattle.l4_chart.specs.Charts.{columns_of, is_chosen, last_world, rows_of, until_last}
use Rattle.l4_chart.specs.Listings.{Listing}
use Rattle.l4_chart.specs.Marks.{mark_of}
use Rattle.l4_chart.specs.Told.{Told}
use Rattle.l4_chart.specs.Whole.{whole}
use Rattle.l4_chart.specs.Windows.{Part}
use Rattle.l4_chart.specs.declared.columns.Column.{Column}
use Rattle.l4_chart.specs.declared.marks.Mark.TheVariants.{Arrow}

-- The step delivers a send of `sender` to `receiver`.
pub record IsDelivery (step : Step) (sender receiver : GlobalId) : Type 0 where
  pub send : Name
  pub shown : GlobalId
  pub actual : GlobalId
  pub tag : ℕ
  pub words : List ℕ
  pub is : step ≡ Deliver send receiver shown actual tag words
  pub sent_by : send.thread ≡ sender

-- The arrows are exactly the deliveries, each from its sender to its receiver.
abbrev pub ArrowsAreDeliveries : Type 0
ArrowsAreDeliveries =
    (step : Step) (sender receiver : GlobalId) →
    (mark_of step ≡ Arrow sender receiver) ↔ IsDelivery step sender receiver

-- The rows of a chart of all of a history are its steps, counted from 1.
abbrev pub numbered_step : Told → ℕ × Step
numbered_step row = (row.number, row.step)

abbrev pub RowsAreSteps : Type 0
RowsAreSteps =
    (m : Machine) (listing : Listing) (registers : Bool) (h : List Step) →
    map numbered_step (rows_of m listing (whole registers h) h) ≡ enumerate_from 1 h

-- What threads are in is told of the world that the steps up to the last one lead to.
abbrev pub StandingsAreReached : Type 0
StandingsAreReached =
    (m : Machine) (part : Part) (h : List Step) (w : World) →
    reached m (until_last part h) ≡ Some w → last_world m part h ≡ w

abbrev pub column_of : Declaration → Column
column_of d = record { id = d.id; cpu = d.cpu }

-- Under each processor stand exactly those of its threads that are chosen, each once, in order
-- of declaration.
abbrev pub ColumnsAreThreads : Type 0
ColumnsAreThreads =
    (m : Machine) (threads : Option (List GlobalId)) (cpu : ℕ) → IsMachine m →
    filter (λ (c : Column). c.cpu == cpu) (columns_of m threads)
    ≡ map column_of (filter (λ (d : Declaration). d.cpu == cpu && is_chosen threads d.id) m.threads)
