-- What is printed of each ending beside its report.
use Rattle.std.specs.Prelude.{Bool, Option}
use Rattle.std.specs.Option.{option_map}
use Rattle.l4_chart.specs.Listings.{Listing}
use Rattle.l4_chart.specs.declared.whole.TextForm.{TextForm}
use Rattle.l4_questions.specs.declared.beside.AskedChart.{AskedChart as GivenChart}
use Rattle.l4_questions.specs.declared.beside.Shown.{Shown as GivenShown}

-- A chart of the history that leads to it, by the text of its machine.
pub record AskedChart : Type 0 where
  pub form : TextForm
  pub listing : Listing

-- A chart above the report, where one is asked for, and behind it who waits for whom.
pub record Shown : Type 0 where
  pub chart : Option AskedChart
  pub waits : Bool

abbrev pub chart_as : GivenChart → AskedChart
chart_as c = record { form = c.form; listing = c.listing.now }

abbrev pub shown_as : GivenShown → Shown
shown_as s = record { chart = option_map chart_as s.chart; waits = s.waits }
