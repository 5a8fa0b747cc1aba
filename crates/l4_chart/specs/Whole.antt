-- The chart of a whole history as text.
use Rattle.std.specs.Prelude.{ℕ, Bool, false, if◌then◌else◌, None, List, length}
use Rattle.l4_model.specs.Machine.{Machine}
use Rattle.l4_model.specs.Steps.{Step}
use Rattle.l4_chart.specs.Charts.{chart_of}
use Rattle.l4_chart.specs.Listings.{Listing}
use Rattle.l4_chart.specs.Texts.{text_of}
use Rattle.l4_chart.specs.Windows.{Part}
use Rattle.l4_chart.specs.declared.glyphs.Glyphs.{Glyphs}
use Rattle.l4_chart.specs.declared.glyphs.TheConstants.{LINES, ASCII}
use Rattle.l4_chart.specs.declared.whole.TextForm.{TextForm}

abbrev pub glyphs_of : TextForm → Glyphs
glyphs_of form = if form.is_ascii then ASCII else LINES

-- All of a history, with all threads and all steps.
abbrev pub whole : (registers : Bool) → List Step → Part
whole registers h = record {
  first = 1;
  last = length h;
  threads = None;
  registers = registers;
  folds = false;
}

abbrev pub whole_text : Machine → Listing → List Step → TextForm → List ℕ
whole_text m listing h form =
    text_of (glyphs_of form) form.width
    (chart_of m listing (whole form.has_registers h) h)
