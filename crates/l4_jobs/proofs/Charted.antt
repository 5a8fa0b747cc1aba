-- What the chart of a trace shows, from its parts.
use Rattle.std.proofs.Common.{◌≡◌, ℕ, Option, Ok, List, ap, subst, sym, ◌∙◌}
use Rattle.l4_model.specs.Words.{GlobalId}
use Rattle.l4_model.specs.Machine.{Machine}
use Rattle.l4_model.specs.Steps.{Step}
use Rattle.l4_model.specs.History.{IsHistory, refused_place}
use Rattle.l4_chart.specs.Charts.{Drawn, chart_of, until_last}
use Rattle.l4_chart.specs.Drawings.{IsDrawing}
use Rattle.l4_chart.specs.Listings.{Listing, listing_of}
use Rattle.l4_chart.specs.Windows.{Part, until_refused}
use Rattle.l4_chart.specs.declared.drawing.Form.{Form}
use Rattle.l4_trace.specs.Lines.{IsTraceOf}
use Rattle.l4_jobs.specs.Audits.{IsRefusedAt}
use Rattle.l4_jobs.specs.ChartJobs.{IsCharted, chosen_by, drawing_form, part_of, status_of_refused, text_width}
use Rattle.l4_commands.specs.declared.job.ChartJob.{ChartJob}

pub charted : (chart : ChartJob) (text : List ℕ) (m : Machine) (trace lines : List ℕ) (status : ℕ) (shown threads : Option (List GlobalId)) (steps : List Step) →
    chosen_by m chart ≡ Ok threads → shown ≡ threads → IsTraceOf trace steps → status ≡ status_of_refused (refused_place m steps) →
    IsDrawing (drawing_form chart.form) (text_width chart.width) (chart_of m (listing_of text) (until_refused (refused_place m steps) (part_of chart shown)) steps) lines →
    IsCharted chart text m trace lines status
charted chart text m trace lines status shown threads steps chosen same reads status_is drawn = record {
  threads = threads;
  chosen = chosen;
  steps = steps;
  reads = reads;
  drawn =
      subst
      (λ o. IsDrawing (drawing_form chart.form) (text_width chart.width) (chart_of m (listing_of text) (until_refused (refused_place m steps) (part_of chart o)) steps) lines)
      same drawn;
  status_is = status_is;
}

pub refused_is : (m : Machine) (trace : List ℕ) (steps : List Step) (refused : Option ℕ) → IsTraceOf trace steps →
    refused ≡ refused_place m steps → IsRefusedAt m trace refused
refused_is m trace steps refused reads is = (steps, reads, sym is)

-- The chart of a history up to its first step that is not possible.

pub history_is : (m : Machine) (h : List Step) (refused : Option ℕ) (all window : Part) → window ≡ until_refused refused all →
    ((part : Part) → IsHistory m (until_last (until_refused refused part) h)) → IsHistory m (until_last window h)
history_is m h refused all window is before = subst (λ w. IsHistory m (until_last w h)) (sym is) (before all)

pub drawn_is : (form : Form) (width : ℕ) (m : Machine) (text : List ℕ) (h : List Step) (refused : Option ℕ) (listing : Listing) (part all window : Part) (drawn : Drawn) (lines : List ℕ) →
    refused ≡ refused_place m h → listing ≡ listing_of text → all ≡ part → window ≡ until_refused refused all → drawn ≡ chart_of m listing window h → IsDrawing form width drawn lines →
    IsDrawing form width (chart_of m (listing_of text) (until_refused (refused_place m h) part) h) lines
drawn_is form width m text h refused listing part all window drawn lines place is same until chart shown =
    subst (λ d. IsDrawing form width d lines)
    (chart ∙ ap (λ l. chart_of m l window h) is
    ∙ ap (λ (w : Part). chart_of m (listing_of text) w h) (until ∙ ap (until_refused refused) same ∙ ap (λ (r : Option ℕ). until_refused r part) place))
    shown
