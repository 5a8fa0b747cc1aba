-- What is written of an outcome of which a chart is drawn.
use Rattle.std.proofs.Common.{◌≡◌, ℕ, true, false, Option, Some, List, ◌++◌, ap, sym, ◌∙◌}
use Rattle.std.specs.Prelude.{is_none}
use Rattle.std.proofs.lemmas.Bool.{and_parts}
use Rattle.l4_model.specs.Machine.{Machine}
use Rattle.l4_model.specs.Steps.{Step}
use Rattle.l4_model.specs.World.{World}
use Rattle.l4_model.specs.History.{IsHistory, reached}
use Rattle.l4_chart.specs.Listings.{Listing, listing_of}
use Rattle.l4_chart.specs.Whole.{whole_text}
use Rattle.l4_chart.specs.declared.whole.TextForm.{TextForm}
use Rattle.l4_commands.specs.declared.job.Printed.{Printed}
use Rattle.l4_commands.specs.declared.job.TextChart.{TextChart}
use Rattle.l4_machine.specs.Outcomes.{Findings}
use Rattle.l4_jobs.specs.Extras.{behind}
use Rattle.l4_jobs.specs.Objects.{told}
use Rattle.l4_jobs.specs.Runs.{IsWritten, charted_or, lines_by}
use Rattle.l4_jobs.specs.Searches.{text_form}

pub charted : (printed : Printed) (chart : TextChart) (text : List ℕ) (m : Machine) (o : Findings) (listing : Listing) (form : TextForm) (h : List Step) (lines new : List ℕ) →
    printed.chart ≡ Some chart → IsHistory m o.history → h ≡ o.history → listing ≡ listing_of text → form ≡ text_form chart → lines ≡ whole_text m listing h form →
    ((w : World) → reached m h ≡ Some w → new ≡ lines ++ told printed.json (behind printed.extras m w h)) → IsWritten printed text m o new
charted printed chart text m o listing form h lines new some history same is form_is lines_are behind_is =
    let w = history.0 in
    let rest = λ (xs : List Step). told printed.json (behind printed.extras m w xs) in
    record {
      world = w;
      reaches = history.1;
      lines_are =
          behind_is w (ap (reached m) same ∙ history.1)
          ∙ ap (λ (ls : List ℕ). ls ++ rest h)
          (lines_are ∙ ap (λ (l : Listing). whole_text m l h form) is ∙ ap (λ (f : TextForm). whole_text m (listing_of text) h f) form_is
          ∙ ap (λ (xs : List Step). whole_text m (listing_of text) xs (text_form chart)) same)
          ∙ ap (λ (xs : List Step). whole_text m (listing_of text) o.history (text_form chart) ++ rest xs) same
          ∙ ap (λ (c : Option TextChart). charted_or c text m o (lines_by printed.report printed.json text m o) ++ rest o.history) (sym some);
      spelled = λ prints. absurd (let bad : false ≡ true = sym (ap is_none some) ∙ (and_parts _ _ prints).1 in cc);
    }
