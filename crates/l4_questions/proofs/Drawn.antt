-- The chart of an ending, where one is asked for.
use Rattle.std.proofs.Common.{◌≡◌, ℕ, Option, Some, List, ap, sym, ◌∙◌}
use Rattle.std.specs.Option.{option_map}
use Rattle.l4_model.specs.Machine.{Machine}
use Rattle.l4_model.specs.Steps.{Step}
use Rattle.l4_chart.specs.Whole.{whole_text}
use Rattle.l4_questions.specs.Beside.{chart_as}
use Rattle.l4_questions.specs.Endings.{Ending}
use Rattle.l4_questions.specs.Printed.{chart_in}
use Rattle.l4_questions.specs.declared.beside.AskedChart.{AskedChart}

pub charted : (given : Option AskedChart) (asked : AskedChart) (e : Ending) (m : Machine) (h : List Step) (lines : List ℕ) →
    given ≡ Some asked → e.machine ≡ m → e.trace ≡ h → lines ≡ whole_text m asked.listing.now h asked.form →
    lines ≡ chart_in (option_map chart_as given) e
charted given asked e m h lines some machine trace is =
    is ∙ ap (λ (x : Machine). whole_text x asked.listing.now h asked.form) (sym machine)
    ∙ ap (λ (xs : List Step). whole_text e.machine asked.listing.now xs asked.form) (sym trace)
    ∙ ap (λ (o : Option AskedChart). chart_in (option_map chart_as o) e) (sym some)
