-- Nothing is told of no lines, and what is printed where the steps of a history were told.
use Rattle.std.proofs.Common.{◌≡◌, ℕ, Bool, true, false, Option, None, List, [], ◌++◌, refl, ap, sym, ◌∙◌, append-nil}
use Rattle.std.specs.Prelude.{not}
use Rattle.std.specs.List.{list_all}
use Rattle.std.proofs.lemmas.Bool.{and_parts}
use Rattle.l4_model.specs.Machine.{Machine}
use Rattle.l4_model.specs.Steps.{Step}
use Rattle.l4_model.specs.World.{World}
use Rattle.l4_model.specs.History.{IsHistory}
use Rattle.l4_commands.specs.declared.job.Extras.{Extras}
use Rattle.l4_commands.specs.declared.job.Printed.{Printed}
use Rattle.l4_commands.specs.declared.job.TextChart.{TextChart}
use Rattle.l4_commands.specs.declared.job.TheConstants.{NO_EXTRAS}
use Rattle.l4_machine.specs.Outcomes.{Findings}
use Rattle.l4_trace.specs.Lines.{has_line, trace_of}
use Rattle.l4_jobs.specs.Extras.{behind}
use Rattle.l4_jobs.specs.Objects.{told, told_steps}
use Rattle.l4_jobs.specs.Runs.{IsWritten, charted_or, lines_by, report_of}

told_none : (json : Bool) → told json [] ≡ []
told_none true = refl
told_none false = refl

pub nothing_behind : (printed : Printed) (m : Machine) (w : World) (h : List Step) (lines : List ℕ) → printed.extras ≡ NO_EXTRAS →
    lines ≡ lines ++ told printed.json (behind printed.extras m w h)
nothing_behind printed m w h lines none =
    sym (append-nil lines)
    ∙ ap (λ (text : List ℕ). lines ++ text) (sym (told_none printed.json))
    ∙ ap (λ (e : Extras). lines ++ told printed.json (behind e m w h)) (sym none)

-- Steps that were told to one that heard none, where their trace is printed.
pub told_anew : (report are_printed : Bool) (old new : List ℕ) (history : List Step) → old ≡ [] →
    are_printed ≡ not report →
    (are_printed ≡ true → (new ≡ old ++ trace_of history) × (list_all has_line history ≡ true)) →
    report ≡ false → (new ≡ trace_of history) × (list_all has_line history ≡ true)
told_anew report are_printed old new history none is heard unreported =
    let told = heard (is ∙ ap not unreported) in
    (told.0 ∙ ap (λ (lines : List ℕ). lines ++ trace_of history) none, told.1)

lines_told : (report json : Bool) (text : List ℕ) (m : Machine) (o : Findings) (steps lines : List ℕ) →
    (report ≡ false → json ≡ false) → (report ≡ true → lines ≡ told json (report_of o)) →
    (report ≡ false → lines ≡ steps) →
    (report ≡ false → (steps ≡ trace_of o.history) × (list_all has_line o.history ≡ true)) →
    lines ≡ lines_by report json text m o
lines_told true json text m o steps lines in_lines report trace heard = report refl
lines_told false json text m o steps lines in_lines report trace heard =
    trace refl ∙ (heard refl).0 ∙ ap (λ (j : Bool). told_steps j text m o.history) (sym (in_lines refl))

unreported : (report : Bool) → not report ≡ true → report ≡ false
unreported false is = refl
unreported true is = let bad : false ≡ true = is in cc

-- What is printed of findings whose steps were told.
pub told_written : (printed : Printed) (text : List ℕ) (m : Machine) (o : Findings) (steps lines : List ℕ) →
    printed.chart ≡ None → printed.extras ≡ NO_EXTRAS → (printed.report ≡ false → printed.json ≡ false) →
    IsHistory m o.history → (printed.report ≡ true → lines ≡ told printed.json (report_of o)) →
    (printed.report ≡ false → lines ≡ steps) →
    (printed.report ≡ false → (steps ≡ trace_of o.history) × (list_all has_line o.history ≡ true)) →
    IsWritten printed text m o lines
told_written printed text m o steps lines no_chart no_extras in_lines history report trace heard =
    let by = lines_by printed.report printed.json text m o in
    let all = λ (chart : Option TextChart). charted_or chart text m o by in
    record {
      world = history.0;
      reaches = history.1;
      lines_are =
          lines_told printed.report printed.json text m o steps lines in_lines report trace heard
          ∙ ap all (sym no_chart)
          ∙ nothing_behind printed m history.0 o.history (all printed.chart) no_extras;
      spelled = λ prints. (heard (unreported printed.report (and_parts _ _ prints).0)).1;
    }
