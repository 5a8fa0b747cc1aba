-- The report of a core run is that of its outcome.
use Rattle.std.proofs.Common.{◌≡◌, Bool, true, false, Some, refl, ap, sym, ◌∙◌}
use Rattle.l4_model.specs.Machine.{Machine}
use Rattle.l4_model.specs.World.{World}
use Rattle.l4_model.specs.History.{reached, waiting}
use Rattle.l4_core_model.specs.Runs.{Run, at_rest, told}
use Rattle.l4_types.specs.declared.reports.Ending.{Ending}
use Rattle.l4_types.specs.declared.reports.Ending.TheVariants.{Quiet, Spent}
use Rattle.l4_machine.specs.Outcomes.{Findings, IsOutcomeOf}
use Rattle.l4_reports.specs.ReportLines.{ending_at_rest, report_text}
use Rattle.l4_steps.specs.Replies.{report_in, report_of}

same_ending : (b : Bool) (e : Ending) → (e ≡ Quiet → b ≡ true) → (b ≡ true → e ≡ Quiet) → ending_at_rest b ≡ e
same_ending true e to from = sym (from refl)
same_ending false Quiet to from = let no = to refl in cc
same_ending false Spent to from = refl

pub report_is : (m : Machine) (r : Run) (o : Findings) → IsOutcomeOf m r o →
    report_of m r ≡ report_text o.threads o.waiting o.ending
report_is m r o is =
    let w : World = is.is_true.possible.0 in
    let there : reached m o.history ≡ Some w = is.is_true.possible.1 in
    let ending = ending_at_rest (at_rest m r.system) in
    ap (report_in m r) (ap (reached m) (sym is.history) ∙ there)
    ∙ ap (λ ts. report_text ts (waiting m w (told r.events)) ending) (sym (is.is_true.threads w there))
    ∙ ap (λ h. report_text o.threads (waiting m w h) ending) (sym is.history)
    ∙ ap (λ ws. report_text o.threads ws ending) (sym (is.is_true.waiting w there))
    ∙ ap (report_text o.threads o.waiting) (same_ending (at_rest m r.system) o.ending is.quiet.0 is.quiet.1)
