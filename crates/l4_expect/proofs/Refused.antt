-- What is refused of a text of expectations is what no report has.
use Rattle.std.proofs.Common.{◌≡◌, ℕ, true, false, Some, None, List}
use Rattle.std.specs.Prelude.{Ok}
use Rattle.std.specs.List.{list_all}
use Rattle.l4_model.specs.Machine.{Machine}
use Rattle.l4_model.specs.World.{World}
use Rattle.l4_model.specs.Steps.{Step}
use Rattle.l4_model.specs.History.{reached, view, waiting}
use Rattle.l4_types.specs.declared.reports.Ending.{Ending}
use Rattle.l4_words.specs.Words.{words_in}
use Rattle.l4_lines.specs.Lines.{are_rest, has_line}
use Rattle.l4_reports.specs.ReportLines.{report_text}
use Rattle.l4_script.specs.Versions.{machine_of_text}
use Rattle.l4_script.proofs.SecondAcceptedTexts.{each_has_second_text}
use Rattle.l4_trace.specs.Lines as trace
use Rattle.l4_expect.specs.Judging.{wrong_asked}
use Rattle.l4_expect.specs.declared.judging.Scope.TheVariants.{OneRun}
use Rattle.l4_expect.proofs.Errors.{all_told}
use Rattle.l4_expect.proofs.Reached.{all_waiting, reached_keeps}
use Rattle.l4_expect.proofs.Told.{report_may}

pub none_refused : (text : List ℕ) (m : Machine) (h : List Step) (w : World) (ending : Ending) (asked : List ℕ) →
    machine_of_text text ≡ Ok m → list_all trace.has_line h ≡ true → reached m h ≡ Some w → are_rest (words_in asked) ≡ false →
    has_line asked (report_text (view m w) (waiting m w h) ending) ≡ true → wrong_asked OneRun asked ≡ None
none_refused text m h w ending asked read lines r some has =
    let its = (each_has_second_text text m read).1 in
    report_may asked (view m w) (waiting m w h) ending (all_told its.0 m h w its.2 r) (all_waiting m w h (reached_keeps its.0 m h w its.2 r) lines) some has
