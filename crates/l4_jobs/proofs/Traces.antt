-- A printed trace passes its audit.
use Rattle.std.proofs.Common.{◌≡◌, ℕ, Some, List, ◌++◌, length, refl, ap, sym, ◌∙◌, append-nil}
use Rattle.l4_model.specs.History.{reached}
use Rattle.l4_model.specs.Machine.{Machine}
use Rattle.l4_model.specs.Steps.{Step}
use Rattle.l4_model.specs.World.{World, opening}
use Rattle.l4_json.specs.Lines.{lines_told}
use Rattle.l4_json.specs.Scripts.{script_lines}
use Rattle.l4_json.specs.Steps.{steps_text}
use Rattle.l4_json.proofs.Reading.{steps_told}
use Rattle.l4_machine.specs.Outcomes.{Findings, IsTrueOf}
use Rattle.l4_trace.specs.Lines.{IsTraceOf, trace_of}
use Rattle.l4_types.specs.declared.reports.Ending.{Ending}
use Rattle.l4_commands.specs.declared.job.TheConstants.{TRACE_ALONE}
use Rattle.l4_jobs.specs.Audits.{passed_line, report_where}
use Rattle.l4_jobs.specs.Extras.{behind}
use Rattle.l4_jobs.specs.Runs.{IsWritten}
use Rattle.l4_jobs.specs.Traces.{IsTraceThatPasses, objects_alone, plain}

-- An audit without options tells nothing behind its line.
nothing_told : (m : Machine) (w : World) (h : List Step) (ending : Ending) →
    passed_line (length h) ending ≡ passed_line (length h) ending ++ report_where plain.report m w h ending ++ behind plain.extras m w h
nothing_told m w h ending =
    let line = passed_line (length h) ending in sym (append-nil line) ∙ sym (append-nil (line ++ report_where plain.report m w h ending))

-- Lines that spell a history which leads to a world pass its audit.
spelled_passes : (m : Machine) (o : Findings) (lines : List ℕ) (world : World) → reached m o.history ≡ Some world → IsTraceOf lines o.history → IsTraceThatPasses m o lines
spelled_passes m o lines world reaches spells = record {
  spells = spells;
  passes = λ ending quiet. record {
    steps = o.history;
    reads = spells;
    world = world;
    reaches = reaches;
    ending = ending;
    quiet = quiet world reaches;
    lines_are = nothing_told m world o.history ending;
  };
}

pub passes : (text : List ℕ) (m : Machine) (o : Findings) (lines : List ℕ) → IsTrueOf m o → IsWritten TRACE_ALONE text m o lines → IsTraceThatPasses m o lines
passes text m o lines is_true written =
    spelled_passes m o lines written.world written.reaches (written.spelled refl, sym (written.lines_are ∙ append-nil (trace_of o.history)))

-- The objects of a trace tell its lines.
pub objects_pass : (text : List ℕ) (m : Machine) (o : Findings) (lines : List ℕ) → IsTrueOf m o → IsWritten objects_alone text m o lines →
    IsTraceThatPasses m o (lines_told lines)
objects_pass text m o lines is_true written =
    let objects : lines ≡ steps_text m (script_lines text) (opening m) o.history = written.lines_are ∙ append-nil (steps_text m (script_lines text) (opening m) o.history) in
    let same : lines_told lines ≡ trace_of o.history = ap lines_told objects ∙ steps_told m (script_lines text) (opening m) o.history in
    spelled_passes m o (lines_told lines) written.world written.reaches (written.spelled refl, sym same)
