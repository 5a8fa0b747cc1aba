-- What is printed behind the line of an audit.
use Rattle.std.proofs.Common.{◌≡◌, ℕ, Bool, true, false, Some, List, [], ◌++◌, length, ap, sym, ◌∙◌, append-nil}
use Rattle.std.specs.Prelude.{◌||◌, if◌then◌else◌}
use Rattle.l4_model.specs.History.{IsHistory, reached, view, waiting as undecided_sends}
use Rattle.l4_model.specs.Machine.{Machine}
use Rattle.l4_model.specs.Steps.{Step}
use Rattle.l4_model.specs.World.{World}
use Rattle.l4_reports.specs.ReportLines.{report_text}
use Rattle.l4_trace.specs.Lines.{IsTraceOf}
use Rattle.l4_jobs.specs.Audits.{HasPassed, IsPassed, passed_line, report_where, tells_refusals}
use Rattle.l4_jobs.specs.Extras.{behind}
use Rattle.l4_jobs.specs.declared.audits.PassedTrace.{PassedTrace}
use Rattle.l4_commands.specs.declared.job.Extras.{Extras}
use Rattle.l4_commands.specs.declared.job.Judged.{Judged}
use Rattle.l4_commands.specs.declared.job.TheConstants.{NO_EXTRAS}
use Rattle.l4_jobs.proofs.Spelled.{one_trace}

pub nothing_behind : (e : Extras) (m : Machine) (w : World) (h : List Step) (lines : List ℕ) → e ≡ NO_EXTRAS → lines ≡ lines ++ behind e m w h
nothing_behind e m w h lines none = sym (append-nil lines) ∙ ap (λ (x : Extras). lines ++ behind x m w h) (sym none)

pub passed_history : (m : Machine) (text : List ℕ) (p : PassedTrace) (h : List Step) → HasPassed m text p → IsTraceOf text h → IsHistory m h
passed_history m text p h passed reads = (passed.world, ap (reached m) (one_trace text h passed.steps reads passed.reads) ∙ passed.reaches)

line_is : (m : Machine) (text line : List ℕ) (p : PassedTrace) (passed : HasPassed m text p) → line ≡ passed_line p.steps p.ending →
    line ≡ passed_line (length passed.steps) p.ending
line_is m text line p passed is = is ∙ ap (λ (n : ℕ). passed_line n p.ending) passed.counted

-- No report is asked for.
unreported : (report explain : Bool) (line text : List ℕ) → (report || explain) ≡ false → line ≡ line ++ (if report then text else [])
unreported true explain line text none = absurd (let bad = none in cc)
unreported false explain line text none = sym (append-nil line)

no_report : (j : Judged) (m : Machine) (w : World) (h : List Step) (p : PassedTrace) (line : List ℕ) → tells_refusals j ≡ false →
    line ≡ line ++ report_where j.report m w h p.ending
no_report j m w h p line none = unreported j.report j.explain line (report_text (view m w) (undecided_sends m w h) p.ending) none

pub passed_behind : (j : Judged) (m : Machine) (text line all : List ℕ) (p : PassedTrace) (h : List Step) → tells_refusals j ≡ false → HasPassed m text p →
    line ≡ passed_line p.steps p.ending → IsTraceOf text h → ((w : World) → reached m h ≡ Some w → all ≡ line ++ behind j.extras m w h) →
    IsPassed j m text all
passed_behind j m text line all p h untold passed is reads added =
    let same = one_trace text h passed.steps reads passed.reads in
    record {
      steps = passed.steps;
      reads = passed.reads;
      world = passed.world;
      reaches = passed.reaches;
      ending = p.ending;
      quiet = passed.quiet;
      lines_are =
          added passed.world (ap (reached m) same ∙ passed.reaches) ∙ ap (λ g. line ++ behind j.extras m passed.world g) same
          ∙ ap (λ l. l ++ behind j.extras m passed.world passed.steps)
          (line_is m text line p passed is ∙ no_report j m passed.world passed.steps p (passed_line (length passed.steps) p.ending) untold);
    }
