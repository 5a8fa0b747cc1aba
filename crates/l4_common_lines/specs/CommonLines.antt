-- Which lines reports have in common, of those that may be asked for.
use Rattle.std.specs.Prelude.{ℕ, Bool, ◌≡◌, Some, None, List, is_none}
use Rattle.std.specs.List.{list_all}
use Rattle.l4_model.specs.Machine.{Machine}
use Rattle.l4_model.specs.World.{World}
use Rattle.l4_model.specs.Steps.{Step}
use Rattle.l4_model.specs.History.{reached, view, waiting}
use Rattle.l4_expect.specs.Expected.{Expected}
use Rattle.l4_lines.specs.Lines.{has_line, line_fault}
use Rattle.l4_reports.specs.ReportLines.{report_text}
use Rattle.l4_types.specs.declared.reports.Ending.{Ending}

-- Each line that may be asked for is in both of these texts, or in neither.
abbrev pub HaveLinesInCommon : (one other : List ℕ) → Type 0
HaveLinesInCommon one other =
    (line : List ℕ) → line_fault line ≡ None → has_line line one ≡ has_line line other

-- The report of a world to which a history comes.
abbrev pub report_at : Machine → (h : List Step) → World → Ending → List ℕ
report_at m h w ending = report_text (view m w) (waiting m w h) ending

-- So it is of the reports of two worlds, whatever histories come to them.
abbrev pub ReportsHaveLinesInCommon : Machine → World → World → Type 0
ReportsHaveLinesInCommon m w v =
    (h k : List Step) (ending : Ending) → reached m h ≡ Some w → reached m k ≡ Some v →
    HaveLinesInCommon (report_at m h w ending) (report_at m k v ending)

-- Each of these expectations asks for a line that may be asked for.
abbrev pub may_be_asked : List Expected → Bool
may_be_asked expected = list_all (λ (e : Expected). is_none (line_fault e.asked)) expected
