-- What is told of the world that an audit has come to.
use Rattle.std.specs.Prelude.{ℕ, ◌≡◌, ◌↔◌, true, List, ◌++◌, flat_map, filter_map, codes}
use Rattle.l4_model.specs.Machine.{Machine}
use Rattle.l4_model.specs.World.{World}
use Rattle.l4_model.specs.Steps.{Step}
use Rattle.l4_model.specs.History.{view}
use Rattle.l4_model.specs.Still.{IsStill}
use Rattle.l4_types.specs.declared.reports.Ending.{Ending}
use Rattle.l4_audit.specs.Audits.{is_quiet}
use Rattle.l4_audit.specs.Inner.Auditing.{Auditing, waiting_send}
use Rattle.l4_audit.specs.Possible.{possible}
use Rattle.l4_reports.specs.ReportLines.{report_text}
use Rattle.l4_trace.specs.Lines.{line_of}
use Rattle.l4_explain.specs.Reasons.{cause_text}
use Rattle.l4_explain.specs.declared.reasons.Cause.{Cause}

-- The line of a possible step, which is spelled as in a trace.
abbrev pub possible_line : Step → List ℕ
possible_line step = codes "possible " ++ line_of step

abbrev pub possible_text : Machine → World → List ℕ
possible_text m w = flat_map possible_line (possible m w)

-- Why a step is refused in a world, and which steps are possible there.
abbrev pub explanation : Machine → World → Cause → List ℕ
explanation m w c = cause_text c ++ possible_text m w

-- The report of the world, with this ending.
abbrev pub world_report : Auditing → Ending → List ℕ
world_report a ending =
    report_text (view a.at.machine a.at.world)
    (filter_map (waiting_send a.at.machine a.at.world) a.begun) ending

-- The report of a world ends quiet exactly if no step but a tick is possible there, now or after
-- any ticks.
abbrev pub Ends : Auditing → Ending → Type 0
Ends a ending = (is_quiet ending ≡ true) ↔ IsStill a.at.machine a.at.world
