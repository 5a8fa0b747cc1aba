-- The lines that a world tells, thread by thread.
use Rattle.std.specs.Prelude.{ℕ, List, flat_map}
use Rattle.std.specs.Option.{option_to_list}
use Rattle.l4_model.specs.Words.{GlobalId}
use Rattle.l4_model.specs.World.{Thread}
use Rattle.l4_reports.specs.ReportLines.{waiting_line}
use Rattle.l4_condition_lines.specs.Conditions.{send_in}

-- The line of the undecided send of a thread, if it has one.
abbrev pub send_text : GlobalId → Thread → List ℕ
send_text id t = flat_map waiting_line (option_to_list (send_in (id, t)))
