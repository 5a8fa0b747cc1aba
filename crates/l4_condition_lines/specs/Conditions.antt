-- Conditions of worlds by lines of a report.
use Rattle.std.specs.Prelude.{ℕ, Bool, false, ◌≡◌, Option, Some, List, ◌++◌, filter_map, flat_map, map, zip}
use Rattle.std.specs.List.{list_all}
use Rattle.std.specs.Option.{option_map}
use Rattle.l4_model.specs.Words.{GlobalId, Id}
use Rattle.l4_model.specs.Machine.{Machine}
use Rattle.l4_model.specs.World.{Name, Thread, World}
use Rattle.l4_model.specs.Steps.{Step}
use Rattle.l4_model.specs.History.{reached, view}
pub use Rattle.l4_expect.specs.Conditions.{may_be_judged}
use Rattle.l4_lines.specs.Lines.{has_line}
use Rattle.l4_reports.specs.ReportLines.{ending_line, thread_line, waiting_line}
use Rattle.l4_types.specs.declared.reports.Ending.{Ending}
use Rattle.l4_common_lines.specs.CommonLines.{report_at}

-- The undecided sends of a world with their destinations, in order of declaration of their threads.

abbrev pub send_in : GlobalId × Thread → Option (Name × Id)
send_in p =
    option_map (λ send. (record { thread = p.0; k = p.1.context.begun }, send.to)) p.1.send

abbrev pub sends_in : Machine → World → List (Name × Id)
sends_in m w = filter_map send_in (zip (map (λ d. d.id) m.threads) w.threads)

-- What a world tells on the way: the lines of a report but its last, which is that of an ending.
abbrev pub world_text : Machine → World → List ℕ
world_text m w = flat_map thread_line (view m w) ++ flat_map waiting_line (sends_in m w)

-- A world meets a condition where it tells each line that is asked for.
abbrev pub meets : Machine → (asked : List (List ℕ)) → World → Bool
meets m asked w = list_all (λ line. has_line line (world_text m w)) asked

-- A world that a history reaches tells the lines of the report of that history, but for that of its
-- ending.
abbrev pub TellsReport : Machine → Type 0
TellsReport m =
    (h : List Step) (w : World) (ending : Ending) (line : List ℕ) → reached m h ≡ Some w →
    has_line line (ending_line ending) ≡ false →
    has_line line (world_text m w) ≡ has_line line (report_at m h w ending)
