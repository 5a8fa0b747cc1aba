-- What is known of an ending while it is told.
use Rattle.std.specs.Prelude.{Bool, true, ℕ, if◌then◌else◌, List, [], ◌∷◌, Vec, filter_map, flat_map}
use Rattle.std.proofs.Common.{Global}
use Rattle.l4_model.specs.Words.{GlobalId}
use Rattle.l4_model.specs.Machine.{Machine}
use Rattle.l4_model.specs.History.{view}
use Rattle.l4_all_endings.specs.Tried.{LeadsToWorld}
use Rattle.l4_audit.specs.Inner.Auditing.{Auditing, waiting_send}
use Rattle.l4_audit.specs.declared.waits.Wait.{Wait}
use Rattle.l4_audit.specs.declared.waits.Wait.TheVariants.{Send, Arrival, Receive}
use Rattle.l4_endings.specs.Inner.Tried.{entries_from}
use Rattle.l4_explore.specs.Search.{Seen}
use Rattle.l4_futures.specs.Stuck.{names_one}
use Rattle.l4_futures.specs.Traces.{trace_along}
use Rattle.l4_replay.specs.declared.entries.Entry.{Entry}
use Rattle.l4_reports.specs.ReportLines.{report_text}
use Rattle.l4_states.specs.Endings.{entries_of}
use Rattle.l4_types.specs.declared.reports.Ending.TheVariants.{Quiet}
use Rattle.l4_questions.specs.Answers.{ending_after}
use Rattle.l4_questions.specs.Endings.{Ending}
use Rattle.l4_questions.specs.Placed.{placed_ending}

-- A thread with this wait may wait for ever.
abbrev pub is_stuck_wait : Wait → Bool
is_stuck_wait (Send to) = true
is_stuck_wait (Arrival to) = true
is_stuck_wait (Receive from) = names_one from

-- Those that do, of threads that wait.

abbrev pub stuck_by : GlobalId × Wait → List GlobalId
stuck_by waiting = if is_stuck_wait waiting.1 then waiting.0 ∷ [] else []

abbrev pub stuck_among : List (GlobalId × Wait) → List GlobalId
stuck_among waits = flat_map stuck_by waits

-- The report of the world that an audit has come to.
abbrev pub report_by : Auditing → List ℕ
report_by a =
    report_text (view a.at.machine a.at.world)
    (filter_map (waiting_send a.at.machine a.at.world) a.begun) Quiet

-- The ending that entries of a search of all worlds lead to.

abbrev pub IsLed : Machine → Vec ℕ Global → Type 0
IsLed m entries = LeadsToWorld m entries.items

abbrev pub led_ending : Machine → Vec ℕ Global → Ending
led_ending m entries = ending_after m (trace_along m entries.items)

-- The ending that those of a schedule lead to. Whatever they are, a replay of them comes to a world.

abbrev pub IsReplayed : Machine → Vec Entry Global → Type 0
IsReplayed m entries = Unit {0}

abbrev pub placed_by : Machine → Vec Entry Global → Ending
placed_by m entries = placed_ending m (entries_from entries.items)

-- The endings of states that a search has found, by their schedules.

abbrev pub ending_seen : Machine → Seen → Ending
ending_seen m s = ending_after m (trace_along m s.schedule)

abbrev pub placed_seen : Machine → Seen → Ending
placed_seen m s = placed_ending m (entries_of m s.schedule)
