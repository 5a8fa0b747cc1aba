-- What may happen next in a core run, and the lines that tell it.
use Rattle.std.specs.Prelude.{ℕ, ◌-◌, Bool, Option, Some, None, List, [], ◌∷◌, ◌++◌, filter_map, flat_map, map, codes}
use Rattle.std.specs.List.{list_all, range_with_len}
use Rattle.std.specs.Option.{option_map}
use Rattle.l4_model.specs.Machine.{Machine}
use Rattle.l4_model.specs.Steps.{Step}
use Rattle.l4_model.specs.Conditions.{◌>>=◌}
use Rattle.l4_core_model.specs.Runs.{System, happens}
use Rattle.l4_core_model.specs.Schedules.{Entry, entry_event}
use Rattle.l4_replay.specs.Entries.{fault_of, most_events}
use Rattle.l4_replay.specs.declared.fault.RunFault.{RunFault}
use Rattle.l4_schedules.specs.Items.{item_of}
use Rattle.l4_states.specs.Choices.{choice, choice_count}
use Rattle.l4_trace.specs.Lines.{has_line, trace_of}

-- What an entry does where it can be done: the entry, and the steps that are told of its event.
pub record Next : Type 0 where
  pub entry : Entry
  pub steps : List Step

abbrev pub next_by : Machine → System → Entry → Option Next
next_by m g entry =
    option_map (λ h. record { entry = entry; steps = h.event.steps })
    (entry_event m g entry >>= happens m g)

abbrev pub listed : Option Next → List Next
listed None = []
listed (Some next) = next ∷ []

-- Those of all choices that can be made, in the order of their numbers.

abbrev pub choices : Machine → (count : ℕ) → List Entry
choices m count = map (choice m) (range_with_len 0 count)

abbrev pub nexts : Machine → System → List Next
nexts m g = filter_map (next_by m g) (choices m (choice_count m))

-- The lines of each: its item behind the word `next`, and then its steps.

abbrev pub item_line : Entry → List ℕ
item_line entry = codes "next " ++ item_of entry ++ codes "\n"

abbrev pub next_text : Next → List ℕ
next_text next = item_line next.entry ++ trace_of next.steps

abbrev pub nexts_text : List Next → List ℕ
nexts_text nexts = flat_map next_text nexts

-- Each step has a line of its own.
abbrev pub are_spelled : List Next → Bool
are_spelled nexts = list_all (λ next. list_all has_line next.steps) nexts

-- Why there are none to tell. As many entries stand before them as there may be at all. Or this
-- entry, counted from 1, is the first that is none of the machine.
abbrev pub nexts_fault : Machine → List Entry → Option RunFault
nexts_fault m entries = fault_of (most_events - 1) m entries
