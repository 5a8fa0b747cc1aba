-- What may be done behind the entries of a session, and the lines that tell it.
use Rattle.std.specs.Prelude.{ℕ, ◌+◌, Option, Some, None, List, [], ◌∷◌, ◌++◌, codes, decimal, map}
use Rattle.l4_model.specs.Machine.{Machine}
use Rattle.l4_model.specs.Steps.{Step}
use Rattle.l4_core_model.specs.Schedules.{Entry, replay_entries}
use Rattle.l4_next.specs.Nexts.{Next, next_by, nexts}
use Rattle.l4_schedules.specs.Items.{item_of}
use Rattle.l4_trace.specs.Lines.{trace_of}

-- What an entry does behind these, where it can be done, and the steps that it tells.

abbrev pub next_behind : Machine → List Entry → Entry → Option Next
next_behind m es e = next_by m (replay_entries m es).system e

abbrev pub steps_in : Option Next → List Step
steps_in None = []
steps_in (Some next) = next.steps

-- The entries that are possible behind these, as `l4_next` tells them.
abbrev pub possible : Machine → List Entry → List Entry
possible m es = map (λ (next : Next). next.entry) (nexts m (replay_entries m es).system)

-- The item of an entry, and the lines of its steps.
abbrev pub event_text : Machine → List Entry → Entry → List ℕ
event_text m es e = item_of e ++ codes "\n" ++ trace_of (steps_in (next_behind m es e))

-- Each entry that is possible has a number, from 1 on.

abbrev pub choice_text : Machine → List Entry → (number : ℕ) → Entry → List ℕ
choice_text m es number e =
    codes "next " ++ decimal number ++ codes " " ++ event_text m es e

abbrev pub choices_from : Machine → List Entry → (number : ℕ) → List Entry → List ℕ
choices_from m es number [] = []
choices_from m es number (e ∷ others) =
    choice_text m es number e ++ choices_from m es (number + 1) others

abbrev pub choices_of : Machine → List Entry → List Entry → List ℕ
choices_of m es [] = codes "nothing is possible\n"
choices_of m es (e ∷ others) = choices_from m es 1 (e ∷ others)

abbrev pub choices_text : Machine → List Entry → List ℕ
choices_text m es = choices_of m es (possible m es)
