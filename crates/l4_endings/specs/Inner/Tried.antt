-- What a search tries of a machine.
use Rattle.std.specs.Prelude.{ℕ, ◌+◌, ◌<◌, ◌≤◌, ◌≡◌, Bool, true, Option, None, Some, List, [], ◌∷◌, ◌++◌, Vec, map}
use Rattle.std.proofs.Common.{Global}
use Rattle.l4_model.specs.Machine.{Machine}
use Rattle.l4_core_model.specs.Runs.{IsMachine}
use Rattle.l4_core_model.specs.Schedules.{Entry}
use Rattle.l4_explore.specs.Tries.{State, Next, LeadsOn, AreSchedules}
use Rattle.l4_explore.specs.Search.{Seen}
use Rattle.l4_replay.specs.Entries.{entry_from}
use Rattle.l4_replay.specs.declared.entries.Entry as code
use Rattle.l4_states.specs.Choices.{state_after}
use Rattle.l4_states.proofs.Following.{are_schedules}
use Rattle.l4_persistent.specs.Inner.Ends.{AreOfSet}
use Rattle.l4_persistent.specs.Rests.{processor_of}
use Rattle.l4_sets.specs.Inner.Sets.{has}

-- Lists of choices are schedules as a search needs them.
pub schedules : (m : Machine) → IsMachine m → AreSchedules (state_after m)
schedules m machine = are_schedules m machine

-- All entries from `from` up to `below` that are inside of a set and lead on from a schedule, in
-- rising order.
abbrev pub AreUpTo : (state_of : List ℕ → Option State) (inside : ℕ → Bool) (s : List ℕ)
    (from below : ℕ) → List Next → Type 0
AreUpTo state_of inside s from below [] =
    (e : ℕ) → inside e ≡ true → from ≤ e → e < below → state_of (s ++ e ∷ []) ≡ None
AreUpTo state_of inside s from below (n ∷ ns) =
    ((n.entry < below) × (inside n.entry ≡ true))
    × LeadsOn state_of s from n
    × ((e : ℕ) → inside e ≡ true → from ≤ e → e < n.entry → state_of (s ++ e ∷ []) ≡ None)
    × AreUpTo state_of inside s (n.entry + 1) below ns

-- Choices of the processors of a set
abbrev pub is_of : Machine → (set number : ℕ) → Bool
is_of m set number = has set (processor_of m number)

-- The choices are those of a persistent set of the state that a schedule leads to.
abbrev pub AreOffered : Machine → (s : List ℕ) → List Next → Type 0
AreOffered m s choices =
    (before : List Seen) (seen : Seen) → seen.schedule ≡ s → state_after m s ≡ Some seen.state →
    AreOfSet m before seen choices

abbrev pub entries_from : List code.Entry → List Entry
entries_from entries = map entry_from entries

abbrev pub told : List (Vec code.Entry Global) → List (List Entry)
told endings = map (λ e. entries_from e.items) endings
