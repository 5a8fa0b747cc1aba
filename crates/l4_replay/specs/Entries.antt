-- How many turns a run has, and which schedules a machine has.
use Rattle.std.specs.Prelude.{ℕ, ◌+◌, ◌==◌, ◌&&◌, ◌||◌, nat_lt, Bool, if◌then◌else◌, Option, Some, None, List, [], ◌∷◌, length, map}
use Rattle.std.specs.Option.{option_map}
use Rattle.l4_model.specs.Machine.{Machine}
use Rattle.l4_model.specs.Words.{clock_limit}
use Rattle.l4_model.specs.Conditions.{◌>>=◌}
use Rattle.l4_core_model.specs.Runs.{Run, happens}
use Rattle.l4_core_model.specs.Schedules.{numbered, or_stays, Entry, TurnOf, TickOf, LetterOf, CoreOf, TickTo, entry_event}
use Rattle.l4_replay.specs.declared.entries.Entry as code
use Rattle.l4_replay.specs.declared.entries.Entry.TheVariants as variant
use Rattle.l4_replay.specs.declared.fault.RunFault.{RunFault}
use Rattle.l4_replay.specs.declared.fault.RunFault.TheVariants.{Turns, Schedule}

-- A run has at most this many turns, and a schedule of numbers at most this many entries.
abbrev pub most_turns : ℕ
most_turns = 1000000

abbrev pub most_entries : ℕ
most_entries = 1000000

-- A list of entries has at most as many as the longest run has events, on as many processors as
-- there may be.
abbrev pub most_events : ℕ
most_events = 1000015

-- A run has at least one turn.
abbrev pub turns_fault : (turns : ℕ) → Option RunFault
turns_fault turns = if turns == 0 || nat_lt most_turns turns then Some Turns else None

-- Entries of the program as entries, and the processor of an entry.

abbrev pub entry_from : code.Entry → Entry
entry_from (variant.Turn cpu) = TurnOf cpu
entry_from (variant.Tick cpu) = TickOf cpu
entry_from (variant.Letter cpu from) = LetterOf cpu from
entry_from (variant.Core cpu) = CoreOf cpu
entry_from (variant.TickTo cpu clock) = TickTo cpu clock

abbrev pub processor_of : Entry → ℕ
processor_of (TurnOf cpu) = cpu
processor_of (TickOf cpu) = cpu
processor_of (LetterOf cpu from) = cpu
processor_of (CoreOf cpu) = cpu
processor_of (TickTo cpu clock) = cpu

-- What an entry makes of a run.
abbrev pub after_entry : Entry → Machine → Run → Run
after_entry entry m r = or_stays r (entry_event m r.system entry >>= happens m r.system)

-- An entry is one of a machine of `cpus` processors: the machine has its processor and that of its
-- letter, and a clock may go on to its value.
abbrev pub is_entry_of : (cpus : ℕ) → Entry → Bool
is_entry_of cpus (TurnOf cpu) = nat_lt cpu cpus
is_entry_of cpus (TickOf cpu) = nat_lt cpu cpus
is_entry_of cpus (LetterOf cpu from) = nat_lt cpu cpus && nat_lt from cpus
is_entry_of cpus (CoreOf cpu) = nat_lt cpu cpus
is_entry_of cpus (TickTo cpu clock) = nat_lt cpu cpus && nat_lt 0 clock && nat_lt clock clock_limit

abbrev pub is_entry : Machine → Entry → Bool
is_entry m entry = is_entry_of m.cpus entry

-- The place of the first entry that is none of the machine. The first of these entries has the
-- place `place`.
abbrev pub first_stranger : Machine → (place : ℕ) → List Entry → Option ℕ
first_stranger m place [] = None
first_stranger m place (entry ∷ entries) =
    if is_entry m entry then first_stranger m (place + 1) entries else Some place

-- Why these are no entries of the machine: there are too many, or else the first that is none of
-- the machine, by its place counted from 1.
abbrev pub fault_of : (most : ℕ) → Machine → List Entry → Option RunFault
fault_of most m entries =
    if nat_lt most (length entries) then Some Turns
    else option_map Schedule (first_stranger m 1 entries)

abbrev pub entries_fault : Machine → List Entry → Option RunFault
entries_fault m entries = fault_of most_events m entries

-- Why the numbers of a schedule are no entries of the machine.
abbrev pub schedule_fault : Machine → List ℕ → Option RunFault
schedule_fault m schedule = fault_of most_entries m (map numbered schedule)
