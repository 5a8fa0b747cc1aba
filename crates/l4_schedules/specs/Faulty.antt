-- The faults of a list: items that spell no entry of the machine, and what may stand there.
use Rattle.std.specs.Prelude.{ℕ, ◌+◌, ◌==◌, nat_lt, if◌then◌else◌, Option, Some, None, Result, Ok, Err, List, [], ◌∷◌, ◌++◌, codes, decimal, flat_map, length}
use Rattle.std.specs.List.{list_any}
use Rattle.l4_model.specs.Machine.{Machine}
use Rattle.l4_core_model.specs.Schedules.{Entry}
use Rattle.l4_replay.specs.declared.fault.RunFault.{RunFault}
use Rattle.l4_replay.specs.declared.fault.RunFault.TheVariants.{Turns, Schedule}
use Rattle.l4_replay.specs.Entries.{is_entry, most_entries, most_events}
use Rattle.l4_lint.specs.Spelling.{shown_word}
use Rattle.l4_schedules.specs.declared.faulty.ItemHint.{ItemHint}
use Rattle.l4_schedules.specs.declared.faulty.ItemHint.TheVariants.{ManyItems, LongFile, Processor, Empty, Blank, Tick, Core, Item}
use Rattle.l4_schedules.specs.InFiles.{is_blank, list_in_file, most_bytes}
use Rattle.l4_schedules.specs.Items.{entry_of, items_of}

-- The item, counted from 1 (0 where the whole list is at fault), what stands there, and what is
-- said of it.
pub record Fault : Type 0 where
  pub number : ℕ
  pub word : List ℕ
  pub hint : ItemHint

abbrev pub fault : (number : ℕ) → (word : List ℕ) → ItemHint → Fault
fault number word hint = record { number = number; word = word; hint = hint }

-- What may stand in the place of an item that spells no entry. A `t`, byte 116, begins a tick, and
-- a `c`, byte 99, the turn of a core.

abbrev pub first_hint : (item : List ℕ) → ItemHint
first_hint [] = Empty
first_hint (first ∷ rest) = if first == 116 then Tick else if first == 99 then Core else Item

abbrev pub spelling_hint : (item : List ℕ) → ItemHint
spelling_hint item = if list_any is_blank item then Blank else first_hint item

-- What is said of an item: nothing where it spells an entry of the machine. Any other entry names a
-- processor that the machine does not have.

abbrev pub hint_by : Machine → (item : List ℕ) → Option Entry → Option ItemHint
hint_by m item None = Some (spelling_hint item)
hint_by m item (Some entry) = if is_entry m entry then None else Some Processor

abbrev pub hint_of : Machine → (item : List ℕ) → Option ItemHint
hint_of m item = hint_by m item (entry_of item)

-- The faults of these items, the first of which has this number.

abbrev pub fault_at : (number : ℕ) → (item : List ℕ) → Option ItemHint → List Fault
fault_at number item None = []
fault_at number item (Some hint) = fault number item hint ∷ []

abbrev pub faults_from : Machine → (number : ℕ) → (items : List (List ℕ)) → List Fault
faults_from m number [] = []
faults_from m number (item ∷ items) =
    fault_at number item (hint_of m item) ++ faults_from m (number + 1) items

-- The faults of a list of at most so many items. Where it has more, that is its only fault.
abbrev pub faults_within : (most : ℕ) → Machine → (list : List ℕ) → List Fault
faults_within most m list =
    if nat_lt most (length (items_of list)) then fault 0 [] (ManyItems most) ∷ []
    else faults_from m 1 (items_of list)

-- The faults of a list, and of the list in a file.

abbrev pub list_faults : Machine → (list : List ℕ) → List Fault
list_faults m list = faults_within most_entries m list

abbrev pub file_faults : Machine → (text : List ℕ) → List Fault
file_faults m text =
    if nat_lt most_bytes (length text) then fault 0 [] LongFile ∷ []
    else faults_within most_events m (list_in_file text)

-- A replay of the list is refused for the first of its faults.

abbrev pub refusal : Fault → RunFault
refusal f = if f.number == 0 then Turns else Schedule f.number

abbrev pub first_in : List Fault → Option RunFault
first_in [] = None
first_in (f ∷ others) = Some (refusal f)

abbrev pub fault_in : Result (List Entry) RunFault → Option RunFault
fault_in (Ok entries) = None
fault_in (Err f) = Some f

-- The line of a fault. An empty item is not shown.

abbrev pub hint_text : ItemHint → List ℕ
hint_text (ManyItems most) = codes "a list has at most " ++ decimal most ++ codes " items"
hint_text LongFile = codes "a file with a list has at most 33554432 bytes"
hint_text Processor = codes "wanted: a processor, below the number of the cpus line"
hint_text Empty = codes "an empty item; one comma stands between two items and none elsewhere"
hint_text Blank = codes "a blank; blanks stand only around the items of a list in a file"
hint_text Tick = codes "wanted: tP or tP:V, P 0 to 15, V 1 to 4611686018427387903"
hint_text Core = codes "wanted: cP, P 0 to 15"
hint_text Item = codes "wanted: P, P:Q, cP, tP or tP:V, P and Q 0 to 15"

abbrev pub number_text : (number : ℕ) → List ℕ
number_text number = codes "schedule item " ++ decimal number ++ codes ": "

abbrev pub fault_line : Fault → List ℕ
fault_line f = number_text f.number ++ shown_word f.word ++ hint_text f.hint ++ codes "\n"

abbrev pub faults_text : List Fault → List ℕ
faults_text found = flat_map fault_line found
