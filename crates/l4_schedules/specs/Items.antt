-- The list of a schedule: its items, and the entries that they spell.
use Rattle.std.specs.Prelude.{ℕ, ◌+◌, ◌-◌, ◌==◌, ◌&&◌, nat_lt, nat_le, Bool, if◌then◌else◌, Option}
use Rattle.std.specs.Prelude.{Some, None, Result, Ok, Err, List, [], ◌∷◌, ◌++◌, length, take, drop}
use Rattle.std.specs.Prelude.{option_map, codes, decimal}
use Rattle.std.specs.List.{position, slice_split}
use Rattle.l4_model.specs.Machine.{Machine}
use Rattle.l4_model.specs.Words.{clock_limit}
use Rattle.l4_model.specs.Conditions.{◌>>=◌, ◌>>◌}
use Rattle.l4_core_model.specs.Schedules.{Entry, TurnOf, TickOf, LetterOf, CoreOf, TickTo}
use Rattle.l4_words.specs.Numbers.{number_of}
use Rattle.l4_replay.specs.declared.fault.RunFault.{RunFault}
use Rattle.l4_replay.specs.declared.fault.RunFault.TheVariants.{Turns, Schedule}
use Rattle.l4_replay.specs.Entries.{is_entry, most_entries}

-- The items that are left of a list are what stands between its commas, byte 44.
abbrev pub items_left : Option (List ℕ) → List (List ℕ)
items_left None = []
items_left (Some list) = slice_split (λ byte. byte == 44) list

-- The empty list has no item.
abbrev pub items_of : List ℕ → List (List ℕ)
items_of list = if length list == 0 then [] else items_left (Some list)

-- The number of a processor, 0 to 15, in decimal without a leading zero: the digits `0` to `9` are
-- the bytes 48 to 57.
abbrev pub processor_of : List ℕ → Option ℕ
processor_of (digit ∷ []) = if nat_le 48 digit && nat_le digit 57 then Some (digit - 48) else None
processor_of (ten ∷ digit ∷ []) =
    if ten == 49 && nat_le 48 digit && nat_le digit 53 then Some (10 + (digit - 48)) else None
processor_of _ = None

-- The value of a clock, 1 to 2^62 - 1, in decimal without a leading zero.
abbrev pub clock_of : List ℕ → Option ℕ
clock_of word = do
  clock ← number_of 10 word
  nat_lt 0 clock
  nat_lt clock clock_limit
  Some clock

-- A word with a colon, byte 58, is read in two parts, before and behind its first colon. Another
-- word is read as a whole.

abbrev pub is_colon : ℕ → Bool
is_colon byte = byte == 58

abbrev pub at_colon : (whole : List ℕ → Option Entry) →
    (parts : (before behind : List ℕ) → Option Entry) →
    List ℕ → (colon : Option ℕ) → Option Entry
at_colon whole parts word None = whole word
at_colon whole parts word (Some colon) = parts (take colon word) (drop (colon + 1) word)

abbrev pub by_colon : (whole : List ℕ → Option Entry) →
    (parts : (before behind : List ℕ) → Option Entry) →
    List ℕ → Option Entry
by_colon whole parts word = at_colon whole parts word (position is_colon word)

-- The number of a processor is a turn of it. Behind a colon follows the poster of the letter that
-- it handles.

abbrev pub letter_between : (cpu from : List ℕ) → Option Entry
letter_between first second = do
  cpu ← processor_of first
  from ← processor_of second
  Some (LetterOf cpu from)

abbrev pub turn_of : List ℕ → Option Entry
turn_of = by_colon (λ word. option_map TurnOf (processor_of word)) letter_between

-- With a `t`, byte 116, in front, it is a tick to the least deadline. Behind a colon follows the
-- value that the clock goes on to.

abbrev pub tick_between : (cpu clock : List ℕ) → Option Entry
tick_between first second = do
  cpu ← processor_of first
  clock ← clock_of second
  Some (TickTo cpu clock)

abbrev pub tick_of : List ℕ → Option Entry
tick_of = by_colon (λ word. option_map TickOf (processor_of word)) tick_between

-- With a `c`, byte 99, in front, it is the turn of its core.
abbrev pub entry_of : List ℕ → Option Entry
entry_of [] = None
entry_of (first ∷ rest) =
    if first == 116 then tick_of rest
    else if first == 99 then option_map CoreOf (processor_of rest)
    else turn_of (first ∷ rest)

-- The one item of an entry.
abbrev pub item_of : Entry → List ℕ
item_of (TurnOf cpu) = decimal cpu
item_of (TickOf cpu) = codes "t" ++ decimal cpu
item_of (LetterOf cpu from) = decimal cpu ++ codes ":" ++ decimal from
item_of (CoreOf cpu) = codes "c" ++ decimal cpu
item_of (TickTo cpu clock) = codes "t" ++ decimal cpu ++ codes ":" ++ decimal clock

-- The entry of an item that is one of the machine.
abbrev pub if_entry : Machine → Option Entry → Option Entry
if_entry m None = None
if_entry m (Some entry) = if is_entry m entry then Some entry else None

abbrev pub machine_entry : Machine → List ℕ → Option Entry
machine_entry m item = if_entry m (entry_of item)

abbrev pub or_fault : (number : ℕ) → Option Entry → (Entry → Result (List Entry) RunFault) →
    Result (List Entry) RunFault
or_fault number None rest = Err (Schedule number)
or_fault number (Some entry) rest = rest entry

-- The entries so far and those of the items that are left. Or the number, counted from 1, of the
-- first of these items that has none.
abbrev pub read_items : Machine → (entries : List Entry) → List (List ℕ) →
    Result (List Entry) RunFault
read_items m entries [] = Ok entries
read_items m entries (item ∷ items) =
    or_fault (length entries + 1) (machine_entry m item)
    (λ entry. read_items m (entries ++ entry ∷ []) items)

-- The schedule that a list spells on a machine, where it may have so many items. A list with more
-- is judged by their number alone.
abbrev pub schedule_within : (most : ℕ) → Machine → (list : List ℕ) →
    Result (List Entry) RunFault
schedule_within most m list =
    if nat_lt most (length (items_of list)) then Err Turns else read_items m [] (items_of list)

-- A list outside a file may have as many items as a schedule of numbers.
abbrev pub schedule_of : Machine → (list : List ℕ) → Result (List Entry) RunFault
schedule_of m list = schedule_within most_entries m list
