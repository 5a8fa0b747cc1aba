-- What a line of a session asks for.
use Rattle.std.specs.Prelude.{ℕ, ◌==◌, bytes_eq, nat_lt, if◌then◌else◌, Bool, Option, Some, None, List, codes, length}
use Rattle.std.specs.List.{after_first, before_first, position_or_len}
use Rattle.std.specs.Str.{trim}
use Rattle.l4_words.specs.Numbers.{number_of}
use Rattle.l4_steps.specs.declared.commands.Command as code
use Rattle.l4_steps.specs.declared.commands.Command.TheVariants as variant

-- `Do`: an entry, by its number among those that are possible, or by its item. `Back`: so many
-- entries back. `Next`: what is possible. `State`: the report so far. `Chart`: the history so far.
-- `Record`: the list of the entries so far.
pub data Command : Type 0 where
  Do : (word : List ℕ) → Command
  Back : (count : ℕ) → Command
  Next : Command
  State : Command
  Chart : Command
  Record : Command
  Help : Command
  Quit : Command
  Unknown : Command

-- A command of the program as a command.
abbrev pub command_from : code.Command → Command
command_from (variant.Do word) = Do word.now
command_from (variant.Back count) = Back count
command_from variant.Next = Next
command_from variant.State = State
command_from variant.Chart = Chart
command_from variant.Record = Record
command_from variant.Help = Help
command_from variant.Quit = Quit
command_from variant.Unknown = Unknown

-- A word alone is a command, or names an entry.
abbrev pub lone : (word : List ℕ) → Command
lone word =
    if bytes_eq word (codes "back") then Back 1
    else if bytes_eq word (codes "next") then Next
    else if bytes_eq word (codes "state") then State
    else if bytes_eq word (codes "chart") then Chart
    else if bytes_eq word (codes "record") then Record
    else if bytes_eq word (codes "help") then Help
    else if bytes_eq word (codes "quit") then Quit
    else Do word

-- One word may have a number behind it.

abbrev pub back_by : (count : Option ℕ) → Command
back_by None = Unknown
back_by (Some count) = Back count

abbrev pub with_rest : (word rest : List ℕ) → Command
with_rest word rest =
    if bytes_eq word (codes "back") then back_by (number_of 10 rest) else Unknown

-- A line is read without the blanks around it. A space, byte 32, ends its first word.

abbrev pub is_space : ℕ → Bool
is_space byte = byte == 32

abbrev pub command_in : (said : List ℕ) → Command
command_in said =
    if nat_lt (position_or_len is_space said) (length said)
    then with_rest (before_first is_space said) (trim (after_first is_space said))
    else lone said

abbrev pub command_of : (line : List ℕ) → Command
command_of line = command_in (trim line)
