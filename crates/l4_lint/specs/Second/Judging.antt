-- Whether a word is right in its place in a line with scripts of version 2, and what is said of one
-- that is not.
use Rattle.std.specs.Prelude.{ℕ, ◌-◌, ◌+◌, ◌*◌, ◌/◌, ◌^◌, ◌==◌, Bool, false, ◌&&◌, nat_le, nat_lt}
use Rattle.std.specs.Prelude.{if◌then◌else◌, Option, Some, None, is_some, Ok, is_ok, List, []}
use Rattle.std.specs.Prelude.{length, codes, take, find}
use Rattle.std.specs.List.{range_with_len}
use Rattle.std.specs.Str.{bytes_eq}
use Rattle.l4_model.specs.Words.{GlobalId, label_limit_in}
use Rattle.l4_model.specs.Machine.{place_of as place_in}
use Rattle.l4_words.specs.Numbers as words
use Rattle.l4_script.specs.declared.text.fault.TextFaultKind.{TextFaultKind}
use Rattle.l4_script.specs.declared.text.fault.TextFaultKind.TheVariants as kinds
use Rattle.l4_script.specs.Judged.{Judged}
use Rattle.l4_script.specs.Machines.{is_taken}
use Rattle.l4_script.specs.Numbers.{number_from}
use Rattle.l4_script.specs.Second.Names.{Named, id_named, is_name, thread_named}
use Rattle.l4_script.specs.Second.Operands.{ends_with, id_or_last_of, id_or_register_of, place_of}
use Rattle.l4_script.specs.Second.Operands.{second_time_from}
use Rattle.l4_script.specs.Second.Texts.{Reading, may_name}
use Rattle.l4_lint.specs.declared.hints.Hint.{Hint}
use Rattle.l4_lint.specs.declared.hints.Hint.TheVariants as hints
use Rattle.l4_lint.specs.declared.hints.Operand.{Operand}
use Rattle.l4_lint.specs.declared.hints.Operand.TheVariants as operand
use Rattle.l4_lint.specs.Bytes.{word_of}
use Rattle.l4_lint.specs.Contexts.{Context}
use Rattle.l4_lint.specs.Judging as first
use Rattle.l4_lint.specs.Judging.{has_no_thread, number_hint}

-- What the lines before one have declared: nothing in front of the line behind `cpus`.

abbrev pub names_in : Option Reading → List Named
names_in None = []
names_in (Some r) = r.names

abbrev pub may_be_named : Option Reading → (word : List ℕ) → Bool
may_be_named None word = is_name word
may_be_named (Some r) word = may_name r word

abbrev pub is_declared : Option Reading → Judged GlobalId → Bool
is_declared (Some r) (Ok thread) = is_some (place_in r.machine thread)
is_declared _ _ = false

-- A thread before has the number of this one.
abbrev pub is_double : Option Reading → Judged GlobalId → Bool
is_double (Some r) (Ok thread) = is_taken thread.number r.machine
is_double _ _ = false

-- A thread may be the last one of a line whose first one this is.
abbrev pub is_last : (first last : Judged GlobalId) → Bool
is_last (Ok first) (Ok last) = last.version == first.version && nat_le first.number last.number
is_last _ _ = false

abbrev pub thread_in : Context → Option Reading → (word : List ℕ) → Judged GlobalId
thread_in c r word = thread_named c.format (names_in r) word

-- Whether the word is right for this operand. `words` are all behind the first word of the line.
abbrev pub is_right : Context → Option Reading → (words : List ℕ) → Operand → (word : List ℕ) → Bool
is_right c r words operand.NamedThread word = is_ok (thread_in c r word)
is_right c r words operand.ToKeyword word = bytes_eq word (codes "to")
is_right c r words operand.LastThread word =
    is_last (thread_in c r (word_of words)) (thread_in c r word)
is_right c r words operand.AsKeyword word = bytes_eq word (codes "as")
is_right c r words operand.Heir word = is_declared r (thread_in c r word)
is_right c r words operand.NewName word = may_be_named r word
is_right c r words operand.NamedId word = is_ok (id_named c.format (names_in r) word)
is_right c r words operand.IdOrRegister word =
    is_ok (id_or_register_of c.format (names_in r) word)
is_right c r words operand.IdOrLast word = is_ok (id_or_last_of c.format (names_in r) word)
is_right c r words operand.CountedTime word = is_ok (second_time_from word)
is_right c r words operand.Label word =
    is_ok (number_from 0 (label_limit_in c.format - 1) word)
is_right c r words operand.NamedPlace word = is_ok (place_of word)
is_right c r words other word = first.is_right c other word

-- Of a time that counts microseconds which no time means: the two that are nearest, if both are
-- times.

abbrev pub most_ticks : ℕ
most_ticks = 1023 * 2 ^ 31

abbrev pub near_at : (ticks : ℕ) → (exponent : Option ℕ) → Option Hint
near_at ticks None = None
near_at ticks (Some e) = if nat_le (ticks / 2 ^ e * 2 ^ e + 2 ^ e) most_ticks
    then Some (hints.NearTimes (ticks / 2 ^ e * 2 ^ e) (ticks / 2 ^ e * 2 ^ e + 2 ^ e)) else None

-- The least exponent for which the mantissa is below 1024.

abbrev pub is_low : (ticks e : ℕ) → Bool
is_low ticks e = nat_lt (ticks / 2 ^ e) 1024

unfoldable pub least_exponent : (ticks : ℕ) → Option ℕ
least_exponent ticks = find (is_low ticks) (range_with_len 0 32)

abbrev pub near_times : (unit : ℕ) → (count : Option ℕ) → Option Hint
near_times unit None = None
near_times unit (Some count) = if nat_le count most_ticks
    then near_at (count * unit) (least_exponent (count * unit)) else None

abbrev pub near_in : (unit : ℕ) → (ending word : List ℕ) → Option Hint
near_in unit ending word =
    near_times unit (words.number_of 10 (take (length word - length ending) word))

abbrev pub near_of : (word : List ℕ) → Option Hint
near_of word = if ends_with (codes "us") word then near_in 1 (codes "us") word
    else (if ends_with (codes "ms") word then near_in 1000 (codes "ms") word
    else (if ends_with (codes "s") word then near_in 1000000 (codes "s") word
    else None))

abbrev pub or_wanted : Operand → Option Hint → Hint
or_wanted wanted None = hints.Wanted wanted
or_wanted wanted (Some hint) = hint

-- The hint for a word in the place of this operand, by the kind of its fault. What is said of names
-- is in `Names`.

abbrev pub time_hint : Operand → (word : List ℕ) → Hint
time_hint operand.CountedTime word = or_wanted operand.CountedTime (near_of word)
time_hint wanted word = number_hint wanted word

abbrev pub id_hint : Operand → (word : List ℕ) → Hint
id_hint wanted word = if has_no_thread word then hints.Version else hints.Wanted wanted

abbrev pub operand_hint : TextFaultKind → Operand → (word : List ℕ) → Hint
operand_hint kinds.TypedItems wanted word = hints.TypedItems
operand_hint kinds.BadId wanted word = id_hint wanted word
operand_hint kinds.BadNumber wanted word = time_hint wanted word
operand_hint other wanted word = hints.Wanted wanted
