-- Whether a word is right in its place.
use Rattle.std.specs.Prelude.{ℕ, ◌/◌, ◌%◌, ◌^◌, ◌-◌, Bool, true, false, not, ◌&&◌, ◌||◌, ◌==◌}
use Rattle.std.specs.Prelude.{nat_le, nat_lt, if◌then◌else◌, Option, Some, None, is_some}
use Rattle.std.specs.Prelude.{Ok, Err, is_ok, List, length, codes, drop}
use Rattle.std.specs.List.{before_first, after_first, list_all, list_any, position}
use Rattle.std.specs.Str.{bytes_eq}
use Rattle.l4_model.specs.Words.{last_register}
use Rattle.l4_model.specs.Machine.{most_processors}
use Rattle.l4_words.specs.Threads.{is_dot}
use Rattle.l4_words.specs.Numbers as words
use Rattle.l4_script.specs.declared.text.fault.TextFaultKind.{TextFaultKind}
use Rattle.l4_script.specs.declared.text.fault.TextFaultKind.TheVariants as kinds
use Rattle.l4_script.specs.Judged.{Judged}
use Rattle.l4_script.specs.Numbers.{number_of, number_from, word_from, time_from}
use Rattle.l4_script.specs.Ids.{thread_in, id_of}
use Rattle.l4_script.specs.Second.Names.{is_digit}
use Rattle.l4_script.specs.Statements.{processor_of, destination_of, bits_of}
use Rattle.l4_lint.specs.declared.hints.Hint.{Hint}
use Rattle.l4_lint.specs.declared.hints.Hint.TheVariants as hints
use Rattle.l4_lint.specs.declared.hints.Operand.{Operand}
use Rattle.l4_lint.specs.declared.hints.Operand.TheVariants as operand
use Rattle.l4_lint.specs.Contexts.{Context}

abbrev pub is_one_of : (first second : ℕ) → Option ℕ → Bool
is_one_of first second None = false
is_one_of first second (Some number) = number == first || number == second

-- The number of typed words, bits 6 to 11, is zero.
abbrev pub is_untyped : Judged ℕ → Bool
is_untyped (Ok word) = word / 64 % 64 == 0
is_untyped (Err k) = false

-- Whether the word is right for this operand.
abbrev pub is_right : Context → Operand → (word : List ℕ) → Bool
is_right c operand.Profile word = is_one_of 1 2 (number_of word)
is_right c operand.Width word = is_one_of 64 32 (number_of word)
is_right c operand.Processors word = is_ok (number_from 1 most_processors word)
is_right c operand.Thread word = is_some (thread_in c.format word)
is_right c operand.CpuKeyword word = bytes_eq word (codes "cpu")
is_right c operand.Processor word = is_ok (processor_of c.cpus word)
is_right c operand.SpaceKeyword word = bytes_eq word (codes "space")
is_right c operand.Space word = is_ok (number_from 0 (2 ^ 32 - 1) word)
is_right c operand.Register word = is_ok (number_from 1 last_register word)
is_right c operand.Source word = is_ok (number_from 0 last_register word)
is_right c operand.Word word = is_ok (word_from c.format word)
is_right c operand.Tag word = is_untyped (word_from c.format word)
is_right c operand.Id word = is_some (id_of c.format word)
is_right c operand.Destination word = is_ok (destination_of c.format word)
is_right c operand.Time word = is_ok (time_from word)
is_right c operand.Bits word = is_some (bits_of word)
is_right c operand.Place word = is_some (number_of word)
is_right c other word = false

-- A keyword is judged with the form of its line.
abbrev pub is_keyword : Operand → Bool
is_keyword operand.CpuKeyword = true
is_keyword operand.SpaceKeyword = true
is_keyword operand.Bits = true
is_keyword operand.ToKeyword = true
is_keyword operand.AsKeyword = true
is_keyword other = false

-- `N.V`, V a multiple of 64: the low six bits of a thread's version are not all zero.
abbrev pub is_threadless : Option ℕ → Option ℕ → Bool
is_threadless (Some number) (Some version) = version % 64 == 0
is_threadless _ _ = false

abbrev pub has_no_thread : (word : List ℕ) → Bool
has_no_thread word =
    is_threadless (words.number_of 10 (before_first is_dot word))
    (words.number_of 10 (after_first is_dot word))

-- The hint for a word that is no id.
abbrev pub id_hint : Operand → (word : List ℕ) → Hint
id_hint wanted word =
    if bytes_eq word (codes "last") then hints.Last
    else (if has_no_thread word then hints.Version
    else hints.Wanted wanted)

-- Digits of a hexadecimal number, in either case, and those that are letters.

abbrev pub is_capital_digit : (byte : ℕ) → Bool
is_capital_digit byte = nat_le 65 byte && nat_le byte 70

abbrev pub is_letter_digit : (byte : ℕ) → Bool
is_letter_digit byte = is_capital_digit byte || nat_le 97 byte && nat_le byte 102

abbrev pub are_digits : (word : List ℕ) → Bool
are_digits word = list_all (λ byte. is_digit byte || is_letter_digit byte) word

abbrev pub has_letter : (word : List ℕ) → Bool
has_letter word = list_any is_letter_digit word

abbrev pub has_capital : (word : List ℕ) → Bool
has_capital word = list_any is_capital_digit word

-- A word that may be meant as a hexadecimal number: digits with a letter among them and no prefix,
-- or with `0x` before a capital letter, or with `0X`.

abbrev pub is_x : (byte : ℕ) → Bool
is_x byte = byte == 120

abbrev pub is_capital_x : (byte : ℕ) → Bool
is_capital_x byte = byte == 88

abbrev pub lacks_prefix : (word : List ℕ) → Bool
lacks_prefix word = are_digits word && has_letter word

abbrev pub has_capitals : (front behind : List ℕ) → Bool
has_capitals front behind =
    bytes_eq front (codes "0") && (are_digits behind && has_capital behind)

abbrev pub has_capital_prefix : (front behind : List ℕ) → Bool
has_capital_prefix front behind =
    bytes_eq front (codes "0") && (are_digits behind && not (length behind == 0))

abbrev pub is_like_hexadecimal : (word : List ℕ) → Bool
is_like_hexadecimal word =
    lacks_prefix word
    || (has_capitals (before_first is_x word) (after_first is_x word)
    || has_capital_prefix (before_first is_capital_x word) (after_first is_capital_x word))

-- A time with a unit: decimal digits, and `us`, `ms` or `s` behind them.

abbrev pub is_unit : (word : List ℕ) → Bool
is_unit word =
    bytes_eq word (codes "us") || (bytes_eq word (codes "ms") || bytes_eq word (codes "s"))

-- Where the decimal digits end.
abbrev pub number_end : (word : List ℕ) → Option ℕ
number_end word = position (λ byte. not (is_digit byte)) word

abbrev pub unit_at : (word : List ℕ) → (end : Option ℕ) → Bool
unit_at word None = false
unit_at word (Some end) = nat_lt 0 end && is_unit (drop end word)

abbrev pub has_unit : (word : List ℕ) → Bool
has_unit word = unit_at word (number_end word)

abbrev pub is_time : Operand → Bool
is_time operand.Time = true
is_time other = false

-- The hint for a word that is no number, or is out of range.
abbrev pub number_hint : Operand → (word : List ℕ) → Hint
number_hint wanted word =
    if is_like_hexadecimal word then hints.Hexadecimal
    else (if is_time wanted && has_unit word then hints.TimeUnit
    else hints.Wanted wanted)

-- The hint for a word in the place of this operand, by the kind of its fault.
abbrev pub operand_hint : TextFaultKind → Operand → (word : List ℕ) → Hint
operand_hint kinds.TypedItems wanted word = hints.TypedItems
operand_hint kinds.BadId wanted word = id_hint wanted word
operand_hint kinds.BadNumber wanted word = number_hint wanted word
operand_hint other wanted word = hints.Wanted wanted
