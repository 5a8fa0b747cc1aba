-- Operands of scripts of version 2.
use Rattle.std.specs.Prelude.{ℕ, ◌*◌, ◌-◌, Bool, ◌||◌, ◌==◌, nat_le, if◌then◌else◌, Option, Some, None, is_some, Ok, Err, List, length, take, drop, codes}
use Rattle.std.specs.Str.{bytes_eq}
use Rattle.l4_model.specs.Words.{Format, Period, last_register}
use Rattle.l4_model.specs.Machine.{IdFrom, Fixed, Last, InRegister}
use Rattle.l4_words.specs.Numbers as words
use Rattle.l4_script.specs.declared.text.fault.TextFaultKind.TheVariants.{BadNumber, BadId}
use Rattle.l4_script.specs.Judged.{Judged, ◌>>=◌, ◌>>◌, must, needs}
use Rattle.l4_script.specs.Numbers.{number_of, time_from}
use Rattle.l4_script.specs.Canonical.{exponent_of}
use Rattle.l4_script.specs.Second.Names.{is_name, is_register_word, Named, id_named}

-- `mrA`: the id whose word MR A has, in decimal digits without a leading zero.
unfoldable pub register_of : Format → (word : List ℕ) → Judged IdFrom
register_of format word = do
  a ← needs (words.number_of 10 (drop 2 word)) BadId
  must (nat_le a last_register) BadId
  Ok (InRegister format a)

-- Where an id is from: a register, an id or a name.
unfoldable pub id_or_register_of : Format → List Named → (word : List ℕ) → Judged IdFrom
id_or_register_of format names word = if is_register_word word then register_of format word
    else (id_named format names word >>= λ id. Ok (Fixed id))

-- The same, or `last`.
unfoldable pub id_or_last_of : Format → List Named → (word : List ℕ) → Judged IdFrom
id_or_last_of format names word = if bytes_eq word (codes "last") then Ok Last
    else id_or_register_of format names word

-- An instruction that a line names: by its number in its script, or by its name.
pub data Place : Type 0 where
  Numbered : (place : ℕ) → Place
  Labelled : (name : List ℕ) → Place

unfoldable pub place_of : (word : List ℕ) → Judged Place
place_of word = by (number_of word)
  where
    by : Option ℕ → Judged Place
    by (Some place) = Ok (Numbered place)
    by None = if is_name word then Ok (Labelled word) else Err BadNumber

-- So many microseconds, where some time means them exactly.
abbrev pub exact_period : (ticks : ℕ) → Judged Period
exact_period ticks = if ticks == 0 || is_some (exponent_of ticks) then Ok (Some ticks)
    else Err BadNumber

-- So many units of microseconds.
abbrev pub counted : (unit : ℕ) → (digits : List ℕ) → Judged Period
counted unit digits = do
  count ← needs (words.number_of 10 digits) BadNumber
  exact_period (count * unit)

abbrev pub ends_with : (ending word : List ℕ) → Bool
ends_with ending word = bytes_eq (drop (length word - length ending) word) ending

abbrev pub counted_in : (unit : ℕ) → (ending word : List ℕ) → Judged Period
counted_in unit ending word = counted unit (take (length word - length ending) word)

-- A time as in version 1, or `5us`, `5ms`, `2s`: so many microseconds, thousands or millions of
-- them.
unfoldable pub second_time_from : (word : List ℕ) → Judged Period
second_time_from word =
    if ends_with (codes "us") word then counted_in 1 (codes "us") word
    else (if ends_with (codes "ms") word then counted_in 1000 (codes "ms") word
    else (if ends_with (codes "s") word then counted_in 1000000 (codes "s") word
    else time_from word))
