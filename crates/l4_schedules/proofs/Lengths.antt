-- How long a recorded text is.
use Rattle.std.proofs.Common.{◌≡◌, ℕ, ◌+◌, ◌*◌, ◌≤◌, ◌^◌, ◌%◌, Bool, true, false, List, [], ◌∷◌, ◌++◌, length, arith, length-append}
use Rattle.std.specs.Prelude.{◌==◌, ◌&&◌, nat_lt, if◌then◌else◌, codes, decimal}
use Rattle.std.specs.List.{AllByRecursion}
use Rattle.std.proofs.lemmas.Bool.{and_parts, ltb-true}
use Rattle.std.proofs.lemmas.Fmt.{length-decimal-le}
use Rattle.l4_model.specs.Words.{clock_limit}
use Rattle.l4_core_model.specs.Schedules.{Entry, TurnOf, TickOf, LetterOf, CoreOf, TickTo}
use Rattle.l4_replay.specs.Entries.{is_entry_of}
use Rattle.l4_schedules.specs.Items.{item_of}
use Rattle.l4_schedules.specs.Written.{in_lines, recorded_text, separator}

cpu_short : (cpu : ℕ) → nat_lt cpu 16 ≡ true → length (decimal cpu) ≤ 2
cpu_short cpu is = length-decimal-le 2 cpu (omega arith) (omega (arith, ltb-true cpu 16 is)) (omega (arith, ltb-true cpu 16 is))

clock_short : (clock : ℕ) → nat_lt clock clock_limit ≡ true → length (decimal clock) ≤ 19
clock_short clock is =
    let below = ltb-true clock (2 ^ 62) is in
    length-decimal-le 19 clock (omega arith) (omega (arith, below)) (omega (arith, below))

pub item_short : (entry : Entry) → is_entry_of 16 entry ≡ true → length (item_of entry) ≤ 23
item_short (TurnOf cpu) is = omega (arith, cpu_short cpu is)
item_short (TickOf cpu) is = omega (arith, cpu_short cpu is)
item_short (CoreOf cpu) is = omega (arith, cpu_short cpu is)
item_short (LetterOf cpu from) is =
    let each = and_parts (nat_lt cpu 16) (nat_lt from 16) is in
    omega (arith, cpu_short cpu each.0, cpu_short from each.1, length-append (decimal cpu) (codes ":"), length-append (decimal cpu ++ codes ":") (decimal from))
item_short (TickTo cpu clock) is =
    let each = and_parts (nat_lt cpu 16 && nat_lt 0 clock) (nat_lt clock clock_limit) is in
    let first = and_parts (nat_lt cpu 16) (nat_lt 0 clock) each.0 in
    omega (arith, cpu_short cpu first.0, clock_short clock each.1, length-append (decimal cpu) (codes ":"), length-append (decimal cpu ++ codes ":") (decimal clock))

by_line : (b c : Bool) → length (if b then [] else if c then codes ",\n" else codes ",") ≤ 2
by_line true c = omega arith
by_line false true = omega arith
by_line false false = omega arith

separator_short : (before : ℕ) → length (separator before) ≤ 2
separator_short before = by_line (before == 0) (before % 16 == 0)

pub lines_short : (before : ℕ) (entries : List Entry) → AllByRecursion (λ entry. is_entry_of 16 entry ≡ true) entries →
    length (in_lines before entries) ≤ 25 * length entries
lines_short before [] are = omega arith
lines_short before (entry ∷ entries) are =
    let rest = in_lines (before + 1) entries in
    omega (
      arith,
      separator_short before,
      item_short entry are.0,
      lines_short (before + 1) entries are.1,
      length-append (separator before) (item_of entry),
      length-append (separator before ++ item_of entry) rest,
    )

pub text_short : (entries : List Entry) → AllByRecursion (λ entry. is_entry_of 16 entry ≡ true) entries →
    length (recorded_text entries) ≤ 25 * length entries + 39
text_short entries are =
    omega (arith, lines_short 0 entries are, length-append (in_lines 0 entries) (codes "\n"))
