-- A period of the program, as one of the model: None is never.
use Rattle.std.specs.Prelude.{◌==◌, ◌<◌, if◌then◌else◌, Some, None}
use Rattle.l4_types.specs.declared.times.Period.{Period}
use Rattle.l4_types.specs.declared.times.Period.TheVariants.{Never, Zero, Ticks}
use Rattle.l4_model.specs.Words as words
use Rattle.l4_model.specs.Words.{period_limit}

abbrev pub period_of : Period → words.Period
period_of Never = None
period_of Zero = Some 0
period_of (Ticks n) = Some n

-- The one spelling of each: no ticks are `Zero`.
abbrev pub period_from : words.Period → Period
period_from None = Never
period_from (Some n) = if n == 0 then Zero else Ticks n

abbrev pub periods_from : words.Period × words.Period → Period × Period
periods_from periods = (period_from periods.0, period_from periods.1)

-- A period that a time has: of no ticks it is `Zero`, and it is below 2^42.
abbrev pub IsTimely : Period → Type 0
IsTimely Never = Unit {0}
IsTimely Zero = Unit {0}
IsTimely (Ticks n) = (0 < n) × (n < period_limit)
