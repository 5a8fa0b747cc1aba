use Rattle.l4_states.specs.Inner.Codes.{number_code, optional}
use Rattle.l4_types.specs.Inner.PeriodView.{period_of}
use Rattle.l4_types.specs.declared.times.Period.{Period}
use Rattle.std.proofs.Common.{ap, sym}
use Rattle.l4_codes.proofs.Writing.{last, same_last}
use Rattle.l4_codes.proofs.messages.put_period.Goals as goal

pub returns-in_ok-put-in-Zero : goal.returns-in_ok-put-in-Zero
returns-in_ok-put-in-Zero c =
    same_last c.put-in-Zero-2.result (λ rest. number_code 1 (number_code 0 rest)) (optional
    number_code (period_of c.args.period)) c.args.code.now c.put-in-Zero-2.new.self (λ rest. ap
    (λ (p : Period). optional number_code (period_of p) rest) (sym c.in-Zero.is))
    (last c.put-in-Zero-2.result (number_code 1) (number_code 0) c.args.code.now
    c.put-in-Zero.new.self c.put-in-Zero-2.new.self c.in_ok-put-in-Zero.ensures
    c.put-in-Zero-2.ensures)

pub returns-in_ok-put-in-Ticks : goal.returns-in_ok-put-in-Ticks
returns-in_ok-put-in-Ticks c =
    same_last c.put-in-Ticks-2.result (λ rest. number_code 1 (number_code c.in-Ticks.ticks rest))
    (optional number_code (period_of c.args.period)) c.args.code.now c.put-in-Ticks-2.new.self
    (λ rest. ap (λ (p : Period). optional number_code (period_of p) rest) (sym c.in-Ticks.is))
    (last c.put-in-Ticks-2.result (number_code 1) (number_code c.in-Ticks.ticks) c.args.code.now
    c.put-in-Ticks.new.self c.put-in-Ticks-2.new.self c.in_ok-put-in-Ticks.ensures
    c.put-in-Ticks-2.ensures)
