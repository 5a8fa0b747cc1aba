use Rattle.std.proofs.Common.{◌≡◌, ◌-◌}
use Rattle.std.specs.Prelude.{find}
use Rattle.std.specs.List.{range_with_len}
use Rattle.l4_lint.specs.Second.Judging.{is_low, least_exponent}
use Rattle.l4_lint.proofs.second.judging.least_exponent.Given as goal

-- The exponents that are left decide.
abbrev pub invariant-loop-exponent : goal.invariant-loop-exponent
invariant-loop-exponent l = least_exponent l.ticks ≡ find (is_low l.ticks) (range_with_len l.exponent (32 - l.exponent))
