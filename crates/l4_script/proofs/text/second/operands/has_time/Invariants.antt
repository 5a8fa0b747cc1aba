use Rattle.std.proofs.Common.{◌≡◌, ◌-◌, is_some}
use Rattle.std.specs.Prelude.{find}
use Rattle.std.specs.List.{range_with_len}
use Rattle.l4_script.specs.Canonical.{exponent_of, is_exponent}
use Rattle.l4_script.proofs.text.second.operands.has_time.Given as goal

abbrev pub invariant-loop-exponent : goal.invariant-loop-exponent
invariant-loop-exponent l = is_some (exponent_of l.ticks) ≡ is_some (find (is_exponent l.ticks) (range_with_len l.exponent (32 - l.exponent)))
