use Rattle.std.proofs.Common.{◌≡◌, drop}
use Rattle.std.specs.List.{list_any}
use Rattle.l4_outlooks.specs.Inner.Touches.{script_asks}
use Rattle.l4_outlooks.proofs.scripts.some_script_asks.Given as goal

-- The threads that are left decide.
abbrev pub invariant-loop-declared : goal.invariant-loop-declared
invariant-loop-declared l = list_any script_asks (drop l.declared-index l.threads) ≡ list_any script_asks l.threads
