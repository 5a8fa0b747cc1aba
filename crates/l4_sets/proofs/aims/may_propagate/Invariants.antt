use Rattle.std.proofs.Common.{◌≡◌, drop}
use Rattle.std.specs.List.{list_any}
use Rattle.l4_first.specs.First.{may_ask}
use Rattle.l4_sets.proofs.aims.may_propagate.Given as goal

-- The threads that are left decide.
abbrev pub invariant-loop-declared : goal.invariant-loop-declared
invariant-loop-declared l =
    list_any (λ d. list_any may_ask d.script) (drop l.declared-index l.threads)
    ≡ list_any (λ d. list_any may_ask d.script) l.threads
