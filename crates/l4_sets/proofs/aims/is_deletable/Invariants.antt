use Rattle.std.proofs.Common.{◌≡◌, drop}
use Rattle.std.specs.List.{list_any}
use Rattle.l4_first.specs.First.{instruction_deletes}
use Rattle.l4_sets.proofs.aims.is_deletable.Given as goal

-- The threads that are left decide.
abbrev pub invariant-loop-declared : goal.invariant-loop-declared
invariant-loop-declared l =
    list_any (λ d. list_any (instruction_deletes l.id) d.script) (drop l.declared-index l.threads)
    ≡ list_any (λ d. list_any (instruction_deletes l.id) d.script) l.threads
