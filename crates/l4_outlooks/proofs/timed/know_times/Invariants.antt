use Rattle.std.proofs.Common.{drop}
use Rattle.std.specs.List.{AllByRecursion}
use Rattle.l4_model.specs.Machine.{Declaration}
use Rattle.l4_worlds.specs.Histories.{IsShortIn}
use Rattle.l4_outlooks.proofs.timed.know_times.Given as goal

-- If the threads that are left are so, all are.
abbrev pub invariant-loop-declared : goal.invariant-loop-declared
invariant-loop-declared l =
    AllByRecursion (λ (d : Declaration). AllByRecursion IsShortIn d.script) (drop l.declared-index l.threads)
    → AllByRecursion (λ (d : Declaration). AllByRecursion IsShortIn d.script) l.threads
