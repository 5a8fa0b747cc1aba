use Rattle.std.proofs.Common.{◌≡◌, ◌++◌, drop, map}
use Rattle.l4_model.specs.Machine.{Declaration}
use Rattle.l4_outlooks.specs.Inner.Standing.{left_alone, spared_of}
use Rattle.l4_outlooks.proofs.alone.Alone.new.Given as goal

-- With those of the threads that are left it is all.
abbrev pub invariant-loop-declared : goal.invariant-loop-declared
invariant-loop-declared l =
    l.threads.items ++ map (λ (d : Declaration). spared_of l.machine d.id) (drop l.declared-index l.declared-items) ≡ left_alone l.machine
