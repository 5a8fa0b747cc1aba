use Rattle.std.proofs.Common.{◌≡◌, ◌++◌, drop, map}
use Rattle.l4_model.specs.Machine.{Declaration}
use Rattle.l4_condition_lines.specs.Inner.Reading.{reads_of}
use Rattle.l4_always.specs.Inner.Parts.{parts_of, parts_read}
use Rattle.l4_always.proofs.reading.parts_read.Given as goal

-- With those of the threads that are left it is all.
abbrev pub invariant-loop-declared : goal.invariant-loop-declared
invariant-loop-declared l =
    l.parts.items ++ map (λ (d : Declaration). parts_of (reads_of l.condition d.id)) (drop l.declared-index l.declared-items)
    ≡ parts_read l.machine l.condition
