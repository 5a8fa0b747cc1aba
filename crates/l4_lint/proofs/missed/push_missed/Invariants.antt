use Rattle.std.proofs.Common.{◌≡◌, ◌++◌, drop, map}
use Rattle.std.specs.Prelude.{filter}
use Rattle.l4_words.specs.Lines.{parts_of}
use Rattle.l4_script.specs.Texts.{is_missed}
use Rattle.l4_lint.specs.Faults.{missed_fault}
use Rattle.l4_lint.specs.Inner.Views.{fault_of}
use Rattle.l4_lint.proofs.missed.push_missed.Given as goal

abbrev pub invariant-loop-target : goal.invariant-loop-target
invariant-loop-target l =
    map fault_of l.found.items ++ map (missed_fault (parts_of l.text)) (filter (is_missed l.reading.machine) (drop l.target-index l.reading.targets))
    ≡ map fault_of l.initial.found.items ++ map (missed_fault (parts_of l.text)) (filter (is_missed l.reading.machine) l.reading.targets)
