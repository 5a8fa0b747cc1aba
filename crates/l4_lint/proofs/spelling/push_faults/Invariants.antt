use Rattle.std.proofs.Common.{◌≡◌, ◌++◌, take, map}
use Rattle.std.specs.Option.{option_copied}
use Rattle.l4_lint.specs.Spelling.{faults_text}
use Rattle.l4_lint.specs.Inner.Views.{fault_of}
use Rattle.l4_lint.proofs.spelling.push_faults.Given as goal

abbrev pub invariant-loop-fault : goal.invariant-loop-fault
invariant-loop-fault l =
    l.out.items ≡ l.initial.out.items ++ faults_text (option_copied l.file) (map fault_of (take l.fault-index l.found))
