use Rattle.std.proofs.Common.{◌≡◌, ◌++◌, take, map}
use Rattle.l4_schedules.specs.Faulty.{faults_text}
use Rattle.l4_schedules.specs.Inner.Views.{fault_of}
use Rattle.l4_schedules.proofs.faulty.push_faults.Given as goal

abbrev pub invariant-loop-fault : goal.invariant-loop-fault
invariant-loop-fault l =
    l.out.items ≡ l.initial.out.items ++ faults_text (map fault_of (take l.fault-index l.found))
