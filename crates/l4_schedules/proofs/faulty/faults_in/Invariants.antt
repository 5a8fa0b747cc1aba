use Rattle.std.proofs.Common.{◌≡◌, ◌≤◌, ◌+◌, ◌++◌, length, map}
use Rattle.l4_replay.specs.Entries.{most_events}
use Rattle.l4_schedules.specs.Faulty.{faults_from}
use Rattle.l4_schedules.specs.Items.{items_of}
use Rattle.l4_schedules.specs.Inner.Views.{fault_of}
use Rattle.l4_schedules.proofs.faulty.faults_in.Given as goal

-- What was found, and the faults of the items that are left, are all faults.
abbrev pub invariant-loop-item : goal.invariant-loop-item
invariant-loop-item l = record {
  whole :
      map fault_of l.found.items ++ faults_from l.machine l.number l.items
      ≡ faults_from l.machine 1 (items_of l.list);
  counted : l.number + length l.items ≤ most_events + 1;
}

abbrev pub decreases-loop-item : goal.decreases-loop-item
decreases-loop-item l = length l.items
