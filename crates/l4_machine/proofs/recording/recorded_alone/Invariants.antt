use Rattle.std.proofs.Common.{◌≡◌, map}
use Rattle.l4_bisimilar.specs.Entries.{entry_of}
use Rattle.l4_core_model.specs.Schedules.{CoreOf}
use Rattle.l4_proc.specs.Logs.{actions}
use Rattle.l4_replay.specs.Entries.{entry_from}
use Rattle.l4_machine.proofs.Named.{named}
use Rattle.l4_machine.proofs.recording.recorded_alone.Given as goal

abbrev pub invariant-loop-i : goal.invariant-loop-i
invariant-loop-i l = map entry_from l.entries.items ≡ named l.i (map entry_of (actions l.log)) (CoreOf l.cpu)
