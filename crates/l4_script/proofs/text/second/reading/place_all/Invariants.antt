use Rattle.std.proofs.Common.{◌≡◌, ◌<◌, length, drop}
use Rattle.l4_script.specs.Machines.{last_thread, with_last_script}
use Rattle.l4_script.specs.Second.Texts.{placed}
use Rattle.l4_script.proofs.text.second.reading.place_all.Given as goal

abbrev pub invariant-loop-target : goal.invariant-loop-target
invariant-loop-target l =
    record {
      some : 0 < length l.machine.threads;
      whole : with_last_script (placed l.labels l.targets (last_thread l.initial.machine).script) l.initial.machine
          ≡ with_last_script (placed l.labels (drop l.target-index l.targets) (last_thread l.machine).script) l.machine;
    }
