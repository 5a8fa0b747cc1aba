use Rattle.std.proofs.Common.{◌≡◌, drop}
use Rattle.l4_script.specs.Second.Texts.{first_missed}
use Rattle.l4_script.proofs.text.second.reading.first_missed.Given as goal

abbrev pub invariant-loop-target : goal.invariant-loop-target
invariant-loop-target l = first_missed l.labels l.size l.targets ≡ first_missed l.labels l.size (drop l.target-index l.targets)
