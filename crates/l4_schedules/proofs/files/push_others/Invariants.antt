use Rattle.std.proofs.Common.{◌≡◌, ◌++◌, length}
use Rattle.std.specs.Prelude.{codes, flat_map}
use Rattle.l4_schedules.specs.InFiles.{trimmed}
use Rattle.l4_schedules.proofs.files.push_others.Given as goal

abbrev pub invariant-loop-item : goal.invariant-loop-item
invariant-loop-item l = l.list.items ++ flat_map (λ item. codes "," ++ trimmed item) l.items ≡ l.initial.list.items ++ flat_map (λ item. codes "," ++ trimmed item) l.initial.items

abbrev pub decreases-loop-item : goal.decreases-loop-item
decreases-loop-item l = length l.items
