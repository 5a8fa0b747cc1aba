use Rattle.std.proofs.Common.{◌≡◌, take}
use Rattle.l4_chart.specs.Changes.{changes_since}
use Rattle.l4_chart.proofs.changes.changes_since.Given as goal

abbrev pub invariant-loop-before : goal.invariant-loop-before
invariant-loop-before l = l.changes.items ≡ changes_since l.world.machine l.world.world (take l.before-index l.held)
