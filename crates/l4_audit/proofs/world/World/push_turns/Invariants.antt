use Rattle.std.proofs.Common.{◌≡◌, ◌++◌, map, take}
use Rattle.std.specs.Prelude.{filter_map}
use Rattle.l4_types.specs.declared.owed.Owed.{Owed}
use Rattle.l4_types.specs.Inner.OwedView.{owed_of}
use Rattle.l4_types.specs.StepView.{step_of}
use Rattle.l4_audit.specs.Possible.{turn, where_possible}
use Rattle.l4_audit.proofs.world.World.push_turns.Given as goal

abbrev pub invariant-loop-owed : goal.invariant-loop-owed
invariant-loop-owed l =
    map step_of l.steps.items
    ≡ map step_of l.fn.steps.items
    ++ filter_map (λ (o : Owed). where_possible l.self.machine l.self.world (turn l.id (owed_of o))) (take l.owed-index l.owed-items)
