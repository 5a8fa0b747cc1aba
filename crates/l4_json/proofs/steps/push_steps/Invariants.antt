use Rattle.std.proofs.Common.{◌≡◌, ◌++◌, true, Some, drop, take}
use Rattle.std.specs.List.{list_all}
use Rattle.l4_trace.specs.Lines.{has_line}
use Rattle.l4_model.specs.History.{reached, run}
use Rattle.l4_model.specs.World.{World, opening}
use Rattle.l4_json.specs.Steps.{steps_text}
use Rattle.l4_json.proofs.steps.push_steps.Given as goal

abbrev pub invariant-loop-place : goal.invariant-loop-place
invariant-loop-place l =
    (l.world.machine ≡ l.machine)
    × (reached l.machine (take l.place l.history.steps) ≡ Some l.world.world)
    × ((last : World) × (run l.machine l.world.world (drop l.place l.history.steps) ≡ Some last))
    × (l.out.items ++ steps_text l.machine l.lines l.world.world (drop l.place l.history.steps)
    ≡ l.initial.out.items ++ steps_text l.machine l.lines (opening l.machine) l.history.steps)
    × (list_all has_line (take l.place l.history.steps) ≡ true)
