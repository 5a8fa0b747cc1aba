use Rattle.std.proofs.Common.{◌≡◌, take}
use Rattle.std.specs.Prelude.{filter_map}
use Rattle.l4_model.specs.Machine.{Declaration}
use Rattle.l4_waits.specs.Held.{held_of}
use Rattle.l4_waits.proofs.held.held_sends.Given as goal

abbrev pub invariant-loop-declared : goal.invariant-loop-declared
invariant-loop-declared l =
    l.sends.items ≡ filter_map (λ (d : Declaration). held_of l.world.machine l.world.world d.id) (take l.declared-index l.declared-items)
