use Rattle.std.proofs.Common.{◌≡◌, drop}
use Rattle.std.specs.List.{list_all}
use Rattle.l4_model.specs.Machine.{Declaration}
use Rattle.l4_model.specs.Still.{is_still_thread}
use Rattle.l4_audit.proofs.world.World.are_still.Given as goal

abbrev pub invariant-loop-declared : goal.invariant-loop-declared
invariant-loop-declared l =
    list_all (λ (d : Declaration). is_still_thread l.self.machine l.self.world d.id) l.self.machine.threads
    ≡ list_all (λ (d : Declaration). is_still_thread l.self.machine l.self.world d.id) (drop l.declared-index l.declared-items)
