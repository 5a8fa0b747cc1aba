use Rattle.std.proofs.Common.{refl, sym}
use Rattle.l4_machine.proofs.Ticked.{idle_rest}
use Rattle.l4_machine.proofs.team.Team.go_on.Goals as goal

pub returns-in-None-clause-rest : goal.returns-in-None-clause-rest
returns-in-None-clause-rest g c = λ e.
    let idle = c.if-not-is_idle.ensures.0 refl in
    idle_rest c.args.self.now.processors.items idle.0 idle.1 (sym c.in-None.ensures.value)
