use Rattle.std.proofs.Common.{refl, arith}
use Rattle.l4_machine.proofs.team.Team.run.Goals as goal

pub loop-init : goal.loop-init
loop-init g c =
    let fresh = c.requires.fresh in
    let some = c.facts.ensures.some in
    record { team = c.requires.team; machine = refl; turns = refl; fewer = omega arith; some = omega arith }

pub events-requires : goal.events-requires
events-requires g c =
    let fewer = c.loop.invariant.fewer in
    let limit = c.facts.ensures.limit in
    let few = c.requires.few in
    record { few = omega arith }
