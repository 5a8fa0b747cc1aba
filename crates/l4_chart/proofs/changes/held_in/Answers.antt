use Rattle.std.proofs.Common.{arith, sym}
use Rattle.l4_audit.proofs.Places.{found_within}
use Rattle.l4_chart.proofs.changes.held_in.Goals as goal

pub held_of-requires : goal.held_of-requires
held_of-requires c =
    let within = found_within c.args.world.now.machine c.args.world.now.world c.args.id _ (sym c.in-Some.ensures) in
    omega (arith, within, c.facts.ensures.threads)
