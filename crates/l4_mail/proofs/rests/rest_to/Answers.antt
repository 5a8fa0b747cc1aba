use Rattle.std.proofs.Common.{arith}
use Rattle.l4_mail.proofs.Fabrics.{fabric_kept, whole_beyond}
use Rattle.l4_mail.proofs.rests.rest_to.Goals as goal

pub rest_pair-requires-clause-fabric : goal.rest_pair-requires-clause-fabric
rest_pair-requires-clause-fabric c = fabric_kept _ _ c.loop-from.invariant.same c.requires.fabric

pub returns-clause-rested : goal.returns-clause-rested
returns-clause-rested c = record {
  whole = whole_beyond _ c.loop-from.from _ (let t = c.loop-from-test.false in let e = c.loop-from.auto.ports in omega arith) c.loop-from.invariant.whole_so_far;
  stays = c.loop-from.invariant.stays;
}
