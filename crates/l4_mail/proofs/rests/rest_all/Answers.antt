use Rattle.std.proofs.Common.{arith}
use Rattle.l4_mail.proofs.Fabrics.{fabric_kept, all_beyond}
use Rattle.l4_mail.proofs.rests.rest_all.Goals as goal

pub rest_to-requires-clause-fabric : goal.rest_to-requires-clause-fabric
rest_to-requires-clause-fabric c = fabric_kept _ _ c.loop-to.invariant.same c.requires

pub returns-clause-whole : goal.returns-clause-whole
returns-clause-whole c = all_beyond _ c.loop-to.to (let t = c.loop-to-test.false in let e = c.loop-to.auto.ports in omega arith) c.loop-to.invariant.whole_so_far
