use Rattle.l4_streams.proofs.Appending.{taken}
use Rattle.l4_streams.proofs.streams.write_some.Goals as goal

pub returns-in-Ok-clause-some : goal.returns-in-Ok-clause-some
returns-in-Ok-clause-some g c = taken _ _ c.args.bytes.now c.in-Ok.count c.in-Ok.ensures.bound c.in-Ok.ensures.bytes
