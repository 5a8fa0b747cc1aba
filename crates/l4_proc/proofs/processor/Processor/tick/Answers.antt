use Rattle.std.proofs.Common.{refl}
use Rattle.l4_proc.proofs.Going.{tried_whole, has_stayed, has_tried}
use Rattle.l4_proc.proofs.processor.Processor.tick.Goals as goal

pub invariant_of-self : goal.invariant_of-self
invariant_of-self c = record { whole = tried_whole c.args.to c.args.self.now.port c.args.self.now.worker _ c.tick.result c.tick.ensures.ok c.tick.ensures.err c.args.self.now.whole }

pub returns-clause-ok : goal.returns-clause-ok
returns-clause-ok c = has_tried c.args.to c.args.self.now _ c.tick.result refl c.args.self.now.whole c.tick.ensures.ok

pub returns-clause-err : goal.returns-clause-err
returns-clause-err c = has_stayed c.args.self.now _ c.tick.result refl c.tick.ensures.stop c.tick.ensures.err
