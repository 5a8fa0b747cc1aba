use Rattle.l4_proc.proofs.Going.{opened_past}
use Rattle.l4_proc.proofs.processor.Processor.new.Goals as goal

pub returns-clause-opened : goal.returns-clause-opened
returns-clause-opened c =
    rw (← c.new.ensures.core) (opened_past c.args.port c.new.result c.requires.fresh c.new.ensures.ends c.new.ensures.hand)
