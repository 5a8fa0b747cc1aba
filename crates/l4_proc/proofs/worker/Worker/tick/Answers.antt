use Rattle.l4_proc.proofs.worker.Worker.tick.Goals as goal

pub returns-clause-ok : goal.returns-clause-ok
returns-clause-ok c = record {
  before = c.begin.new.self;
  after = c.advance-stamp.new.self.log;
  stamp = c.advance-stamp.result;
  choice = c.tick_number.result;
  is = record {
    begun = c.in_ok-begin.ensures.ok;
    event = c.advance-stamp.ensures.event;
    hand = c.advance-stamp.ensures.hand;
    stop = c.advance-stamp.ensures.stop;
    cpu = c.advance-stamp.ensures.log.0;
    ends = c.advance-stamp.ensures.log.1;
    ticks = c.advance-stamp.ensures.log.2;
    happened = c.tick_number.ensures;
    ended = c.end_tick.ensures;
  };
}
