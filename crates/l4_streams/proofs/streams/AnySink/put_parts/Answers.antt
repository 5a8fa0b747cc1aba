use Rattle.l4_streams.proofs.Appending.{flushed}
use Rattle.l4_streams.proofs.streams.AnySink.put_parts.Goals as goal

pub returns : goal.returns
returns g c = flushed _ _ _ _ _ c.in_ok-write_parts.ensures c.flush.ensures
