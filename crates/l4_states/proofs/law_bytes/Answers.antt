use Rattle.l4_states.proofs.Bytes.{bytes_apart}
use Rattle.l4_states.proofs.law_bytes.Goals as goal

pub returns : goal.returns
returns c = bytes_apart
