use Rattle.l4_persistent.proofs.Closed.{closed_persistent}
use Rattle.l4_persistent.proofs.law_persistent.Goals as goal

pub returns : goal.returns
returns c = λ m aims r set machine is right closed. closed_persistent m machine set aims r is right closed
