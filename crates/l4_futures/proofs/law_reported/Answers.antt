use Rattle.l4_futures.proofs.Reported.{reported_alike}
use Rattle.l4_futures.proofs.law_reported.Goals as goal

pub returns : goal.returns
returns c = reported_alike
