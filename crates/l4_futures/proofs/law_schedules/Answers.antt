use Rattle.l4_futures.proofs.Kept.{schedules}
use Rattle.l4_futures.proofs.law_schedules.Goals as goal

pub returns : goal.returns
returns c = λ m timed. schedules m timed
