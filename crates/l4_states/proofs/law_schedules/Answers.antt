use Rattle.l4_states.proofs.Following.{are_schedules}
use Rattle.l4_states.proofs.law_schedules.Goals as goal

pub returns : goal.returns
returns c = are_schedules
