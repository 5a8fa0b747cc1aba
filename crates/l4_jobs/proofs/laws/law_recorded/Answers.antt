use Rattle.l4_jobs.specs.Schedules.{IsReplayAsked, IsRunAsked}
use Rattle.l4_jobs.proofs.Records.{repeated}
use Rattle.l4_jobs.proofs.laws.law_recorded.Goals as goal

pub returns-clause-run : goal.returns-clause-run
returns-clause-run c = λ printed text m turns name expected o done. (
  done.recorded.0,
  done.recorded.1,
  λ list other is. repeated printed text m (IsRunAsked m turns) name expected o done list other is,
)

pub returns-clause-replay : goal.returns-clause-replay
returns-clause-replay c = λ printed text m rest asked read name expected o done. (
  done.recorded.0,
  done.recorded.1,
  λ list other is. repeated printed text m (IsReplayAsked m rest asked read) name expected o done list other is,
)
