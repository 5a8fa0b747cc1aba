use Rattle.l4_quiet.proofs.Outcomes.{core_run_quiet, run_quiet, replay_quiet, gathered_quiet}
use Rattle.l4_quiet.proofs.law_quiet_is_untimed.Goals as goal

pub returns-clause-of_run : goal.returns-clause-of_run
returns-clause-of_run c = run_quiet

pub returns-clause-of_replay : goal.returns-clause-of_replay
returns-clause-of_replay c = replay_quiet

pub returns-clause-of_gathered : goal.returns-clause-of_gathered
returns-clause-of_gathered c = gathered_quiet

pub returns-clause-of_core_run : goal.returns-clause-of_core_run
returns-clause-of_core_run c = core_run_quiet
