use Rattle.l4_quiet.proofs.Outcomes.{run_quiet, replay_quiet, gathered_quiet}
use Rattle.l4_questions.proofs.Quiet.{is_ending}
use Rattle.l4_questions.proofs.met.law_each_run_is_met.Goals as goal

pub returns-clause-of_run : goal.returns-clause-of_run
returns-clause-of_run c = λ m q expected most o machine all found quiet w at.
    all o.history w
    (is_ending m o found.outcome.is_true (run_quiet m most o machine found) quiet w at)

pub returns-clause-of_replay : goal.returns-clause-of_replay
returns-clause-of_replay c = λ m q expected entries o machine all outcome quiet w at.
    all o.history w
    (is_ending m o outcome.is_true (replay_quiet m entries o machine outcome) quiet w at)

pub returns-clause-of_gathered : goal.returns-clause-of_gathered
returns-clause-of_gathered c = λ m q expected processors o machine all gathered quiet w at.
    all o.history w
    (is_ending m o gathered.outcome.is_true (gathered_quiet m processors o machine gathered) quiet w at)
