use Rattle.l4_rounds.proofs.Ended.{rest_ends, rest_is_run}
use Rattle.l4_rounds.proofs.laws.law_rest.Goals as goal

pub returns-clause-core_run : goal.returns-clause-core_run
returns-clause-core_run c = rest_is_run

pub returns-clause-ended : goal.returns-clause-ended
returns-clause-ended c = λ m turns r machine ran.
    rest_ends m turns r machine (λ q there. (c.law_of_core_runs.ensures m q machine there).letters) ran
