use Rattle.l4_replay.proofs.laws.law_core_run.Goals as goal

pub returns-clause-merged : goal.returns-clause-merged
returns-clause-merged c m r is ran =
    let other = c.law_reorder.ensures.whole m r ran in
    (other.0, record { reordered = other.1; lawful = c.law_of_core_runs.ensures m other.0 is other.1.core_run })
