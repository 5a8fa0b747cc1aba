use Rattle.l4_merge.proofs.Reordered.{reorder, run_sorts_as_merged}
use Rattle.l4_merge.proofs.law_reorder.Goals as goal

pub returns-clause-whole : goal.returns-clause-whole
returns-clause-whole c = reorder

pub returns-clause-sorted : goal.returns-clause-sorted
returns-clause-sorted c = run_sorts_as_merged
