use Rattle.l4_part_tests.proofs.Counting.{found_ends}
use Rattle.l4_part_tests.proofs.counters.explore_counters.Goals as goal

pub returns : goal.returns
returns c = found_ends c.explore.result c.explore.ensures.explored
