use Rattle.l4_merge.proofs.Wholes.{opening_ends, make_whole, whole_sorts_as_merged}
use Rattle.l4_merge.proofs.Sorted.{length-merged}
use Rattle.l4_merge.proofs.LocalTracesOfRuns.{has_pasts}
use Rattle.l4_merge.proofs.GoingOn.{merge, merge_turns}
use Rattle.l4_merge.proofs.Ticking.{ends_ticked}
use Rattle.l4_merge.proofs.ClocksOfEvents.{turned_clock}
use Rattle.l4_merge.proofs.Permuted.{permuted}
use Rattle.l4_merge.proofs.InRounds.{is_core_run}
use Rattle.l4_merge.proofs.Shares.{at_most}
use Rattle.l4_merge.proofs.CoreRuns.{stays_core_run}
use Rattle.l4_merge.proofs.Rest.{rests, rested}
use Rattle.l4_merge.proofs.law_merge.Goals as goal

pub returns-clause-whole : goal.returns-clause-whole
returns-clause-whole c = make_whole

pub returns-clause-sorted : goal.returns-clause-sorted
returns-clause-sorted c = whole_sorts_as_merged

pub returns-clause-count : goal.returns-clause-count
returns-clause-count c = length-merged

pub returns-clause-pasts : goal.returns-clause-pasts
returns-clause-pasts c = has_pasts

pub returns-clause-opening : goal.returns-clause-opening
returns-clause-opening c = opening_ends

pub returns-clause-goes_on : goal.returns-clause-goes_on
returns-clause-goes_on c = merge

pub returns-clause-turns : goal.returns-clause-turns
returns-clause-turns c = merge_turns

pub returns-clause-ticks : goal.returns-clause-ticks
returns-clause-ticks c = ends_ticked

pub returns-clause-clocks : goal.returns-clause-clocks
returns-clause-clocks c = turned_clock

pub returns-clause-permuted : goal.returns-clause-permuted
returns-clause-permuted c = permuted

pub returns-clause-in_rounds : goal.returns-clause-in_rounds
returns-clause-in_rounds c = is_core_run

pub returns-clause-shares : goal.returns-clause-shares
returns-clause-shares c = at_most

pub returns-clause-core_run : goal.returns-clause-core_run
returns-clause-core_run c = stays_core_run

pub returns-clause-rest : goal.returns-clause-rest
returns-clause-rest c = λ m pasts r ends. (rested m pasts r ends, rests m pasts r ends)
