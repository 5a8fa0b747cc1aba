use Rattle.std.proofs.Common.{map, take}
use Rattle.std.specs.List.{AllByRecursion}
use Rattle.l4_types.specs.ReportView.{report_of_view}
use Rattle.l4_refines.specs.Laws.{IsUndeleted}
use Rattle.l4_replay.proofs.homes.are_undeleted.Given as goal

abbrev pub invariant-loop-thread : goal.invariant-loop-thread
invariant-loop-thread l = AllByRecursion IsUndeleted (map report_of_view (take l.thread-index l.threads))
