use Rattle.std.proofs.Common.{◌≡◌, map, take}
use Rattle.l4_model.specs.History.{report_of}
use Rattle.l4_types.specs.ReportView.{report_of_view}
use Rattle.l4_thread.specs.Inner.Parts.{Block}
use Rattle.l4_audit.proofs.world.World.threads.Given as goal

abbrev pub invariant-loop-tcb : goal.invariant-loop-tcb
invariant-loop-tcb l = map report_of_view l.views.items ≡ map (λ (b : Block). report_of b.id b.thread) (take l.tcb-index l.tcb-items)
