use Rattle.std.proofs.Common.{sym, subst}
use Rattle.l4_proc.specs.Working.{HasGoneOn}
use Rattle.l4_proc.proofs.Going.{gone_trans}
use Rattle.l4_host_tests.proofs.gathers.takes.Goals as goal
use Rattle.l4_host_tests.proofs.gathers.takes.Goals.{then-eq, else-eq}

pub returns-then-whole : goal.returns-then-whole
returns-then-whole g c =
    let old = c.args.processor.now in
    let once = c.work-stop.ensures in
    elim c.if-eq.branch [
      | then-eq w ↦ subst (HasGoneOn old) (sym w.processor-is)
          (gone_trans old c.work-stop.new.processor w.work-stop-then-eq.new.processor once w.work-stop-then-eq.ensures)
      | else-eq w ↦ subst (HasGoneOn old) (sym w.processor-is) once
    ]

pub returns-else-whole : goal.returns-else-whole
returns-else-whole g c =
    let old = c.args.processor.now in
    let once = c.work-stop.ensures in
    elim c.if-eq.branch [
      | then-eq w ↦ subst (HasGoneOn old) (sym w.processor-is)
          (gone_trans old c.work-stop.new.processor w.work-stop-then-eq.new.processor once w.work-stop-then-eq.ensures)
      | else-eq w ↦ subst (HasGoneOn old) (sym w.processor-is) once
    ]
