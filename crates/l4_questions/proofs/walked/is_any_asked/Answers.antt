use Rattle.std.proofs.Common.{subst, sym}
use Rattle.l4_questions.proofs.StuckThreads.{at_place}
use Rattle.l4_questions.proofs.walked.is_any_asked.Goals as goal

pub ending-requires : goal.ending-requires
ending-requires g c =
    let item = c.entries-item.result in
    subst (g.L.Listed.leads c.args.machine.now) (sym c.entries-item.is)
    (at_place (g.L.Listed.leads c.args.machine.now) item c.args.endings.now c.loop-entries.entries-index
    c.loop-entries-test.true c.requires)
