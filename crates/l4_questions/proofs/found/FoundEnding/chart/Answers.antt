use Rattle.std.proofs.Common.{ap, sym}
use Rattle.std.proofs.lemmas.Result.{IfOk-weaker}
use Rattle.l4_questions.specs.Endings.{Ending}
use Rattle.l4_questions.proofs.Drawn.{charted}
use Rattle.l4_questions.proofs.found.FoundEnding.chart.Goals as goal

pub returns-in-Some : goal.returns-in-Some
returns-in-Some c =
    IfOk-weaker c.whole_text.result _ _
    (λ lines is.
    charted c.args.chart c.in-Some.asked c.args.self.now c.self.inside.machine.now c.self.inside.trace.steps lines.items c.in-Some.is
    (sym (ap (λ (e : Ending). e.machine) c.self.view_is)) (sym (ap (λ (e : Ending). e.trace) c.self.view_is)) is)
    c.whole_text.ensures
