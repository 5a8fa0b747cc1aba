use Rattle.std.proofs.Common.{List, ℕ, length, ap, refl, ◌∙◌}
use Rattle.std.specs.Prelude.{◌==◌}
use Rattle.l4_expect.specs.Unmet.{expected_status}
use Rattle.l4_questions.specs.Asked.{asked_of}
use Rattle.l4_questions.proofs.Writing.{finished}
use Rattle.l4_questions.proofs.judged.Told.into_answer.Goals as goal

pub returns : goal.returns
returns c = λ shown expected endings had.
    let asked = asked_of c.args.question.now endings in
    finished c.args.question.now shown expected endings c.args.self c.args.lines.items
    c.args.self.unmet.items c.args.is_whole c.status_of-status.result c.status_beside.result had refl
    (c.status_of-status.ensures asked had.count)
    (c.status_beside.ensures
    ∙ ap (λ (unmet : List ℕ). expected_status (length unmet == 0) c.status_of-status.result)
    c.as_slice.ensures.value)
