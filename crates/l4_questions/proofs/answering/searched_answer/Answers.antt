use Rattle.std.proofs.Common.{◌≡◌, inl, refl, rules}
use Rattle.std.specs.Prelude.{IfErr}
use Rattle.std.specs.Option.{option_copied}
use Rattle.l4_questions.specs.Answers.{endings_after}
use Rattle.l4_questions.specs.Beside.{shown_as}
use Rattle.l4_questions.specs.Printed.{endings_text}
use Rattle.l4_questions.specs.Told.{BreaksOff, HasBegun}
use Rattle.l4_questions.specs.declared.question.QuestionFault.TheVariants.{NoMemory}
use Rattle.l4_questions.specs.declared.teller.TellFault.TheVariants.{NoAnswer}
use Rattle.l4_questions.proofs.Begun.{begun_all}
use Rattle.l4_questions.proofs.Some.{if_err}
use Rattle.l4_questions.proofs.answering.searched_answer.Goals as goal

-- Memory was refused when all endings were told.
pub returns-in_err-answer-clause-err : goal.returns-in_err-answer-clause-err
returns-in_err-answer-clause-err g c =
    let m = c.args.machine.now in
    let q = c.args.question.now in
    let shown = shown_as c.args.beside.shown in
    let takes = g.T.Teller.takes c.args.teller.now c.told_endings.new.teller in
    let all = c.in_ok-looked.ensures.ok in
    let is : IfErr c.from_residual-in_err-answer.result (λ f. f ≡ NoAnswer NoMemory) = search rules in
    if_err c.from_residual-in_err-answer.result (NoAnswer NoMemory)
    (BreaksOff takes q (HasBegun takes m q shown)) is (
    inl (
      refl,
      begun_all takes m q shown (option_copied c.args.beside.expected) c.in_ok-looked.told
          c.requires.lawful c.in_ok-looked.looked all,
    )
    )

pub returns-clause-ok : goal.returns-clause-ok
returns-clause-ok g c =
    let m = c.args.machine.now in
    let q = c.args.question.now in
    let shown = shown_as c.args.beside.shown in
    let all = c.in_ok-looked.ensures.ok in
    record {
      told = endings_text shown q (endings_after m all.traces);
      taken = all.taken;
      answer = c.in_ok-answer.ensures shown (option_copied c.args.beside.expected) all.traces all.any
          all.counted all.found;
    }
