use Rattle.std.proofs.Common.{rules}
use Rattle.std.specs.Option.{option_copied}
use Rattle.std.proofs.lemmas.Result.{err_from_is_err_and}
use Rattle.l4_questions.specs.Beside.{shown_as}
use Rattle.l4_jobs.proofs.Begun.{answered_onto, broken_onto}
use Rattle.l4_jobs.proofs.streaming.written_endings.Goals as goal

pub returns-in_err-answer-clause-err : goal.returns-in_err-answer-clause-err
returns-in_err-answer-clause-err g c =
    let told = err_from_is_err_and c.from_residual-in_err-answer.result c.from_residual-in_err-answer.ensures.1 in
    let shown = c.beside_of-beside.ensures.shown c.args.text.now c.in_ok-listing.ensures in
    rw (told.1, told.2) (broken_onto g.W.Sink.takes _ c.args.out.now c.told_by.new.teller.sink.now _ c.args.search.now c.args.text.now c.args.machine.now c.question_of-question.result
    (shown_as c.beside_of-beside.result.shown) _ c.question_of-question.ensures shown c.in_ok-judge_rests.ensures.ok c.in_err-answer.ensures.err (search rules))

pub returns-clause-ok : goal.returns-clause-ok
returns-clause-ok g c =
    let shown = c.beside_of-beside.ensures.shown c.args.text.now c.in_ok-listing.ensures in
    answered_onto g.W.Sink.takes _ c.args.out.now c.told_by.new.teller.sink.now _ c.args.search.now c.args.text.now c.args.machine.now c.question_of-question.result
    (option_copied c.args.expected) (option_copied c.beside_of-beside.result.expected) (shown_as c.beside_of-beside.result.shown) _ _ _ _ c.question_of-question.ensures shown
    c.beside_of-beside.ensures.expected c.answer_out.ensures c.in_ok-answer.ensures.ok (search rules)
